-- What `rewrite` writes is accepted by the calls that take alternatives as lists, and they answer by it what document
-- 01 defines for the tree: at every row, at all rows, in the totals and at every push. All over the contracts alone,
-- for every result that they allow.
--   rewrite_done                         where there is room, the call is done
--   written_tree, written_names          the tree is accepted, and the names are 1 to 32
--   written_are                          the lists are those of the tree's alternatives
--   rewritten_accepted                   the lists are accepted
--   match_as_tree, all_as_tree, totals_as_tree, push_as_tree     each call by them comes to what the call by the tree
--   comes to
--   rewritten_found                      a row's answer, and the number tried
--   rewritten_filled                     the lists of all answers and all numbers tried
--   rewritten_counted                    the totals
--   rewritten_pushed, rewritten_never_refused      a feed of any length
use Rattle.std.specs.Prelude.{Err, Ok}
use Prim.Native.Nat.{ℕ, suc, ◌<◌, ◌≤◌}
use native.Mathlib.Omega.{arith}
use mathlib.Core.Path.{◌≡◌, refl, ap, sym, ◌∙◌}
use mathlib.Core.List.{List}
use lib.ListN.{length}
use Rattle.basics.specs.Refusing.{Outcome}
use Rattle.basics.specs.Memory.{after}
use Rattle.basics.specs.Words.{listed}
use Rattle.basics.proofs.Stable.{le_stable}
use Rattle.alf.specs.declared.Rules.{Rules}
use Rattle.alf.specs.declared.Sort.TheVariants.{Vector}
use Rattle.alf.specs.Alternatives.{Alternative, alternatives, number_of_alternatives}
use Rattle.alf.specs.Refusals.{NameCount, Rising, Passed, Comes}
use Rattle.alf.proofs.Outcomes.{refused_passed}
use Rattle.acceptance.specs.Accepted.{Accepted}
use Rattle.states.specs.FirstBadCode.{Codes}
use Rattle.alternatives.specs.InMemory.{sum, alternatives_of_lem}
use Rattle.steady_pins.specs.Finding.{pins_of}
use Rattle.text_laws.proofs.AcceptedStable.{accepted_stable}
use Rattle.matcher.specs.declared.tables.Total.{Total}
use Rattle.timed_queue.specs.declared.queues.Queue.{Queue}
use Rattle.queue.specs.Queues.{fed}
use Rattle.rewriting.specs.Lists.{joined, alternatives_at, step_list, test_list, edge_list, operand_list}
use Rattle.rewriting_calls.specs.Calls.{tree_order, room_order, Rewrites}
use Rattle.rewriting.proofs.Bounds.{ready_bounded, few_steps, few_tests}
use Rattle.rewriting.proofs.Holding.{step_entries, test_entries, edge_entries, operand_entries, front_taken}
use Rattle.rewriting.proofs.Joining.{lengths_sum}
use Rattle.rewriting_calls.proofs.Theorems.{rewritten_stand, steps_own}
use Rattle.judging.specs.Orders.{Rows}
use Rattle.matching_calls.specs.Matching.{Matching}
use Rattle.matching_calls.specs.Matching.{Counting}
use Rattle.matching_calls.specs.Matching.{expression, Lent, RowMatch, FillsTree, AllMatched}
use Rattle.matching_calls.specs.Matching.{TotalsTree, Counts, RowTotals}
use Rattle.queue_calls.specs.Pushing.{Push}
use Rattle.call_laws.proofs.Passing.{codes_passed, timed_passed}
use Rattle.call_laws.proofs.Routes.{FoundAt, matched, told_by, never_refused}
use Rattle.call_laws.proofs.Routes.{pushed_found}
use Rattle.listed_acceptance.specs.Lists.{AcceptedAlternatives}
use Rattle.listed_calls.specs.Listed.{ListedMatch, ListedAll, ListedTotals, ListedPush}
use Rattle.rewritten_laws.specs.WrittenOut.{WrittenOut}
use Rattle.rewritten_laws.proofs.Accepting.{lists_accepted}
use Rattle.rewritten_laws.proofs.SameCalls as same

-- with 1 to 32 names, an accepted tree, and lists as long as limit 8 can ask for, `rewrite` is done
pub rewrite_done : {ρ : Rules} {names : ℕ} {tree steps tests edges operands steps' tests' edges' operands' : List ℕ}
    → NameCount names → Accepted ρ names Vector tree → 64 ≤ length steps → 1024 ≤ length tests
    → 4096 ≤ length edges → 4096 ≤ length operands → (r : Outcome)
    → Rewrites ρ names tree steps tests edges operands steps' tests' edges' operands' r
    → r ≡ Ok (number_of_alternatives (expression ρ tree names))
unfolding Comes Passed tree_order room_order
rewrite_done n a s t e o (Ok k) w = ap Ok w.outcome.1
rewrite_done {ρ} {names} {tree} n a s t e o (Err r) w =
    let xs = alternatives_at ρ tree names in
    let b = ready_bounded (pins_of ρ tree names (length tree)) tree names
    (record { rules = ρ; accepted = a; found = refl }) in
    absurd
    (refused_passed _ _ _ (
      λ p x. x.given n,
      (
        λ p x. x.given a,
        (
          λ p x. omega (arith, x.given, step_entries xs, b.few),
          (
            λ p x. omega (arith, x.given, test_entries xs, few_steps b),
            (
              λ p x. omega (arith, x.given, edge_entries xs, few_tests b),
              (λ p x. omega (arith, x.given, operand_entries xs, few_tests b), tt),
            ),
          ),
        ),
      ),
    )
    w.outcome.by)

module _ {ρ : Rules} {names : ℕ} {tree steps tests edges operands : List ℕ}
    (w : WrittenOut ρ names tree steps tests edges operands) where
  abbrev xs : List Alternative
  xs = alternatives_at ρ tree names

  passed : Passed
      (tree_order ρ names tree
      (room_order xs w.lent.steps w.lent.tests w.lent.edges w.lent.operands))
  unfolding Comes
  passed = w.done.outcome.0

  pub written_tree : Accepted ρ names Vector tree
  unfolding Passed tree_order
  written_tree = accepted_stable ρ names Vector tree (λ n. passed.1.0 0 (record { given = n; there = refl }))

  pub written_names : NameCount names
  unfolding Passed tree_order
  written_names = (
    le_stable 1 names (λ n. passed.0 0 (record { given = λ c. n c.0; there = refl })),
    le_stable names 32 (λ n. passed.0 0 (record { given = λ c. n c.1; there = refl })),
  )

  -- the lists are those of the tree's alternatives
  as_many : w.number ≡ length (step_list xs)
  unfolding Comes number_of_alternatives
  as_many =
      w.done.outcome.1 ∙ sym (step_entries (alternatives (expression ρ tree names)))
      ∙ ap length (sym (steps_own ρ tree names written_tree))

  steps_written : steps ≡ step_list xs
  unfolding after
  steps_written = w.steps_are ∙ front_taken (step_list xs) _ w.done.memory.steps_are as_many

  steps_sum : sum steps ≡ length (test_list xs)
  unfolding step_list
  steps_sum = ap sum steps_written ∙ lengths_sum xs ∙ sym (test_entries xs)

  tests_written : tests ≡ test_list xs
  unfolding after
  tests_written = w.tests_are ∙ front_taken (test_list xs) _ w.done.memory.tests_are steps_sum

  tests_sum : sum tests ≡ length (joined (joined xs))
  unfolding test_list
  tests_sum = ap sum tests_written ∙ lengths_sum (joined xs)

  edges_written : edges ≡ edge_list xs
  unfolding after
  edges_written =
      w.edges_are
      ∙ front_taken (edge_list xs) _ w.done.memory.edges_are (tests_sum ∙ sym (edge_entries xs))

  operands_written : operands ≡ operand_list xs
  unfolding after
  operands_written =
      w.operands_are
      ∙ front_taken (operand_list xs) _ w.done.memory.operands_are (tests_sum ∙ sym (operand_entries xs))

  pub rewritten_accepted : AcceptedAlternatives names tree steps tests edges operands
  rewritten_accepted =
      rw (steps_written, tests_written, edges_written, operands_written) (lists_accepted names tree written_tree)

  pub written_are : alternatives_of_lem tree names steps tests edges operands ≡ alternatives (expression ρ tree names)
  written_are =
      rw (steps_written, tests_written, edges_written, operands_written) (rewritten_stand ρ tree names written_tree)

  -- each call by the lists comes to what the call by the tree comes to
  module _ {n : ℕ} {states : List ℕ} where
    pub match_as_tree : {times : List ℕ} {row : ℕ} (y : Matching)
        → ListedMatch ρ names n tree steps tests edges operands states times row y
        → RowMatch ρ names n tree times states row y
    match_as_tree = same.match_same written_tree rewritten_accepted written_are

    pub all_as_tree : {times answers tried given began answers' tried' given' began' : List ℕ} (r : Outcome)
        → ListedAll ρ names n tree steps tests edges operands states times answers tried given began answers' tried'
        given' began' r
        → AllMatched ρ names n tree times states answers tried given began answers' tried' given' began' r
    all_as_tree = same.all_same written_tree rewritten_accepted written_are

    pub totals_as_tree : (z : Counting) → ListedTotals ρ names n tree steps tests edges operands states z
        → RowTotals ρ names n tree states z
    totals_as_tree = same.totals_same written_tree rewritten_accepted written_are

  pub push_as_tree : {q q' : Queue} {time : ℕ} {row : List ℕ} (z : Matching)
      → ListedPush ρ names tree steps tests edges operands q time row z q' → Push ρ names tree q time row z q'
  push_as_tree = same.push_same written_tree rewritten_accepted written_are

  -- so, for every trace whose rows fit and hold codes, no call is refused, and what it tells is the document's
  module _ {n : ℕ} {states : List ℕ} (fit : Rows names n (length states)) (codes : Codes states) where
    module _ {times : List ℕ} (stamped : length times ≡ n) (rising : Rising times) where
      pub rewritten_found : {row : ℕ} → row < n → (y : Matching)
          → ListedMatch ρ names n tree steps tests edges operands states times row y
          → FoundAt ρ names tree times states row y
      rewritten_found l y m = matched fit written_tree codes l stamped rising y (match_as_tree y m)

      pub rewritten_filled : {answers tried given began answers' tried' given' began' : List ℕ} → length answers ≡ n
          → length tried ≡ n → length given ≡ n → length began ≡ n → (r : Outcome)
          → ListedAll ρ names n tree steps tests edges operands states times answers tried given began answers' tried'
          given' began' r
          → (r ≡ Ok n) × FillsTree ρ names n tree times states answers' tried' given' began'
      unfolding Comes after
      rewritten_filled a t g b (Ok k) m =
          let x = all_as_tree (Ok k) m in (
            ap Ok x.comes.1,
            record {
              answers = x.answers_memory;
              counts = x.tried_memory;
              flags = x.given_memory;
              stamps = x.began_memory;
            },
          )
      rewritten_filled a t g b (Err r) m =
          let x = all_as_tree (Err r) m in
          let lent : Lent n (length times) _ _ _ _ =
          record { times_all = stamped; answers_all = a; tried_all = t; given_all = g; began_all = b } in
          absurd
          (refused_passed _ _ _ (timed_passed states times (lent, fit) written_tree codes rising) x.comes.by)

    pub rewritten_counted : (z : Counting)
        → ListedTotals ρ names n tree steps tests edges operands states z
        → (t : Total) × ((z ≡ Ok t) × TotalsTree ρ names n tree states t.yes t.no t.unknown)
    unfolding Counts
    rewritten_counted (Ok t) m = (t, (refl, (totals_as_tree (Ok t) m).comes.1))
    rewritten_counted (Err r) m =
        let x = totals_as_tree (Err r) m in
        absurd (refused_passed _ _ _ (codes_passed states fit written_tree codes) x.comes.by)

  -- and for every feed of rows that hold codes, with times that rise, the first pushed into a queue that keeps nothing
  module _ {n : ℕ} {rows : ℕ → List ℕ} {times : ℕ → ℕ} {queues : ℕ → Queue} {results : ℕ → Matching}
      (first : (queues 0).rows.kept.0 ≡ 0) (full : (i : ℕ) → i < n → length (rows i) ≡ names)
      (good : (i : ℕ) → i < n → Codes (rows i)) (rise : (i : ℕ) → suc i < n → times i < times (suc i))
      (pushed : (i : ℕ) → i < n
      → ListedPush ρ names tree steps tests edges operands (queues i) (times i) (rows i) (results i) (queues (suc i)))
    where
      pushed_tree : (i : ℕ) → i < n → Push ρ names tree (queues i) (times i) (rows i) (results i) (queues (suc i))
      pushed_tree i l = push_as_tree (results i) (pushed i l)

      pub rewritten_never_refused : (i : ℕ) → i < n → results i ≡ Ok (told_by (results i))
      rewritten_never_refused = never_refused written_names written_tree first full good rise pushed_tree

      pub rewritten_pushed : (i : ℕ) → i < n
          → FoundAt ρ names tree (listed 0 n times) (fed rows n) i (results i)
      rewritten_pushed = pushed_found written_names written_tree first full good rise pushed_tree
