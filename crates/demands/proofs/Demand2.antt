-- Demand 2 holds, of a pattern. Main name: demand_2.
use Rattle.std.specs.Prelude.{Err, Ok}
use Rattle.std.specs.Prelude.{None, Some}
use Prim.Native.Nat.{ℕ, zero, suc, ◌+◌, ◌-◌, ◌*◌, ◌<◌, ◌≤◌, max}
use native.Mathlib.Nat.{suc-mul, zero-mul}
use native.Mathlib.Omega.{arith}
use mathlib.Core.Path.{◌≡◌, refl, sym, ap, ◌∙◌, subst}
use mathlib.Core.List.{List}
use lib.ListN.{length, get_or, take, drop}
use lib.Seq.{take-add, take_all}
use Rattle.basics.specs.Refusing.{Outcome}
use Rattle.basics.specs.Words.{listed}
use Rattle.basics.specs.Memory.{after}
use Rattle.alf.specs.Expressions.{Vector}
use Rattle.alf.specs.Values.{state_at}
use Rattle.alf.specs.Windows.{YES, row_answer, answer, numbered}
use Rattle.alf.specs.Beginnings.{began, is_given, time_of_lem}
use Rattle.alf.proofs.Beginnings.{began_tries, began_none, began_answers}
use Rattle.alf.proofs.RowsAreAlternatives.{same_answer}
use Rattle.alf.specs.Alternatives.{alternatives, tries, steps_of}
use Rattle.alf.specs.Traces.{Totals}
use Rattle.alf.specs.Refusals.{Comes, Rising}
use Rattle.alf.proofs.Outcomes.{refused_passed}
use Rattle.alf.proofs.TraceNearness.{steps_pos}
use Rattle.alf.proofs.Totals.{totals_sum}
use Rattle.trace_format.specs.Format.{codes_of}
use Rattle.trace_writer.proofs.Putting.{codes_all}
use Rattle.matcher.specs.declared.tables.Total.{Total}
use Rattle.timed_queue.specs.declared.queues.Queue.{Queue}
use Rattle.states.specs.FirstBadCode.{Codes}
use Rattle.alternatives.specs.InMemory.{longest_of}
use Rattle.queue.specs.Queues.{fed}
use Rattle.timed_queue.specs.TimedQueues.{Feed}
use Rattle.timed_queue.proofs.TimedTheorems.{fed_listed, feed_rows, queue_began}
use Rattle.states.proofs.CodeLists.{codes_take, codes_drop}
use Rattle.queue.proofs.QueueTheorems.{queue_windows}
use Rattle.row_calls.specs.Written.{Answering}
use Rattle.matching_calls.specs.Matching.{Matching}
use Rattle.matching_calls.specs.Matching.{Counting}
use Rattle.row_calls.specs.Written.{Tells, AnsweredAs, RowAnswer}
use Rattle.row_calls.specs.Windows.{WindowAnswer}
use Rattle.beginnings.specs.Dated.{flags_on, times_on}
use Rattle.matching_calls.specs.Matching.{Lent, FoundAs, RowMatch, AllMatched, Counts, RowTotals, expression}
use Rattle.queue_calls.specs.Pushing.{Takes, Push}
use Rattle.queue_calls.proofs.ByAlternatives.{tree_pushed}
use Rattle.call_laws.proofs.Passing.{row_passed, codes_passed, timed_passed}
use Rattle.call_laws.proofs.Routes.{answered, matched, pushed_found}
use Rattle.call_laws.proofs.Routes.{told_by, never_refused}
use Rattle.demands.specs.Questions.{Question, names_of, tree_of, answer_on, tries_on, began_on, meant_by}
use Rattle.demands.specs.Questions.{answer_at, tries_at, began_at}
use Rattle.rewritten_laws.specs.WrittenOut.{WrittenOut}
use Rattle.rewritten_laws.proofs.Theorems.{rewritten_accepted, written_are, match_as_tree, all_as_tree}
use Rattle.rewritten_laws.proofs.Theorems.{totals_as_tree, push_as_tree}
use Rattle.demands.specs.Lists.{ByLists}
use Rattle.demands.specs.Demand2.{Demand2, took_steps}
use Rattle.demands.proofs.Asked.{lists_fit_lem, codes_good, tree_accepted, tree_is}
use Rattle.demands.proofs.Feeding.{times_rise, by_queue, any_feed, begins, no_time}
use Rattle.demands.proofs.Surviving.{survives}
use Rattle.demands.proofs.Flagging.{own_is, flagged, never_yes}

module _ {file text : List ℕ} (q : Question file text) where
  abbrev k : ℕ
  k = names_of q

  -- what the calls tell of row i
  abbrev AnswerTold : ℕ → Answering → Type 0
  AnswerTold i = AnsweredAs (answer_at q i)

  abbrev MatchTold : ℕ → Matching → Type 0
  MatchTold i = FoundAs (answer_at q i) (tries_at q i) (began_at q i)

  -- As written.
  as_written : (i : ℕ) → i < q.rows → (x : Answering) → RowAnswer q.rules k q.rows (tree_of q) q.states i x
      → AnswerTold i x
  as_written i l x w = rw (tree_is q) at (answered (lists_fit_lem q) (tree_accepted q) (codes_good q) l x w)

  on_window_lem : (a b : ℕ) → max a b < q.rows → (x : Answering)
      → WindowAnswer q.rules k q.rows (tree_of q) q.states a b x
      → AnsweredAs (numbered (answer (state_at q.rules k q.states) (meant_by q) a b)) x
  unfolding Tells
  on_window_lem a b l (Ok c) w = record { answer = c; is = refl; numbered = rw (tree_is q) at w.comes.1 }
  on_window_lem a b l (Err r) w =
      absurd
      (refused_passed _ _ _
      (row_passed q.states q.rows (max a b) (lists_fit_lem q) (tree_accepted q) (codes_good q) l)
      w.comes.by)

  -- By alternatives.
  by_alternatives : (i : ℕ) → i < q.rows → (y : Matching)
      → RowMatch q.rules k q.rows (tree_of q) q.times q.states i y
      → MatchTold i y
  by_alternatives i l y w =
      rw (tree_is q) at
      (matched (lists_fit_lem q) (tree_accepted q) (codes_good q) l q.trace.lists.times_all (times_rise q) y w)

  all_rows : {answers tried given began answers' tried' given' began' : List ℕ} (r : Outcome)
      → Lent q.rows (length q.times) (length answers) (length tried) (length given) (length began)
      → AllMatched q.rules k q.rows (tree_of q) q.times q.states answers tried given began answers' tried'
      given' began' r
      → (r ≡ Ok q.rows) × (answers' ≡ listed 0 q.rows (answer_at q))
      × (tried' ≡ listed 0 q.rows (tries_at q)) × (given' ≡ listed 0 q.rows (λ i. is_given (began_at q i)))
      × (began' ≡ listed 0 q.rows (λ i. time_of_lem (began_at q i)))
  unfolding Comes after
  all_rows (Ok m) a w =
      let st = state_at q.rules k q.states in (
        ap Ok w.comes.1,
        w.answers_memory ∙ ap (λ (p : Vector). listed 0 q.rows (row_answer st p)) (tree_is q),
        w.tried_memory ∙ ap (λ (p : Vector). listed 0 q.rows (tries st (alternatives p))) (tree_is q),
        w.given_memory ∙ ap (λ (p : Vector). listed 0 q.rows (flags_on st q.times (alternatives p))) (tree_is q),
        w.began_memory ∙ ap (λ (p : Vector). listed 0 q.rows (times_on st q.times (alternatives p))) (tree_is q),
      )
  all_rows (Err r) a w =
      absurd
      (refused_passed _ _ _
      (timed_passed q.states q.times (a, lists_fit_lem q) (tree_accepted q) (codes_good q) (times_rise q))
      w.comes.by)

  -- The totals.
  totals_right : (z : Counting) → RowTotals q.rules k q.rows (tree_of q) q.states z
      → (t : Total) × ((z ≡ Ok t)
      × Totals (state_at q.rules k q.states) (meant_by q) q.rows t.yes t.no t.unknown
      × (t.yes + t.no + t.unknown ≡ q.rows - 1))
  unfolding Counts
  totals_right (Ok t) w =
      let c = rw (tree_is q) at w.comes.1 in
      let n = totals_sum (state_at q.rules k q.states) (meant_by q) q.rows (lists_fit_lem q).row_count.0 in
      (t, (refl, c, omega (arith, c.yeses, c.noes, c.unknowns, n)))
  totals_right (Err r) w =
      absurd
      (refused_passed _ _ _ (codes_passed q.states (lists_fit_lem q) (tree_accepted q) (codes_good q)) w.comes.by)

  -- By the lists that `rewrite` writes: what they come to, the tree's call may come to.
  by_lists : (steps tests edges operands : List ℕ) → WrittenOut q.rules k (tree_of q) steps tests edges operands
      → ByLists q steps tests edges operands
  by_lists steps tests edges operands w =
      record {
        accepted = rewritten_accepted w;
        all_kept = written_are w ∙ own_is q;
        at_row = λ i y l h. by_alternatives i l y (match_as_tree w y h);
        at_all = λ answers tried given began answers' tried' given' began' o a h. all_rows o a (all_as_tree w o h);
        counted = λ z h. totals_right z (totals_as_tree w z h);
        fed_to = λ n rows times queues results first full codes rise pushed i l.
            any_feed q first full codes rise (λ j m. push_as_tree w (results j) (pushed j m)) i l;
      }

  pub demand_2 : Demand2 q
  demand_2 =
      record {
        survives = survives q;
        as_written = λ i x l w. as_written i l x w;
        on_window_lem = λ a b x l w. on_window_lem a b l x w;
        by_alternatives = λ i y l w. by_alternatives i l y w;
        all_rows = λ answers tried given began answers' tried' given' began' o a w. all_rows o a w;
        by_queue = λ queues results first pushed i l. by_queue q first pushed i l;
        any_feed = λ n rows times queues results first full codes rise pushed i l.
            any_feed q first full codes rise pushed i l;
        begins = begins q;
        no_time = no_time q;
        totals_right = totals_right;
        by_lists = by_lists;
        flagged = flagged q;
        never_yes = never_yes q;
      }
