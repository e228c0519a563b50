-- Demand 2 of the queue, and of where a match began.
--   fed_rows              the rows of a trace, one after the other, are the trace
--   times_rise            the times of a question's trace rise
--   by_queue, any_feed    the rows of the trace pushed; any rows
--   begins, no_time       a yes has the time where it began; no other answer has one
use Rattle.std.specs.Prelude.{Ok}
use Rattle.std.specs.Prelude.{None, Some}
use Prim.Native.Nat.{ℕ, zero, suc, ◌+◌, ◌-◌, ◌*◌, ◌<◌, ◌≤◌}
use native.Mathlib.Nat.{suc-mul, zero-mul, zero-add}
use native.Mathlib.Omega.{arith}
use mathlib.Core.Path.{◌≡◌, refl, sym, ap, ◌∙◌, subst}
use mathlib.Core.List.{List}
use lib.ListN.{length, get_or, take, drop}
use lib.Seq.{take-add, take_all, ext_get_or}
use Rattle.basics.proofs.Listed.{listed_length, listed_at}
use Rattle.basics.specs.Words.{listed}
use Rattle.alf.specs.Values.{state_at}
use Rattle.alf.specs.Windows.{YES, row_answer, answer}
use Rattle.alf.specs.Alternatives.{alternatives, tries, steps_of}
use Rattle.alf.specs.Beginnings.{began}
use Rattle.alf.specs.Refusals.{Rising}
use Rattle.alf.proofs.Beginnings.{began_tries, began_none, began_answers}
use Rattle.alf.proofs.RowsAreAlternatives.{same_answer}
use Rattle.alf.proofs.TraceNearness.{steps_pos}
use Rattle.trace_format.specs.Format.{codes_of}
use Rattle.trace_writer.proofs.Putting.{codes_all}
use Rattle.states.specs.FirstBadCode.{Codes}
use Rattle.states.proofs.CodeLists.{codes_take, codes_drop}
use Rattle.alternatives.specs.InMemory.{longest_of}
use Rattle.queue.specs.Queues.{fed}
use Rattle.queue.proofs.QueueTheorems.{queue_windows}
use Rattle.timed_queue.specs.declared.queues.Queue.{Queue}
use Rattle.timed_queue.specs.TimedQueues.{Feed}
use Rattle.timed_queue.proofs.TimedTheorems.{fed_listed, feed_rows, queue_began}
use Rattle.matching_calls.specs.Matching.{Matching}
use Rattle.matching_calls.specs.Matching.{FoundAs, expression}
use Rattle.queue_calls.specs.Pushing.{Takes, Push}
use Rattle.queue_calls.proofs.ByAlternatives.{tree_pushed}
use Rattle.call_laws.proofs.Routes.{told_by, never_refused, pushed_found}
use Rattle.demands.specs.Questions.{Question, names_of, tree_of, answer_on, tries_on, began_on, meant_by}
use Rattle.demands.specs.Questions.{answer_at, tries_at, began_at}
use Rattle.demands.specs.Demand2.{took_steps}
use Rattle.demands.proofs.Asked.{lists_fit_lem, codes_good, tree_accepted, tree_is}

-- the rows of a trace, one after the other, are the trace
fed_rows : (k : ℕ) (states : List ℕ) (n : ℕ) → fed (codes_of k states) n ≡ take (n * k) states
unfolding fed codes_of
fed_rows k states zero = rw (zero-mul k) refl
fed_rows k states (suc n) = rw (fed_rows k states n, suc-mul n k) (sym (take-add (n * k) k states))

-- a list is what its entries are
listed_own : (l : List ℕ) (n : ℕ) → length l ≡ n → listed 0 n (λ i. get_or l i 0) ≡ l
listed_own l n e =
    let h = listed_length 0 n (λ i. get_or l i 0) in
    ext_get_or 0 (listed 0 n (λ i. get_or l i 0)) l (omega arith)
    (λ i b. listed_at 0 n i (λ i. get_or l i 0) 0 (omega arith) ∙ ap (λ (r : ℕ). get_or l r 0) (zero-add i))

module _ {file text : List ℕ} (q : Question file text) where
  abbrev k : ℕ
  k = names_of q

  -- what the calls tell of row i
  abbrev MatchTold : ℕ → Matching → Type 0
  MatchTold i = FoundAs (answer_at q i) (tries_at q i) (began_at q i)

  pub times_rise : Rising q.times
  times_rise r h l =
      let e : suc (r - 1) ≡ r = omega arith in
      subst (λ (j : ℕ). get_or q.times (r - 1) 0 < get_or q.times j 0) e
      (q.trace.rising (r - 1) (omega (arith, l, q.trace.lists.times_all)))

  -- The queue: the rows of the trace are pushed, the first into a queue that keeps nothing.
  rows_full : (i : ℕ) → i < q.rows → length (codes_of k q.states i) ≡ k
  unfolding codes_of
  rows_full i l = codes_all k q.widths q.times q.states q.rows (lists_fit_lem q).all i l

  rows_codes : (i : ℕ) → i < q.rows → Codes (codes_of k q.states i)
  unfolding codes_of
  rows_codes i l = codes_take k (drop (i * k) q.states) (codes_drop (i * k) q.states (codes_good q))

  abbrev fed_states : List ℕ
  fed_states = fed (codes_of k q.states) q.rows

  fed_is : fed_states ≡ q.states
  fed_is =
      fed_rows k q.states q.rows
      ∙ take_all (q.rows * k) q.states (omega (arith, (lists_fit_lem q).all))

  times_are : listed 0 q.rows (λ i. get_or q.times i 0) ≡ q.times
  times_are = listed_own q.times q.rows q.trace.lists.times_all

  module _ {queues : ℕ → Queue} {results : ℕ → Matching} (first : (queues 0).rows.kept.0 ≡ 0)
      (pushed : (i : ℕ) → i < q.rows
      → Push q.rules k (tree_of q) (queues i) (get_or q.times i 0) (codes_of k q.states i) (results i)
      (queues (suc i))) where
    pub by_queue : (i : ℕ) → i < q.rows → MatchTold i (results i)
    by_queue i l =
        rw (fed_is, times_are, tree_is q) at
        (pushed_found (lists_fit_lem q).name_count_lem (tree_accepted q) first rows_full rows_codes q.trace.rising pushed i
        l)

  -- Any rows over the same names, and any number of pushes: push i answers for row i of what was fed so far.
  longest_pos : 0 < longest_of (alternatives (expression q.rules (tree_of q) k))
  unfolding steps_of
  longest_pos = steps_pos (expression q.rules (tree_of q) k)

  module _ {n : ℕ} {rows : ℕ → List ℕ} {times : ℕ → ℕ} {queues : ℕ → Queue} {results : ℕ → Matching}
      (first : (queues 0).rows.kept.0 ≡ 0)
      (full : (i : ℕ) → i < n → length (rows i) ≡ k) (codes : (i : ℕ) → i < n → Codes (rows i))
      (rise : (i : ℕ) → suc i < n → times i < times (suc i))
      (pushed : (i : ℕ) → i < n
      → Push q.rules k (tree_of q) (queues i) (times i) (rows i) (results i) (queues (suc i))) where
    not_refused : (i : ℕ) → i < n → results i ≡ Ok (told_by (results i))
    not_refused = never_refused (lists_fit_lem q).name_count_lem (tree_accepted q) first full codes rise pushed

    taken : (i : ℕ) → i < n
        → Push q.rules k (tree_of q) (queues i) (times i) (rows i) (Ok (told_by (results i))) (queues (suc i))
    taken i l =
        subst (λ (z : Matching). Push q.rules k (tree_of q) (queues i) (times i) (rows i) z (queues (suc i)))
        (not_refused i l) (pushed i l)

    feed : Feed q.rules k (alternatives (expression q.rules (tree_of q) k)) n rows times queues
        (λ i. (told_by (results i)).answer) (λ i. (told_by (results i)).tries) (λ i. (told_by (results i)).began)
    unfolding Takes
    feed = record { first = first; full = full; pushes = λ i l. tree_pushed (taken i l).comes.1 }

    pub any_feed : (i : ℕ) → i < n
        → FoundAs (answer_on q (fed rows (suc i)) i) (tries_on q (fed rows (suc i)) i)
        (began_on q (listed 0 (suc i) times) (fed rows (suc i)) i) (results i)
    any_feed i l =
        let st = state_at q.rules k (fed rows (suc i)) in
        let p = expression q.rules (tree_of q) k in
        let answer = (told_by (results i)).answer in
        let d = queue_began feed longest_pos i l in
        let tried = d.matches.count in
        let since : (told_by (results i)).began ≡ began st (listed 0 (suc i) times) (alternatives p) i =
        rw (fed_listed times (suc i)) at d.since in
        let found : FoundAs (row_answer st p i) (tries st (alternatives p) i)
        (began st (listed 0 (suc i) times) (alternatives p) i) (results i) =
        record {
          answer = answer;
          is = not_refused i l ∙ (λ j. Ok (record { answer = answer; tries = tried j; began = since j }));
          numbered = queue_windows (feed_rows feed) p refl longest_pos i l;
        } in
        rw (tree_is q) at found

  -- A yes, and where it began.
  pub begins : (i : ℕ) → answer_at q i ≡ 1
      → (took_steps q i ≤ i) × (began_at q i ≡ Some (record { 0 = get_or q.times (i - took_steps q i) 0 }))
      × (answer (state_at q.rules k q.states) (meant_by q) (i - took_steps q i) i ≡ YES)
  begins i e =
      let st = state_at q.rules k q.states in
      let f = sym (same_answer st (meant_by q) i) ∙ e in
      let t = began_tries st q.times (alternatives (meant_by q)) i f in
      (t.room, t.time, began_answers st (meant_by q) i f)

  pub no_time : (i : ℕ) → (answer_at q i ≡ 1 → ⊥) → began_at q i ≡ None
  no_time i n =
      let st = state_at q.rules k q.states in
      began_none st q.times (alternatives (meant_by q)) i (λ e. n (same_answer st (meant_by q) i ∙ e))
