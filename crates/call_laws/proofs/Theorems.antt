-- What the calls promise together.
--   routes_taken                 as written, by alternatives and by the queue: one answer, where no call is refused
--   correction_keeps_right       a list of answers that was right is right after a correction
--   correction_reaches, correction_stays    what is rewritten is right, whatever stood there; the rest stays
--   totals_together              yes, no and unknown together are n-1
--   rows_stable                  lists of which it cannot be that they do not fit
use Rattle.std.specs.Prelude.{Ok}
use mathlib.Core.Path.{◌≡◌, refl, ap, sym, ◌∙◌}
use mathlib.Core.Bool.{Bool, true, false}
use mathlib.Core.Logic.{◌⊎◌, inl, inr}
use mathlib.Core.List.{List}
use Prim.Native.Nat.{ℕ, suc, ◌+◌, ◌-◌, ◌*◌, ◌<◌, ◌≤◌}
use native.Mathlib.Nat.{suc-mul, mul-le-mul_right}
use native.Mathlib.Omega.{arith}
use lib.ListN.{length, get_or}
use Rattle.basics.specs.Words.{listed}
use Rattle.alf.specs.declared.Rules.{Rules}
use Rattle.alf.specs.declared.Answer.{Answer}
use Rattle.alf.specs.declared.Sort.{Sort}
use Rattle.alf.specs.declared.Sort.TheVariants as sort
use Rattle.alf.specs.Expressions.{Expression, boolean, vector, Over, VectorOver, ExpressionOver}
use Rattle.alf.specs.Decoder.{Decodes, top_vector}
use Rattle.alf.specs.Values.{state_at}
use Rattle.alf.proofs.Answers.{number_same}
use Rattle.queue_calls.proofs.ByAlternatives.{tree_pushed}
use Rattle.alf.specs.Alternatives.{alternatives, steps_of}
use Rattle.alf.specs.Traces.{corrected, last_rewritten}
use Rattle.alf.specs.Refusals.{Passed, Comes}
use Rattle.basics.proofs.Bools.{below?, never}
use Rattle.basics.proofs.Stable.{le_stable, eq_stable}
use Rattle.basics.proofs.AllEntries.{All}
use Rattle.alf.proofs.Conditions.{Asks, alternatives_ask, over_asked}
use Rattle.alf.proofs.Decoding.{decode_over}
use Rattle.alf.proofs.RowsAreAlternatives.{same_answer}
use Rattle.alf.proofs.TraceNearness.{steps_pos, correction_elsewhere}
use Rattle.alf.proofs.Totals.{totals_sum}
use Rattle.acceptance.proofs.Acceptance.{accepted_decodes}
use Rattle.steady_laws.proofs.Meant.{meant_over}
use Rattle.acceptance.specs.Accepted.{sort_of_lem, Accepted}
use Rattle.beginnings.specs.declared.times.Dated.{Dated}
use Rattle.matcher.specs.declared.tables.Total.{Total}
use Rattle.basics.proofs.Listed.{ruled_inside, ruled_before, ruled_behind}
use Rattle.timed_queue.specs.declared.queues.Queue.{Queue}
use Rattle.alternatives.specs.InMemory.{longest_of}
use Rattle.queue.specs.Queues.{fed}
use Rattle.timed_queue.specs.TimedQueues.{Feed}
use Rattle.call_laws.proofs.ThreeRoutes.{row_so_far}
use Rattle.judging.specs.Orders.{Rows}
use Rattle.row_calls.specs.Written.{Tells, RowAnswer}
use Rattle.basics.specs.Memory.{after}
use Rattle.matching_calls.specs.Matching.{MatchesTree, expression, answers_on, Finds, RowMatch, Counts, RowTotals}
use Rattle.update_calls.specs.Correcting.{Lists, correction_order, Correction, rewritten}
use Rattle.queue_calls.specs.Pushing.{Takes, Push}

pub rows_stable : (names n s : ℕ) → ((Rows names n s → ⊥) → ⊥) → Rows names n s
rows_stable names n s h =
    record {
      name_count_lem = (
        le_stable 1 names (λ k. h (λ r. k r.name_count_lem.0)),
        le_stable names 32 (λ k. h (λ r. k r.name_count_lem.1)),
      );
      row_count = (
        le_stable 1 n (λ k. h (λ r. k r.row_count.0)),
        le_stable n 65535 (λ k. h (λ r. k r.row_count.1)),
      );
      all = eq_stable s (n * names) (λ k. h (λ r. k r.all));
    }

lists_stable : (names n s a w : ℕ) → ((Lists names n s a w → ⊥) → ⊥) → Lists names n s a w
lists_stable names n s a w h =
    record {
      room = eq_stable a n (λ k. h (λ r. k r.room));
      full = eq_stable w names (λ k. h (λ r. k r.full));
      rows = rows_stable names n s (λ k. h (λ r. k r.rows));
    }

-- an accepted vector expression is over the names
is_vector_sort : Sort → Bool
is_vector_sort sort.Boolean = false
is_vector_sort sort.Vector = true

expression_over : (ρ : Rules) (names : ℕ) (tree : List ℕ) → Accepted ρ names sort.Vector tree
    → VectorOver names (expression ρ tree names)
unfolding Decodes top_vector sort_of_lem is_vector_sort ExpressionOver
expression_over ρ names tree a = go a.expression (accepted_decodes a) a.sorted
  where
    go : (e : Expression) → Decodes names tree e → sort_of_lem e ≡ sort.Vector
        → VectorOver names (expression ρ tree names)
    go (boolean c) d k = never (ap is_vector_sort k)
    go (vector p) d k = rw d (meant_over ρ p names (decode_over names tree (vector p) d))

-- Three routes: where every push of the rows of a trace is taken, the answer as written, the answer by alternatives
-- and the answer of push i are one, the numbers tried are one, and so are the times where the match began.
module _ {ρ : Rules} {names n : ℕ} {tree : List ℕ} {rows : ℕ → List ℕ} {times : ℕ → ℕ} {queues : ℕ → Queue}
    {told : ℕ → Dated}
    (accepted : Accepted ρ names sort.Vector tree) (first : (queues 0).rows.kept.0 ≡ 0)
    (full : (i : ℕ) → i < n → length (rows i) ≡ names)
    (pushed : (i : ℕ) → i < n → Push ρ names tree (queues i) (times i) (rows i) (Ok (told i)) (queues (suc i)))
  where
    feed : Feed ρ names (alternatives (expression ρ tree names)) n rows times queues (λ i. (told i).answer)
        (λ i. (told i).tries) (λ i. (told i).began)
    unfolding Takes
    feed = record { first = first; full = full; pushes = λ i l. tree_pushed (pushed i l).comes.1 }

    asks : All (Asks (Over names)) (alternatives (expression ρ tree names))
    asks = alternatives_ask (Over names) _ (over_asked names _ (expression_over ρ names tree accepted))

    longest_pos : 0 < longest_of (alternatives (expression ρ tree names))
    unfolding steps_of
    longest_pos = steps_pos (expression ρ tree names)

    pub push_answers : (i : ℕ) → i < n
        → MatchesTree ρ names tree (listed 0 n times) (fed rows n) i (told i).answer (told i).tries (told i).began
    push_answers i l =
        let q = row_so_far feed asks longest_pos i l in
        record {
          is = q.matches.is ∙ sym (same_answer (state_at ρ names (fed rows n)) (expression ρ tree names) i);
          count = q.matches.count;
          start = q.since;
        }

    pub routes_taken : (i : ℕ) → i < n → {a : Answer} {m : Dated}
        → RowAnswer ρ names n tree (fed rows n) i (Ok a)
        → RowMatch ρ names n tree (listed 0 n times) (fed rows n) i (Ok m)
        → (m.answer ≡ a) × ((told i).answer ≡ a) × ((told i).tries ≡ m.tries) × ((told i).began ≡ m.began)
    unfolding Tells Finds
    routes_taken i l w k =
        let q = push_answers i l in (
          number_same _ _ (k.comes.1.is ∙ sym w.comes.1),
          number_same _ _ (q.is ∙ sym w.comes.1),
          q.count ∙ sym k.comes.1.count,
          q.start ∙ sym k.comes.1.start,
        )

-- The correction.
module _ {ρ : Rules} {names n : ℕ} {tree states answers : List ℕ} {r : ℕ} {new states' answers' : List ℕ} {k : ℕ}
    (accepted : Accepted ρ names sort.Vector tree)
    (c : Correction ρ names n tree states answers r new states' answers' (Ok k)) where
  passed : Passed (correction_order ρ names n tree states answers r new)
  unfolding Comes
  passed = c.comes.0

  lists : Lists names n (length states) (length answers) (length new)
  unfolding Passed
  lists = lists_stable names n _ _ _ (λ h. passed.0 0 (record { given = h; there = refl }))

  below : r < n
  unfolding Passed
  below = le_stable (suc r) n (λ h. passed.1.1.1.1.0 0 (record { given = omega (arith, h); there = refl }))

  abbrev last : ℕ
  last = last_rewritten (steps_of (expression ρ tree names)) n r

  reach : (r ≤ last) × (last < n) × (r + (last + 1 - r) ≡ last + 1)
  unfolding last_rewritten
  reach = omega (arith, below)

  fits : r + (last + 1 - r) ≤ length answers
  fits = let e = reach in omega (arith, lists.room)

  whole : r * names + names ≤ length states
  whole =
      let m : suc r * names ≤ n * names = mul-le-mul_right names below in
      omega (arith, m, suc-mul r names, lists.rows.all)

  stored : states' ≡ corrected names states r new
  unfolding after
  stored = c.states_memory

  answered : answers' ≡ rewritten ρ names n tree answers r (corrected names states r new)
  unfolding after
  answered = c.answers_memory

  -- an answer that is rewritten is the corrected trace's, whatever stood there
  pub correction_reaches : (i : ℕ) → r ≤ i → i ≤ last
      → get_or answers' i 0 ≡ answers_on ρ names tree states' i
  correction_reaches i a b =
      let f = answers_on ρ names tree (corrected names states r new) in
      rw stored
      (ap (λ (l : List ℕ). get_or l i 0) answered
      ∙ ruled_inside answers r (last + 1 - r) f fits i a (omega arith))

  -- the others stay
  pub correction_stays : (i : ℕ) → (i < r) ⊎ (last < i) → get_or answers' i 0 ≡ get_or answers i 0
  correction_stays i (inl l) =
      ap (λ (a : List ℕ). get_or a i 0) answered
      ∙ ruled_before answers r (last + 1 - r) (answers_on ρ names tree (corrected names states r new)) fits i l
  correction_stays i (inr l) =
      let f = answers_on ρ names tree (corrected names states r new) in
      ap (λ (a : List ℕ). get_or a i 0) answered
      ∙ ruled_behind answers r (last + 1 - r) f fits i (omega (arith, reach))

  -- and they are the corrected trace's too, if they were the trace's
  stays_right : (i : ℕ) → (i < r) ⊎ (r + steps_of (expression ρ tree names) < i)
      → answers_on ρ names tree states i ≡ answers_on ρ names tree states' i
  stays_right i w =
      let o = expression_over ρ names tree accepted in
      rw stored
      (sym (correction_elsewhere names states new r whole lists.full _ (expression ρ tree names) o i w))

  beyond : (i : ℕ) → i < n → last < i → r + steps_of (expression ρ tree names) < i
  unfolding last_rewritten
  beyond i h l = omega arith

  pub correction_keeps_right : ((i : ℕ) → i < n → get_or answers i 0 ≡ answers_on ρ names tree states i)
      → (i : ℕ) → i < n → get_or answers' i 0 ≡ answers_on ρ names tree states' i
  correction_keeps_right right i l = go (below? i r) (below? last i)
    where
      go : (i < r) ⊎ (r ≤ i) → (last < i) ⊎ (i ≤ last)
          → get_or answers' i 0 ≡ answers_on ρ names tree states' i
      go (inl a) b = correction_stays i (inl a) ∙ right i l ∙ stays_right i (inl a)
      go (inr a) (inl b) = correction_stays i (inr b) ∙ right i l ∙ stays_right i (inr (beyond i l b))
      go (inr a) (inr b) = correction_reaches i a b

-- The totals.
pub totals_together : {ρ : Rules} {names n : ℕ} {tree states : List ℕ} {t : Total}
    → RowTotals ρ names n tree states (Ok t)
    → t.yes + t.no + t.unknown ≡ n - 1
unfolding Counts Passed
totals_together {ρ} {names} {n} {tree} {states} w =
    let (p, t) = w.comes in
    let l = rows_stable names n (length states) (λ h. p.0 0 (record { given = h; there = refl })) in
    let e = totals_sum (state_at ρ names states) (expression ρ tree names) n l.row_count.0 in
    omega (arith, t.yeses, t.noes, t.unknowns, e)
