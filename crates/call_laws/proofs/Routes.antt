-- Three routes, one answer, over the calls' contracts alone: for every accepted tree, every trace and every row, the
-- answer as written, the answer by alternatives and the answer of the push of that row are the one that document 01
-- defines; the matcher and the queue try as many alternatives, and give the same time where the match began. No call on
-- the way is refused.
--   answered, matched, taken      a call whose input is good is done, and with what
--   Holding, push_holds           a queue that was pushed may be pushed again
--   fed_codes                     rows of codes, one after the other, are codes
--   never_refused                 so no push of a good row is refused, for a feed of any length
--   pushed_found, three_routes
use Rattle.std.specs.Prelude.{Err, Ok}
use Rattle.std.specs.Prelude.{None}
use mathlib.Core.Path.{◌≡◌, refl, ap, sym, ◌∙◌, subst}
use mathlib.Core.List.{List}
use Prim.Native.Nat.{ℕ, zero, suc, ◌+◌, ◌-◌, ◌*◌, ◌<◌, ◌≤◌}
use native.Mathlib.Numerals.{add-one}
use native.Mathlib.Nat.{suc-mul, zero-mul}
use native.Mathlib.Omega.{arith}
use lib.ListN.{length, get_or, take, length-append}
use lib.Seq.{get_or-take}
use Rattle.basics.specs.Words.{listed}
use Rattle.basics.proofs.Listed.{listed_length}
use Rattle.basics.proofs.Stable.{le_stable}
use Rattle.alf.specs.declared.Rules.{Rules}
use Rattle.alf.specs.declared.Answer.{Answer}
use Rattle.alf.specs.declared.Answer.TheVariants.{NoEvent}
use Rattle.alf.specs.Beginnings.{Began}
use Rattle.alf.specs.declared.Sort.TheVariants.{Vector}
use Rattle.alf.specs.Alternatives.{alternatives, steps_of}
use Rattle.alf.specs.Refusals.{NameCount, RowCount, Rising}
use Rattle.alf.proofs.TraceNearness.{steps_pos}
use Rattle.alf.proofs.Outcomes.{refused_passed}
use Rattle.acceptance.specs.Accepted.{Accepted}
use Rattle.beginnings.specs.declared.times.Dated.{Dated}
use Rattle.timed_queue.specs.declared.queues.Queue.{Queue}
use Rattle.timed_queue.specs.TimedQueues.{held_times}
use Rattle.timed_queue.proofs.TimedTheorems.{listed_rises}
use Rattle.timed_queue.proofs.RisingTimes.{next_whole, rising_again, last_time_lem}
use Rattle.states.specs.FirstBadCode.{Codes}
use Rattle.alternatives.specs.InMemory.{longest_of}
use Rattle.queue.specs.Queues.{held_of, trace_of, last_rows, fed}
use Rattle.states.proofs.CodeLists.{codes_append, codes_drop}
use Rattle.queue.proofs.LastRows.{fed_length, last_length, held_stored}
use Rattle.row_calls.specs.Written.{Answering}
use Rattle.matching_calls.specs.Matching.{Matching}
use Rattle.judging.specs.Orders.{Rows}
use Rattle.row_calls.specs.Written.{Tells, AnsweredAs, RowAnswer}
use Rattle.matching_calls.specs.Matching.{expression, answers_on, tries_on, began_on, Finds, FoundAs, RowMatch}
use Rattle.queue_calls.specs.Pushing.{RowFits, Handed, last_time, Early, push_order, PushesTree, Takes, Push}
use Rattle.queue_calls.proofs.ByAlternatives.{tree_pushed}
use Rattle.call_laws.proofs.Passing.{row_passed, timed_row_passed, push_passed}
use Rattle.call_laws.proofs.Theorems.{push_answers}

-- the answer at a row, the number tried, and the time where the match began
abbrev pub FoundAt : Rules → ℕ → List ℕ → List ℕ → List ℕ → ℕ → Matching → Type 0
FoundAt ρ names tree times states row =
    FoundAs (answers_on ρ names tree states row) (tries_on ρ names tree states row)
    (began_on ρ names tree times states row)

module _ {ρ : Rules} {names n : ℕ} {tree states : List ℕ} {row : ℕ} (l : Rows names n (length states))
    (a : Accepted ρ names Vector tree) (s : Codes states) (h : row < n) where
  pub answered : (x : Answering) → RowAnswer ρ names n tree states row x
      → AnsweredAs (answers_on ρ names tree states row) x
  unfolding Tells
  answered (Ok b) w = record { answer = b; is = refl; numbered = w.comes.1 }
  answered (Err r) w = absurd (refused_passed _ _ _ (row_passed states n row l a s h) w.comes.by)

  pub matched : {times : List ℕ} → length times ≡ n → Rising times → (y : Matching)
      → RowMatch ρ names n tree times states row y
      → FoundAt ρ names tree times states row y
  unfolding Finds
  matched m t (Ok f) w =
      let d = w.comes.1 in
      record {
        answer = f.answer;
        is = λ i. Ok (record { answer = f.answer; tries = d.count i; began = d.start i });
        numbered = d.is;
      }
  matched {times} m t (Err r) w =
      absurd (refused_passed _ _ _ (timed_row_passed states times n row (m, l) a s t h) w.comes.by)

taken : {ρ : Rules} {names : ℕ} {tree : List ℕ} {q : Queue} {time : ℕ} {row : List ℕ} {q' : Queue}
    → Handed ρ names tree q → RowFits names (length row) → Codes row → (Early q time → ⊥) → (z : Matching)
    → Push ρ names tree q time row z q'
    → (m : Dated) × ((z ≡ Ok m) × PushesTree ρ names tree q time row m.answer m.tries m.began q')
unfolding Takes
taken h f s t (Ok m) w = (m, (refl, w.comes.1))
taken {ρ} {names} {tree} {q} {time} {row} h f s t (Err r) w =
    absurd (refused_passed (push_order ρ names tree q time row) _ _ (push_passed q time row f h s t) w.comes.0.by)

-- K: the steps of the longest alternative
abbrev pub K : Rules → List ℕ → ℕ → ℕ
K ρ tree names = longest_of (alternatives (expression ρ tree names))

-- a queue of at most k rows, of codes, and of times that rise
pub record Holding (names k : ℕ) (q : Queue) : Type 0 where
  pub few : q.rows.kept.0 ≤ k
  pub codes : Codes (held_of names q.rows)
  pub whole : length (held_of names q.rows) ≡ q.rows.kept.0 * names
  pub timed : q.rows.kept.0 ≤ length q.times
  pub rising : Rising (held_times q)

pub holding_first : (names k : ℕ) (q : Queue) → q.rows.kept.0 ≡ 0 → Holding names k q
holding_first names k q e =
    let z : held_of names q.rows ≡ take 0 q.rows.states =
    ap (λ (j : ℕ). take (j * names) q.rows.states) e ∙ ap (λ (j : ℕ). take j q.rows.states) (zero-mul names) in
    let y : held_times q ≡ take 0 q.times = ap (λ (j : ℕ). take j q.times) e in
    record {
      few = omega (arith, e);
      codes = rw z (λ i l. absurd (omega arith));
      whole = rw z (sym (ap (λ (j : ℕ). j * names) e ∙ zero-mul names));
      timed = omega (arith, e);
      rising = rw y (λ i k l. absurd (omega arith));
    }

module _ {names : ℕ} (tree : List ℕ) {q : Queue} {time : ℕ} {row : List ℕ} {a : Answer} {t : ℕ} {b : Began} {q' : Queue}
  where
    -- the time kept last is the row's
    pub push_last : {ρ : Rules} → Holding names (K ρ tree names) q → PushesTree ρ names tree q time row a t b q'
        → last_time q' ≡ time
    unfolding steps_of
    push_last {ρ} h p =
        let k = steps_pos (expression ρ tree names) in
        let m : 0 < q'.rows.kept.0 = omega (arith, p.kept, k) in
        sym (get_or-take q'.rows.kept.0 q'.times (q'.rows.kept.0 - 1) 0 (omega arith))
        ∙ last_time_lem (tree_pushed p) h.timed k

    pub push_holds : {ρ : Rules} → Holding names (K ρ tree names) q → length row ≡ names → Codes row
        → (Early q time → ⊥) → PushesTree ρ names tree q time row a t b q' → Holding names (K ρ tree names) q'
    unfolding last_rows steps_of
    push_holds {ρ} h f s u p =
        let kept = q.rows.kept.0 in
        let trace = trace_of names q.rows row in
        let rest = last_rows names (K ρ tree names) (kept + 1) trace in
        let size : length trace ≡ (kept + 1) * names = length-append (held_of names q.rows) row ∙ next in
        let l = last_length names (K ρ tree names) (kept + 1) trace size
        ∙ ap (λ (j : ℕ). j * names) (sym p.kept) in
        let held = ap (take (q'.rows.kept.0 * names)) p.states
        ∙ held_stored rest (q'.rows.kept.0 * names) l in
        record {
          few = omega (arith, p.kept);
          codes =
              subst Codes (sym held)
              (codes_drop ((kept + 1 - K ρ tree names) * names) trace
              (codes_append (held_of names q.rows) row h.codes s));
          whole = ap length held ∙ l;
          timed = next_whole (tree_pushed p) h.timed;
          rising = rising_again (tree_pushed p) h.timed h.rising above;
        }
      where
        next : length (held_of names q.rows) + length row ≡ (q.rows.kept.0 + 1) * names
        next = rw (add-one, suc-mul) (omega (arith, h.whole, f))

        above : 0 < q.rows.kept.0 → get_or (held_times q) (q.rows.kept.0 - 1) 0 < time
        above k =
            let e = get_or-take q.rows.kept.0 q.times (q.rows.kept.0 - 1) 0 (omega arith) in
            omega (arith, e, le_stable (suc (last_time q)) time (λ n. u (k, omega (arith, n))))

-- what a call told, where it was not refused
pub told_by : Matching → Dated
told_by (Ok m) = m
told_by (Err r) = record { answer = NoEvent; tries = 0; began = None }

pub fed_codes : (rows : ℕ → List ℕ) (n : ℕ) → ((i : ℕ) → i < n → Codes (rows i)) → Codes (fed rows n)
unfolding fed
fed_codes rows zero h = λ i l. absurd (omega arith)
fed_codes rows (suc n) h =
    codes_append (fed rows n) (rows n) (fed_codes rows n (λ i l. h i (omega arith))) (h n (omega arith))

-- A feed of good rows, one push after the other, the first into a queue that keeps nothing, with times that rise.
module _ {ρ : Rules} {names n : ℕ} {tree : List ℕ} {rows : ℕ → List ℕ} {times : ℕ → ℕ} {queues : ℕ → Queue}
    {results : ℕ → Matching}
    (some : NameCount names) (accepted : Accepted ρ names Vector tree) (first : (queues 0).rows.kept.0 ≡ 0)
    (full : (i : ℕ) → i < n → length (rows i) ≡ names) (good : (i : ℕ) → i < n → Codes (rows i))
    (rise : (i : ℕ) → suc i < n → times i < times (suc i))
    (pushed : (i : ℕ) → i < n → Push ρ names tree (queues i) (times i) (rows i) (results i) (queues (suc i))) where
  handed : (q : Queue) → Holding names (K ρ tree names) q → Handed ρ names tree q
  unfolding steps_of
  handed q h =
      record {
        accepted = accepted;
        kept = record { kept = record { few = h.few; codes = h.codes }; rising = h.rising };
      }

  -- what a queue holds, and that the next row's time is above its last
  abbrev Ready : ℕ → Type 0
  Ready i = Holding names (K ρ tree names) (queues i) × (i < n → Early (queues i) (times i) → ⊥)

  goes_on : (i : ℕ) (l : i < n) → Ready i
      → (m : Dated)
      × ((results i ≡ Ok m)
      × PushesTree ρ names tree (queues i) (times i) (rows i) m.answer m.tries m.began (queues (suc i)))
  goes_on i l (h, e) =
      taken (handed (queues i) h) (record { name_count_lem = some; full = full i l }) (good i l) (e l) (results i)
      (pushed i l)

  ready : (i : ℕ) → i ≤ n → Ready i
  ready zero l = (holding_first _ _ _ first, λ h e. omega (arith, e.0, first))
  ready (suc i) l =
      let r = ready i (omega arith) in
      let p = (goes_on i (omega arith) r).1.1 in (
        push_holds tree r.0 (full i (omega arith)) (good i (omega arith)) (r.1 (omega arith)) p,
        λ h e. omega (arith, e.1, push_last tree r.0 p, rise i h),
      )

  -- no push is refused
  pub never_refused : (i : ℕ) → i < n → results i ≡ Ok (told_by (results i))
  unfolding told_by
  never_refused i l =
      let e = (goes_on i l (ready i (omega arith))).1.0 in e ∙ sym (ap (λ (z : Matching). Ok (told_by z)) e)

  taken_pushes : (i : ℕ) → i < n
      → Push ρ names tree (queues i) (times i) (rows i) (Ok (told_by (results i))) (queues (suc i))
  taken_pushes i l =
      subst (λ (z : Matching). Push ρ names tree (queues i) (times i) (rows i) z (queues (suc i))) (never_refused i l)
      (pushed i l)

  -- each push answers for its row
  pub pushed_found : (i : ℕ) → i < n → FoundAt ρ names tree (listed 0 n times) (fed rows n) i (results i)
  pushed_found i l =
      let r = push_answers accepted first full taken_pushes i l in
      let answer = (told_by (results i)).answer in
      let tried = r.count in
      let since = r.start in
      record {
        answer = answer;
        is = never_refused i l ∙ (λ j. Ok (record { answer = answer; tries = tried j; began = since j }));
        numbered = r.is;
      }

  module _ (enough : RowCount n) (i : ℕ) (l : i < n) where
    fits : Rows names n (length (fed rows n))
    fits = record { name_count_lem = some; row_count = enough; all = fed_length names rows n full }

    pub three_routes : (x : Answering) → RowAnswer ρ names n tree (fed rows n) i x
        → (y : Matching) → RowMatch ρ names n tree (listed 0 n times) (fed rows n) i y
        → AnsweredAs (answers_on ρ names tree (fed rows n) i) x
        × FoundAt ρ names tree (listed 0 n times) (fed rows n) i y
        × FoundAt ρ names tree (listed 0 n times) (fed rows n) i (results i)
    three_routes x w y k =
        let s = fed_codes rows n good in (
          answered fits accepted s l x w,
          matched fits accepted s l (listed_length 0 n times) (listed_rises times n rise) y k,
          pushed_found i l,
        )
