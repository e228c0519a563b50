-- What a push comes to, step by step.
--   held_length, times_length            the times of the rows kept, and with one behind them
--   put_asked, laid                      a time behind them
--   keep_all, keep_last                  the last k times are all, or all but the first
--   push_length, push_date, push_keep    what a push asks of its parts
--   pushes                               what it promises
use Prim.Native.Nat.{ℕ, ◌+◌, ◌-◌, ◌<◌, ◌≤◌}
use native.Mathlib.Omega.{arith}
use mathlib.Core.Path.{◌≡◌, ap, sym, ◌∙◌}
use mathlib.Core.List.{List, [], ◌∷◌, ◌++◌}
use lib.ListN.{length, set, take, drop, replicate, length-append, length-drop, length-replicate}
use lib.Seq.{length-take-le, take_all}
use Rattle.basics.specs.Words.{greatest_of}
use Rattle.basics.specs.Memory.{front, placed}
use Rattle.basics.proofs.Stores.{sets_placed, sets_front, front_next, front_take}
use Rattle.alf.specs.declared.Rules.{Rules}
use Rattle.alf.specs.declared.Answer.{Answer}
use Rattle.alf.specs.Beginnings.{Began}
use Rattle.alf.specs.Values.{state_at}
use Rattle.alternatives.specs.InMemory.{alternatives_of_lem}
use Rattle.alternatives.proofs.Longest.{longest_is}
use Rattle.beginnings.specs.Times.{DateAsked, Dating}
use Rattle.beginnings.proofs.ByTries.{date_asked, dated}
use Rattle.beginnings.proofs.Counts.{counted}
use Rattle.queue.specs.Queues.{trace_of, last_rows, PushAsked}
use Rattle.queue.specs.Queues as rows
use Rattle.queue.specs.declared.queues.Queue as declared
use Rattle.timed_queue.specs.declared.queues.Queue.{Queue}
use Rattle.timed_queue.specs.Stamps.{stored_times, PutAsked, Lays, KeepAsked}
use Rattle.timed_queue.specs.TimedQueues.{times_of, Pushes}

zeros : length (replicate {A = ℕ} 17 0) ≡ 17
zeros = length-replicate {A = ℕ} 17 0

module _ (times : List ℕ) {kept : ℕ} (few : kept ≤ 16) (whole : length times ≡ 16) where
  pub held_length : length (take kept times) ≡ kept
  held_length = length-take-le kept times (omega arith)

  pub put_asked : PutAsked (take kept times) (replicate 17 0)
  put_asked = record { room = omega (arith, held_length, zeros); few = omega (arith, zeros) }

  -- a time behind those kept
  pub laid : {first : List ℕ} {t : ℕ} → first ≡ placed (replicate 17 0) 0 (take kept times)
      → Lays times kept t (set first kept t)
  laid {first} {t} is =
      let w = take kept times in
      let z = replicate {A = ℕ} 17 0 in
      let e = is
      ∙ sym (sets_placed z 0 w (omega (arith, held_length, zeros)))
      ∙ sets_front z w (omega (arith, held_length, zeros)) in
      record {
        laid =
            ap (λ (l : List ℕ). take (kept + 1) (set l kept t)) e
            ∙ ap (λ (n : ℕ). take (kept + 1) (set (front w z) n t)) (sym held_length)
            ∙ ap (take (kept + 1)) (front_next z w t (omega (arith, held_length, zeros)))
            ∙ front_take z (w ++ (t ∷ [])) (kept + 1) (omega (arith, length-append w (t ∷ []), held_length));
      }

module _ {all : List ℕ} {kept k : ℕ} (asked : KeepAsked all kept k) where
  pub keep_all : {r : List ℕ} → kept < k → r ≡ stored_times all → r ≡ stored_times (last_rows 1 k (kept + 1) all)
  unfolding last_rows
  keep_all l s =
      let e : kept + 1 - k ≡ 0 = omega arith in
      rw e s

  -- the part from the second time on
  rest_is : take (length all - 1) (drop 1 all) ≡ drop 1 all
  rest_is = take_all (length all - 1) (drop 1 all) (omega (arith, length-drop 1 all))

  pub keep_last : {r : List ℕ} → k ≤ kept → r ≡ stored_times (take (length all - 1) (drop 1 all))
      → r ≡ stored_times (last_rows 1 k (kept + 1) all)
  unfolding last_rows
  keep_last l s =
      let e : kept + 1 - k ≡ 1 = omega (arith, asked.held) in
      rw (e, ← rest_is) s

abbrev at : Queue → ℕ
at q = q.rows.kept.0

module _ {tree : List ℕ} {names : ℕ} {steps tests edges operands : List ℕ} (q : Queue) {row : List ℕ}
    (asked : PushAsked tree names steps tests edges operands q.rows row) (whole : length q.times ≡ 16) where
  kept_few : at q ≤ 16
  kept_few = omega (arith, asked.room.kept, asked.room.few)

  pub times_length : (t : ℕ) → length (times_of q t) ≡ at q + 1
  times_length t =
      omega (arith, length-append (take (at q) q.times) (t ∷ []), held_length q.times kept_few whole)

  module _ {t : ℕ} {all : List ℕ} (l : Lays q.times (at q) t all) where
    pub push_length : at q + 1 ≡ length (take (at q + 1) all)
    push_length = sym (ap length l.laid ∙ times_length t)

    module _ {ρ : Rules} {a : Answer} {n : ℕ} {rows' : declared.Queue}
        (p : rows.Pushes ρ names (alternatives_of_lem tree names steps tests edges operands) q.rows row a n rows')
      where
        pub push_date : DateAsked (take (at q + 1) all) steps (at q) a n
        push_date =
            date_asked (state_at ρ names (trace_of names q.rows row)) (take (at q + 1) all) (counted asked.shape)
            p.matched (omega (arith, push_length))

        module _ {k : ℕ} (longest : k ≡ greatest_of (λ n. n) steps) where
          pub push_keep : KeepAsked (take (at q + 1) all) (at q) k
          push_keep =
              record {
                few = omega (arith, asked.room.few, longest);
                held = omega (arith, asked.room.kept, longest);
                full = sym push_length;
              }

          pub pushes : {a' : Answer} {n' : ℕ} {b : Began} {times' : List ℕ}
              → Dating (take (at q + 1) all) steps (at q) a n a' n' b
              → times' ≡ stored_times (last_rows 1 k (at q + 1) (take (at q + 1) all))
              → Pushes ρ names (alternatives_of_lem tree names steps tests edges operands) q t row a' n' b
              (record { rows = rows'; times = times' })
          pushes d s =
              let st = state_at ρ names (trace_of names q.rows row) in
              let e = dated st (take (at q + 1) all) (counted asked.shape) p.matched d in
              let m = longest ∙ longest_is asked.shape in
              record {
                pushed = record { matched = e.matches; kept = p.kept; states = p.states };
                since = rw l.laid at e.since;
                times = rw (l.laid, m) at s;
              }
