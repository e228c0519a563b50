-- Times that rise.
--   held_stored      what a queue holds of times that were stored in it
--   rising_push      a time behind some that is above the last of them
--   rising_drop      the times from a place on
--   next_held        the times that are kept after a push
--   rising_again     where those kept rise, and the row's is above them, those kept after a push rise
--   last_time_lem        and the last of them is the row's
use Prim.Native.Nat.{ℕ, ◌+◌, ◌-◌, ◌*◌, ◌<◌, ◌≤◌}
use native.Mathlib.Omega.{arith}
use mathlib.Core.Path.{◌≡◌, refl, ap, sym, ◌∙◌, subst}
use mathlib.Core.List.{List, [], ◌∷◌, ◌++◌}
use mathlib.Core.Logic.{◌⊎◌, inl, inr}
use lib.ListN.{length, get_or, take, drop, replicate, length-append, length-drop, get_or-append, length-take}
use lib.Seq.{take_at, length-take-le, get_or-drop}
use Rattle.basics.specs.Memory.{placed}
use Rattle.basics.proofs.Bools.{below?}
use Rattle.alf.specs.declared.Rules.{Rules}
use Rattle.alf.specs.declared.Answer.{Answer}
use Rattle.alf.specs.Beginnings.{Began}
use Rattle.alf.specs.Alternatives.{Alternative}
use Rattle.alternatives.specs.InMemory.{longest_of}
use Rattle.queue.specs.Queues.{last_rows}
use Rattle.queue.proofs.LastRows.{last_length}
use Rattle.timed_queue.specs.declared.queues.Queue.{Queue}
use Rattle.timed_queue.specs.Stamps.{stored_times}
use Rattle.alf.specs.Refusals.{Rising}
use Rattle.timed_queue.specs.TimedQueues.{held_times, times_of, Pushes}

pub held_stored : (ts : List ℕ) (n : ℕ) → length ts ≡ n → take n (stored_times ts) ≡ ts
unfolding placed
held_stored ts n h = take_at ts (drop (0 + length ts) (replicate 16 0)) n h

-- an entry of a list with one behind it: the last
behind : (ts : List ℕ) (t : ℕ) → get_or (ts ++ (t ∷ [])) (length ts) 0 ≡ t
behind [] t = refl
behind (x ∷ ts) t = behind ts t

pub rising_push : (ts : List ℕ) (t : ℕ) → Rising ts → (0 < length ts → get_or ts (length ts - 1) 0 < t)
    → Rising (ts ++ (t ∷ []))
rising_push ts t rise last r some there = go (below? r (length ts))
  where
    go : (r < length ts) ⊎ (length ts ≤ r) → get_or (ts ++ (t ∷ [])) (r - 1) 0 < get_or (ts ++ (t ∷ [])) r 0
    go (inl l) =
        rw (get_or-append ts (t ∷ []) 0 r l, get_or-append ts (t ∷ []) 0 (r - 1) (omega arith)) (rise r some l)
    go (inr l) =
        let e : r ≡ length ts = omega (arith, length-append ts (t ∷ []), l, there) in
        rw (e, behind, get_or-append ts (t ∷ []) 0 (length ts - 1) (omega arith)) (last (omega arith))

pub rising_drop : (m : ℕ) (ts : List ℕ) → Rising ts → Rising (drop m ts)
rising_drop m ts rise r some there =
    let e : m + r - 1 ≡ m + (r - 1) = omega arith in
    rw (get_or-drop, get_or-drop, ← e) (rise (m + r) (omega arith) (omega (arith, length-drop m ts, there)))

module _ {ρ : Rules} {names : ℕ} {xs : List Alternative} {q : Queue} {t : ℕ} {row : List ℕ} {a : Answer} {n : ℕ}
    {b : Began} {q' : Queue} (p : Pushes ρ names xs q t row a n b q') (whole : q.rows.kept.0 ≤ length q.times)
  where
    abbrev kept : ℕ
    kept = q.rows.kept.0

    held_length : length (held_times q) ≡ kept
    held_length = length-take-le kept q.times whole

    times_length : length (times_of q t) ≡ (kept + 1) * 1
    times_length = omega (arith, length-append (held_times q) (t ∷ []), held_length)

    pub next_held : held_times q' ≡ last_rows 1 (longest_of xs) (kept + 1) (times_of q t)
    next_held =
        let k = longest_of xs in
        ap (take q'.rows.kept.0) p.times
        ∙ held_stored (last_rows 1 k (kept + 1) (times_of q t)) q'.rows.kept.0
        (omega (arith, last_length 1 k (kept + 1) (times_of q t) times_length, p.pushed.kept))

    -- so there are as many times as rows
    pub next_whole : q'.rows.kept.0 ≤ length q'.times
    next_whole =
        let k = longest_of xs in
        omega (
          arith,
          ap length next_held,
          last_length 1 k (kept + 1) (times_of q t) times_length,
          length-take q'.rows.kept.0 q'.times,
          p.pushed.kept,
        )

    pub rising_again : Rising (held_times q) → (0 < kept → get_or (held_times q) (kept - 1) 0 < t) → Rising (held_times q')
    unfolding last_rows
    rising_again rise last =
        subst Rising (sym next_held)
        (rising_drop ((kept + 1 - longest_of xs) * 1) (times_of q t)
        (rising_push (held_times q) t rise (λ some. rw held_length (last (omega (arith, held_length))))))

    pub last_time_lem : 0 < longest_of xs → get_or (held_times q') (q'.rows.kept.0 - 1) 0 ≡ t
    unfolding last_rows
    last_time_lem some =
        let m = (kept + 1 - longest_of xs) * 1 in
        let e : m + (q'.rows.kept.0 - 1) ≡ length (held_times q) =
        omega (arith, p.pushed.kept, held_length) in
        ap (λ (l : List ℕ). get_or l (q'.rows.kept.0 - 1) 0) next_held
        ∙ get_or-drop m (times_of q t) (q'.rows.kept.0 - 1) 0
        ∙ ap (λ (i : ℕ). get_or (times_of q t) i 0) e
        ∙ behind (held_times q) t
