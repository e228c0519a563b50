-- The queue tells at push i what the documents define for row i of the trace fed so far: the answer, the number tried,
-- and the time where the match began, for any feed of any length.
--   fed_listed       the times fed, one after the other, are a list from a rule
--   listed_rises     they rise if each is above the one before
--   feed_rows        the rows are fed to a queue of rows
--   times_kept       before push i the times kept are those of the last K of the i rows fed, or of all
--   times_rise       where the times fed rise, so do those kept
--   queue_began      push i's answer, number tried and time are row i's
use Prim.Native.Nat.{ℕ, zero, suc, ◌+◌, ◌-◌, ◌*◌, ◌<◌, ◌≤◌}
use native.Mathlib.Nat.{zero-add}
use native.Mathlib.Numerals.{add-one}
use native.Mathlib.Omega.{arith}
use mathlib.Core.Path.{◌≡◌, refl, ap, sym, ◌∙◌, subst}
use mathlib.Core.List.{List, [], ◌∷◌, ◌++◌}
use lib.ListN.{length, get_or, take, drop}
use lib.Seq.{drop-nil, get_or-drop}
use Rattle.basics.specs.Words.{listed}
use Rattle.basics.proofs.Listed.{listed_length, listed_more, listed_at}
use Rattle.alf.specs.declared.Rules.{Rules}
use Rattle.alf.specs.declared.Answer.{Answer}
use Rattle.alf.specs.Beginnings.{Began}
use Rattle.alf.specs.Values.{state_at}
use Rattle.alf.specs.Alternatives.{Alternative}
use Rattle.alf.proofs.BeginningsNear.{SameTimes, began_near}
use Rattle.alternatives.specs.InMemory.{longest_of}
use Rattle.alternatives.proofs.Longest.{longest_within}
use Rattle.beginnings.specs.Dated.{Dates}
use Rattle.queue.specs.Queues as plain
use Rattle.queue.specs.Queues.{last_rows, fed}
use Rattle.queue.proofs.LastRows.{fed_length, last_length, last_push, last_again}
use Rattle.queue.proofs.QueueTheorems.{Anything, any_asks, keeps, near, queue_answers}
use Rattle.timed_queue.specs.declared.queues.Queue.{Queue}
use Rattle.timed_queue.specs.Stamps.{stored_times}
use Rattle.alf.specs.Refusals.{Rising}
use Rattle.timed_queue.specs.TimedQueues.{held_times, times_of, Feed}
use Rattle.timed_queue.proofs.RisingTimes.{held_stored, rising_drop}

pub fed_listed : (times : ℕ → ℕ) (n : ℕ) → fed (λ j. times j ∷ []) n ≡ listed 0 n times
unfolding fed listed
fed_listed times zero = refl
fed_listed times (suc n) =
    ap (λ (l : List ℕ). l ++ (times n ∷ [])) (fed_listed times n)
    ∙ ap (λ (j : ℕ). listed 0 n times ++ (times j ∷ [])) (sym (zero-add n))
    ∙ sym (listed_more 0 n times)

pub listed_rises : (times : ℕ → ℕ) (n : ℕ) → ((j : ℕ) → suc j < n → times j < times (suc j)) → Rising (listed 0 n times)
listed_rises times n rise r some there =
    let l = listed_length 0 n times in
    let e : suc (r - 1) ≡ r = omega arith in
    rw (listed_at 0 n (r - 1) times 0 (omega (arith, l, there)), zero-add (r - 1))
    (rw (listed_at 0 n r times 0 (omega (arith, l, there)), zero-add r)
    (subst (λ (j : ℕ). times (r - 1) < times j) e (rise (r - 1) (omega (arith, l, there)))))

module _ {ρ : Rules} {names : ℕ} {xs : List Alternative} {n : ℕ} {rows : ℕ → List ℕ} {times : ℕ → ℕ}
    {queues : ℕ → Queue} {answers : ℕ → Answer} {counts : ℕ → ℕ} {begans : ℕ → Began}
    (f : Feed ρ names xs n rows times queues answers counts begans) where
  pub feed_rows : plain.Feed ρ names xs n rows (λ i. (queues i).rows) answers counts
  feed_rows = record { first = f.first; full = f.full; pushes = λ i l. (f.pushes i l).pushed }

  abbrev K : ℕ
  K = longest_of xs

  -- the times, a list for each row
  abbrev stamps : ℕ → List ℕ
  stamps j = times j ∷ []

  fed_whole : (i : ℕ) → length (fed stamps i) ≡ i * 1
  fed_whole i = fed_length 1 stamps i (λ j l. refl)

  -- the times of what is kept and the row's are those of the last rows fed
  times_is : (i : ℕ) → held_times (queues i) ≡ last_rows 1 K i (fed stamps i)
      → times_of (queues i) (times i) ≡ drop ((i - K) * 1) (fed stamps (suc i))
  unfolding fed
  times_is i k = rw k (last_push 1 K i (fed stamps i) (stamps i) (fed_whole i))

  times_next : (i : ℕ) → i < n → held_times (queues i) ≡ last_rows 1 K i (fed stamps i)
      → held_times (queues (suc i)) ≡ last_rows 1 K (suc i) (fed stamps (suc i))
  times_next i l k =
      let number = (keeps feed_rows i (omega arith)).number in
      let t = fed stamps (suc i) in
      let e =
      ap (last_rows 1 K ((queues i).rows.kept.0 + 1)) (times_is i k)
      ∙ ap (λ (j : ℕ). last_rows 1 K (j + 1) (drop ((i - K) * 1) t)) number
      ∙ last_again 1 K i t
      ∙ ap (λ (j : ℕ). last_rows 1 K j t) (add-one i) in
      ap (take (queues (suc i)).rows.kept.0) ((f.pushes i l).times ∙ ap stored_times e)
      ∙ held_stored (last_rows 1 K (suc i) t) (queues (suc i)).rows.kept.0
      (omega (arith, last_length 1 K (suc i) t (fed_whole (suc i)), (keeps feed_rows (suc i) l).number))

  pub times_kept : (i : ℕ) → i ≤ n → held_times (queues i) ≡ last_rows 1 K i (fed stamps i)
  unfolding fed last_rows
  times_kept zero h = rw f.first (sym (drop-nil ((0 - K) * 1)))
  times_kept (suc i) h = times_next i h (times_kept i (omega arith))

  pub times_rise : ((j : ℕ) → suc j < n → times j < times (suc j)) → (i : ℕ) → i ≤ n → Rising (held_times (queues i))
  unfolding last_rows
  times_rise rise i h =
      subst Rising (sym (times_kept i h))
      (rising_drop ((i - K) * 1) (fed stamps i)
      (subst Rising (sym (fed_listed times i)) (listed_rises times i (λ j l. rise j (omega arith)))))

  same_times : (i : ℕ) → i < n
      → SameTimes (times_of (queues i) (times i)) (fed stamps (suc i)) K (queues i).rows.kept.0 i
  same_times i l = record { same = same }
    where
      same : (d : ℕ) → d ≤ K → d ≤ (queues i).rows.kept.0
          → get_or (times_of (queues i) (times i)) ((queues i).rows.kept.0 - d) 0 ≡ get_or (fed stamps (suc i)) (i - d) 0
      same d a b =
          let e : (i - K) * 1 + ((queues i).rows.kept.0 - d) ≡ i - d =
          omega (arith, (keeps feed_rows i (omega arith)).number) in
          ap (λ (ts : List ℕ). get_or ts ((queues i).rows.kept.0 - d) 0) (times_is i (times_kept i (omega arith)))
          ∙ get_or-drop ((i - K) * 1) (fed stamps (suc i)) ((queues i).rows.kept.0 - d) 0
          ∙ ap (λ (j : ℕ). get_or (fed stamps (suc i)) j 0) e

  pub queue_began : 0 < K → (i : ℕ) → i < n
      → Dates (state_at ρ names (fed rows (suc i))) (fed stamps (suc i)) xs i (answers i) (counts i) (begans i)
  queue_began some i l =
      let k = keeps feed_rows i (omega arith) in
      record {
        matches = queue_answers feed_rows some i l;
        since =
            (f.pushes i l).since
            ∙ began_near Anything _ _ (times_of (queues i) (times i)) (fed stamps (suc i)) K (queues i).rows.kept.0 i
            xs some (near feed_rows i l k) (same_times i l) (any_asks xs) (longest_within xs);
      }
