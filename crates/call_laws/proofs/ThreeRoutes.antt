-- Three routes, one answer: at every row of every trace the answer on windows, the matcher's and the queue's are the
-- same, and the matcher and the queue try as many alternatives, and give the same time where the match began.
--   fed_prefix       what was fed first stays in front
--   row_so_far       row i's answer, number tried and time depend on the rows fed so far, and their times, alone
--   three_routes
use mathlib.Core.Path.{◌≡◌, refl, ap, sym, ◌∙◌}
use mathlib.Core.List.{List, [], ◌∷◌}
use mathlib.Core.Logic.{◌⊎◌, inl, inr}
use Prim.Native.Nat.{ℕ, zero, suc, ◌+◌, ◌-◌, ◌*◌, ◌<◌, ◌≤◌}
use native.Mathlib.Nat.{suc-mul, zero-add, mul-le-mul_right}
use native.Mathlib.Omega.{arith}
use lib.ListN.{length, get_or, get_or-append}
use Rattle.alf.specs.declared.Rules.{Rules}
use Rattle.alf.specs.declared.Answer.{Answer}
use Rattle.alf.specs.Beginnings.{Began}
use Rattle.alf.specs.Expressions.{Vector, Over}
use Rattle.alf.specs.Values.{row_of, state_at}
use Rattle.alf.specs.Windows.{row_answer}
use Rattle.alf.specs.Answers.{number_of}
use Rattle.alf.proofs.Answers.{number_same}
use Rattle.alf.specs.Alternatives.{Alternative, alternatives}
use Rattle.basics.specs.Words.{listed}
use Rattle.basics.proofs.Bools.{equal?}
use Rattle.basics.proofs.Listed.{listed_at}
use Rattle.basics.proofs.AllEntries.{All}
use Rattle.alf.proofs.Conditions.{Asks}
use Rattle.alf.proofs.Nearness.{Near, answers_near, tries_near}
use Rattle.alf.proofs.BeginningsNear.{SameTimes, began_near}
use Rattle.alf.proofs.Values.{state_same}
use Rattle.beginnings.specs.Dated.{Dates}
use Rattle.matcher.proofs.Agreement.{matches_windows}
use Rattle.timed_queue.specs.declared.queues.Queue.{Queue}
use Rattle.alternatives.specs.InMemory.{longest_of}
use Rattle.queue.specs.Queues.{fed}
use Rattle.timed_queue.specs.TimedQueues.{Feed}
use Rattle.alternatives.proofs.Longest.{longest_within}
use Rattle.queue.proofs.LastRows.{fed_length}
use Rattle.timed_queue.proofs.TimedTheorems.{fed_listed, queue_began}

fed_prefix : (rows : ℕ → List ℕ) (i n m : ℕ) → i ≤ n → m < length (fed rows i)
    → ((j : ℕ) → i ≤ j → j ≤ n → length (fed rows i) ≤ length (fed rows j))
    → get_or (fed rows n) m 0 ≡ get_or (fed rows i) m 0
unfolding fed
fed_prefix rows i zero m h l longer = let e : 0 ≡ i = omega arith in ap (λ (k : ℕ). get_or (fed rows k) m 0) e
fed_prefix rows i (suc n) m h l longer =
    go (λ a. fed_prefix rows i n m a l (λ j b c. longer j b (omega arith))) (equal? i (suc n))
  where
    go : (i ≤ n → get_or (fed rows n) m 0 ≡ get_or (fed rows i) m 0) → (i ≡ suc n) ⊎ (i ≡ suc n → ⊥)
        → get_or (fed rows (suc n)) m 0 ≡ get_or (fed rows i) m 0
    go before (inl e) = ap (λ (k : ℕ). get_or (fed rows k) m 0) (sym e)
    go before (inr d) =
        let k : i ≤ n = omega (arith, d) in
        get_or-append (fed rows n) (rows n) 0 m (omega (arith, longer n k (omega arith))) ∙ before k

module _ {ρ : Rules} {names : ℕ} {xs : List Alternative} {n : ℕ} {rows : ℕ → List ℕ} {times : ℕ → ℕ}
    {queues : ℕ → Queue} {answers : ℕ → Answer} {counts : ℕ → ℕ} {begans : ℕ → Began}
    (f : Feed ρ names xs n rows times queues answers counts begans) (over : All (Asks (Over names)) xs)
    (some : 0 < longest_of xs) (i : ℕ) (l : i < n) where
  whole : (j : ℕ) → j ≤ n → length (fed rows j) ≡ j * names
  whole j h = fed_length names rows j (λ k m. f.full k (omega arith))

  same_row : (j k : ℕ) → j ≤ i → k < names
      → row_of names (fed rows (suc i)) j k ≡ row_of names (fed rows n) j k
  same_row j k a b =
      let c = mul-le-mul_right {m = suc j} {n = suc i} names (omega arith) in
      sym
      (fed_prefix rows (suc i) n (j * names + k) l (omega (arith, whole (suc i) l, suc-mul j names))
      (λ r d e.
      omega (arith, whole (suc i) l, whole r e, mul-le-mul_right {m = suc i} {n = r} names d)))

  near : Near (Over names) (state_at ρ names (fed rows (suc i))) (state_at ρ names (fed rows n)) (longest_of xs) i i
  near =
      record {
        room = refl;
        agree = λ d a b c o. state_same names _ _ (λ k m. same_row (i - d) k (omega arith) m) _ c o;
      }

  -- the times of the rows fed so far are those of all rows fed
  time_at_lem : (m j : ℕ) → j < m → get_or (listed 0 m times) j 0 ≡ times j
  time_at_lem m j h = listed_at 0 m j times 0 h ∙ ap times (zero-add j)

  same_times : SameTimes (fed (λ j. times j ∷ []) (suc i)) (listed 0 n times) (longest_of xs) i i
  same_times =
      record {
        same = λ d a b.
            ap (λ (ts : List ℕ). get_or ts (i - d) 0) (fed_listed times (suc i))
            ∙ time_at_lem (suc i) (i - d) (omega arith) ∙ sym (time_at_lem n (i - d) (omega arith));
      }

  pub row_so_far : Dates (state_at ρ names (fed rows n)) (listed 0 n times) xs i (answers i) (counts i) (begans i)
  row_so_far =
      let q = queue_began f some i l in
      let K = longest_of xs in
      record {
        matches =
            record {
              is = q.matches.is ∙ answers_near (Over names) _ _ K i i xs some near over (longest_within xs);
              count = q.matches.count ∙ tries_near (Over names) _ _ K i i xs some near over (longest_within xs);
            };
        since = q.since ∙ began_near (Over names) _ _ _ _ K i i xs some near same_times over (longest_within xs);
      }

  pub three_routes : (p : Vector) → xs ≡ alternatives p → {a : Answer} {t : ℕ} {b : Began}
      → Dates (state_at ρ names (fed rows n)) (listed 0 n times) xs i a t b
      → (number_of a ≡ row_answer (state_at ρ names (fed rows n)) p i) × (answers i ≡ a) × (counts i ≡ t) × (begans i ≡ b)
  three_routes p same d =
      let m = d.matches in
      let q = row_so_far in (
        matches_windows (state_at ρ names (fed rows n)) p same m,
        number_same _ _ (q.matches.is ∙ sym m.is),
        q.matches.count ∙ sym m.count,
        q.since ∙ sym d.since,
      )
