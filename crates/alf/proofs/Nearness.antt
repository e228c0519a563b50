-- A row's answer, and the number tried, depend on the last K+1 rows only, and on whether there are that many.
-- For every K that no alternative exceeds, shown once.
--   steps_near     an alternative's answers on two runs of rows that agree
--   Near           rows i and j of two traces agree back to K rows before, or to the first row of both
--   row_near                     so an alternative answers the same
--   answers_near, tries_near     so they have the same answer and the same number tried
use mathlib.Core.Path.{◌≡◌, refl, ap, sym, ◌∙◌}
use mathlib.Core.List.{List, [], ◌∷◌, map}
use mathlib.Core.Logic.{◌⊎◌, inl, inr}
use Prim.Native.Nat.{ℕ, zero, suc, ◌+◌, ◌-◌, ◌<◌, ◌≤◌, min}
use native.Mathlib.Nat.{add-zero}
use native.Mathlib.Omega.{arith}
use lib.ListN.{length}
use Rattle.basics.specs.Words.{least_of, greatest_of}
use Rattle.alf.specs.Expressions.{Boolean}
use Rattle.alf.specs.Windows.{numbered}
use Rattle.alf.specs.Alternatives.{test, Step, Alternative, test_at, step_at, steps_from, at_row}
use Rattle.alf.specs.Alternatives.{best_of, answer_of, tried, tries}
use Rattle.basics.proofs.Bools.{below?}
use Rattle.basics.proofs.AllEntries.{All, none, more}
use Rattle.alf.proofs.Conditions.{AsksTest, Asks}
use Rattle.alf.proofs.RowsAreAlternatives.{row_on, row_off}

module _ (Q : Boolean → Type 0) (st st' : Boolean → ℕ → ℕ) where
  -- the operands have the same states at row a here and at row b there
  abbrev pub Agree : ℕ → ℕ → Type 0
  Agree a b = (c : Boolean) → Q c → st c a ≡ st' c b

  step_near : (s : Step) (a b : ℕ) → All (AsksTest Q) s → Agree a b → Agree (a + 1) (b + 1)
      → step_at st s a ≡ step_at st' s b
  unfolding step_at least_of test_at
  step_near [] a b none g h = refl
  step_near (test e c ∷ s) a b (more q k) g h =
      let i = step_near s a b k g h in
      rw (g c q, h c q) (ap (min _) i)

  pub steps_near : (x : Alternative) (a b : ℕ) → Asks Q x
      → ((k : ℕ) → k ≤ length x → Agree (a + k) (b + k))
      → steps_from st x a ≡ steps_from st' x b
  unfolding steps_from
  steps_near [] a b none g = refl
  steps_near (s ∷ x) a b (more h t) g =
      let first : Agree a b = rw (add-zero, add-zero) at (g 0 (omega arith)) in
      let e = step_near s a b h first (g 1 (omega arith)) in
      let i = steps_near x (a + 1) (b + 1) t (λ k l. rw (shift a k, shift b k) (g (suc k) (omega arith))) in
      omega arith
    where
      shift : (r k : ℕ) → r + 1 + k ≡ r + suc k
      shift r k = omega arith

  pub record Near (K i j : ℕ) : Type 0 where
    pub room : min i K ≡ min j K
    pub agree : (d : ℕ) → d ≤ K → d ≤ i → Agree (i - d) (j - d)

  module _ (K i j : ℕ) (near : Near K i j) where
    pub row_near : (x : Alternative) → Asks Q x → length x ≤ K → at_row st i x ≡ at_row st' j x
    row_near x s l = go (below? i (length x))
      where
        back : (r k : ℕ) → length x ≤ r → k ≤ length x → r - length x + k ≡ r - (length x - k)
        back r k h m = omega arith

        go : (i < length x) ⊎ (length x ≤ i) → at_row st i x ≡ at_row st' j x
        go (inl h) = row_off st i x h ∙ sym (row_off st' j x (omega (arith, near.room)))
        go (inr h) =
            let m : length x ≤ j = omega (arith, near.room) in
            row_on st i x h
            ∙ steps_near x (i - length x) (j - length x) s
            (λ k n. rw (back i k h n, back j k m n) (near.agree (length x - k) (omega arith) (omega arith)))
            ∙ sym (row_on st' j x m)

    best_near : (xs : List Alternative) → All (Asks Q) xs → All (λ x. length x ≤ K) xs
        → best_of st xs i ≡ best_of st' xs j
    unfolding best_of greatest_of
    best_near [] none none = refl
    best_near (x ∷ xs) (more h s) (more l t) = let e = row_near x h l in let f = best_near xs s t in omega arith

    tried_near : (xs : List Alternative) → All (Asks Q) xs → All (λ x. length x ≤ K) xs
        → map (at_row st i) xs ≡ map (at_row st' j) xs
    tried_near [] none none = refl
    tried_near (x ∷ xs) (more h s) (more l t) = rw (row_near x h l, tried_near xs s t) refl

  pub answers_near : (K i j : ℕ) (xs : List Alternative) → 0 < K → Near K i j → All (Asks Q) xs
      → All (λ x. length x ≤ K) xs
      → answer_of st xs i ≡ answer_of st' xs j
  unfolding answer_of
  answers_near K zero zero xs h n s l = refl
  answers_near K zero (suc j) xs h n s l = absurd (omega (arith, n.room))
  answers_near K (suc i) zero xs h n s l = absurd (omega (arith, n.room))
  answers_near K (suc i) (suc j) xs h n s l = ap numbered (best_near K (suc i) (suc j) n xs s l)

  pub tries_near : (K i j : ℕ) (xs : List Alternative) → 0 < K → Near K i j → All (Asks Q) xs
      → All (λ x. length x ≤ K) xs
      → tries st xs i ≡ tries st' xs j
  unfolding tries
  tries_near K zero zero xs h n s l = refl
  tries_near K zero (suc j) xs h n s l = absurd (omega (arith, n.room))
  tries_near K (suc i) zero xs h n s l = absurd (omega (arith, n.room))
  tries_near K (suc i) (suc j) xs h n s l = ap tried (tried_near K (suc i) (suc j) n xs s l)
