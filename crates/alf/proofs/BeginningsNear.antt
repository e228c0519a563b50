-- The time where a match began depends on the last K+1 rows and their times only, for every K that no alternative
-- exceeds. So a queue that keeps K rows with their times tells it.
--   SameTimes      the times of rows i and j, and of the K rows before each, are the same
--   began_near     so is the time where the match began
use Rattle.std.specs.Prelude.{if◌then◌else◌}
use mathlib.Core.Path.{◌≡◌, refl}
use mathlib.Core.List.{List, [], ◌∷◌}
use mathlib.Core.Logic.{◌⊎◌, inl, inr}
use Prim.Native.Nat.{ℕ, zero, suc, ◌-◌, ◌<◌, ◌≤◌}
use native.Mathlib.Omega.{arith}
use lib.Dec.{eqb}
use lib.ListN.{length, get_or}
use borrow.Author.Tests.{eq-eqb, ne_eqb}
use Rattle.alf.specs.Expressions.{Boolean}
use Rattle.alf.specs.Windows.{YES}
use Rattle.alf.specs.Alternatives.{Alternative, at_row}
use Rattle.alf.specs.Beginnings.{began_in, began}
use Rattle.basics.proofs.Bools.{below?}
use Rattle.basics.proofs.AllEntries.{All, none, more}
use Rattle.alf.proofs.Conditions.{Asks}
use Rattle.alf.proofs.Nearness.{Near, row_near}
use Rattle.alf.proofs.RowsAreAlternatives.{row_off, row_small}
use Rattle.alf.proofs.Beginnings.{since}

pub record SameTimes (times times' : List ℕ) (K i j : ℕ) : Type 0 where
  pub same : (d : ℕ) → d ≤ K → d ≤ i → get_or times (i - d) 0 ≡ get_or times' (j - d) 0

module _ (Q : Boolean → Type 0) (st st' : Boolean → ℕ → ℕ) (times times' : List ℕ) (K : ℕ) where
  module _ (i j : ℕ) (near : Near Q st st' K i j) (same : SameTimes times times' K i j) where
    in_near : (xs : List Alternative) → All (Asks Q) xs → All (λ x. length x ≤ K) xs
        → began_in st times xs i ≡ began_in st' times' xs j
    unfolding began_in
    in_near [] none none = refl
    in_near (x ∷ xs) (more s ss) (more l ls) =
        rw (← row_near Q st st' K i j near x s l)
        (go (below? (at_row st i x) 2) (below? i (length x)) (in_near xs ss ls))
      where
        go : (at_row st i x < 2) ⊎ (2 ≤ at_row st i x) → (i < length x) ⊎ (length x ≤ i)
            → began_in st times xs i ≡ began_in st' times' xs j
            → (if eqb (at_row st i x) YES then since times (i - length x) else began_in st times xs i)
            ≡ (if eqb (at_row st i x) YES then since times' (j - length x) else began_in st' times' xs j)
        go (inl n) f r = rw (ne_eqb (at_row st i x) YES (λ e. omega arith)) r
        go (inr n) (inl f) r = absurd (omega (arith, row_off st i x f))
        go (inr n) (inr f) r =
            rw (eq-eqb (at_row st i x) YES (omega (arith, row_small st i x)), same.same (length x) l f) refl

  pub began_near : (i j : ℕ) (xs : List Alternative) → 0 < K → Near Q st st' K i j → SameTimes times times' K i j
      → All (Asks Q) xs → All (λ x. length x ≤ K) xs
      → began st times xs i ≡ began st' times' xs j
  unfolding began
  began_near zero zero xs h n t s l = refl
  began_near zero (suc j) xs h n t s l = absurd (omega (arith, n.room))
  began_near (suc i) zero xs h n t s l = absurd (omega (arith, n.room))
  began_near (suc i) (suc j) xs h n t s l = in_near (suc i) (suc j) n t xs s l
