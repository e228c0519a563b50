-- A table in the code is the list that its rule computes, so each entry is the rule's.
-- Main names: line_rule (eight entries), square_rule (eight lines of eight): the entry, and that it is a state's code,
-- by
-- one test computed over the table.
use mathlib.Core.Path.{◌≡◌, refl}
use mathlib.Core.Bool.{Bool, true}
use mathlib.Core.List.{List}
use Prim.Native.Nat.{ℕ, zero, suc, ◌+◌, ◌<◌}
use native.Mathlib.Nat.{add-zero, zero-add}
use native.Mathlib.Omega.{arith}
use lib.Dec.{ltb}
use lib.ListN.{get_or}
use borrow.Author.Tests.{ltb-true}
use Rattle.basics.specs.Words.{listed}
use Rattle.basics.proofs.Choices.{every, every_at}

listed_from : {A : Type 0} (a n k : ℕ) (f : ℕ → A) (d : A) → k < n → get_or (listed a n f) k d ≡ f (a + k)
unfolding listed
listed_from a zero k f d h = absurd (omega arith)
listed_from a (suc n) zero f d h = rw add-zero refl
listed_from a (suc n) (suc k) f d h =
    let e : a + suc k ≡ a + 1 + k = omega arith in
    rw e (listed_from (a + 1) n k f d (omega arith))

pub listed_at : {A : Type 0} (n k : ℕ) (f : ℕ → A) (d : A) → k < n → get_or (listed 0 n f) k d ≡ f k
listed_at n k f d h = rw zero-add at (listed_from 0 n k f d h)

abbrev pub table : (ℕ → ℕ) → List ℕ
table g = listed 0 8 g

abbrev pub square : (ℕ → ℕ → ℕ) → List (List ℕ)
square g = listed 0 8 (λ x. table (g x))

unfoldable pub codes : (ℕ → ℕ) → Bool
codes g = every 8 (λ x. ltb (g x) 8)

pub line_rule : (g : ℕ → ℕ) (d x : ℕ) → codes g ≡ true → x < 8
    → (get_or (table g) x d ≡ g x) × (get_or (table g) x d < 8)
unfolding codes
line_rule g d x t h = let e = listed_at 8 x g d h in (e, rw e (ltb-true (g x) 8 (every_at 8 _ t x h)))

pub square_rule : (g : ℕ → ℕ → ℕ) (ds : List ℕ) (d x y : ℕ) → every 8 (λ u. codes (g u)) ≡ true
    → x < 8 → y < 8
    → (get_or (get_or (square g) x ds) y d ≡ g x y) × (get_or (get_or (square g) x ds) y d < 8)
square_rule g ds d x y t h k = rw (listed_at 8 x (λ u. table (g u)) ds h) (line_rule (g x) d y (every_at 8 _ t x h) k)
