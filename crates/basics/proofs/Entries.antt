-- Laws of the entries of lists.
--   get_d_map, get_d_second     an element of a mapped list; one of the second of two lists
--   same_sound, same_refl, same_true, same_false     what the test of two lists says
use Prim.Native.Nat.{ℕ, zero, suc, ◌+◌, ◌-◌, ◌<◌, ◌≤◌}
use native.Mathlib.Omega.{arith}
use mathlib.Core.Path.{◌≡◌, refl, ap, sym, ◌∙◌}
use mathlib.Core.Bool.{Bool, true, false}
use mathlib.Core.List.{List, [], ◌∷◌, ◌++◌, map}
use lib.Dec.{eqb}
use lib.ListN.{get_or, length}
use lib.Seq.{get_or-append-add}
use borrow.Author.Tests.{eqb-true, eq-eqb}
use Rattle.basics.specs.Words.{same}
use Rattle.basics.proofs.Bools.{never, and_left, and_right}

pub get_d_map : {A B : Type 0} (f : A → B) (l : List A) (n : ℕ) (d : A) (e : B) → n < length l
    → get_or (map f l) n e ≡ f (get_or l n d)
get_d_map f [] n d e h = absurd (omega arith)
get_d_map f (x ∷ l) zero d e h = refl
get_d_map f (x ∷ l) (suc n) d e h = get_d_map f l n d e (omega arith)

-- an element of two lists, in the first and in the second
pub get_d_second : {A : Type 0} (xs ys : List A) (n : ℕ) (d : A) → length xs ≤ n
    → get_or (xs ++ ys) n d ≡ get_or ys (n - length xs) d
get_d_second xs ys n d h =
    let e : length xs + (n - length xs) ≡ n = omega arith in
    ap (λ (k : ℕ). get_or (xs ++ ys) k d) (sym e) ∙ get_or-append-add xs ys (n - length xs) d

-- two lists that are the same, as a test
pub same_sound : (xs ys : List ℕ) → same xs ys ≡ true → xs ≡ ys
unfolding same
same_sound [] [] e = refl
same_sound [] (y ∷ ys) e = never e
same_sound (x ∷ xs) [] e = never e
same_sound (x ∷ xs) (y ∷ ys) e =
    let a = eqb-true x y (and_left (eqb x y) (same xs ys) e) in
    let b = same_sound xs ys (and_right (eqb x y) (same xs ys) e) in cc

pub same_refl : (xs : List ℕ) → same xs xs ≡ true
unfolding same
same_refl [] = refl
same_refl (x ∷ xs) = rw (eq-eqb x x refl) (same_refl xs)

pub same_true : (xs ys : List ℕ) → xs ≡ ys → same xs ys ≡ true
same_true xs ys e = rw e (same_refl ys)

pub same_false : (xs ys : List ℕ) → (xs ≡ ys → ⊥) → same xs ys ≡ false
same_false xs ys n = go (same xs ys) refl
  where
    go : (b : Bool) → same xs ys ≡ b → same xs ys ≡ false
    go true e = absurd (n (same_sound xs ys e))
    go false e = e
