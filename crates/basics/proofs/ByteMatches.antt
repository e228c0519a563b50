-- A match on a byte against a definition, by a test that antt computes: one law for an arm of single numbers (keyed),
-- one for an arm of ranges and for the last arm (ranged). Both are over any function of a byte.
-- Main names: keyed, ranged.
use mathlib.Core.Path.{◌≡◌, refl}
use mathlib.Core.Bool.{Bool, true, false, ◌&&◌, ◌||◌}
use mathlib.Core.List.{List, [], ◌∷◌}
use mathlib.Core.Logic.{◌⊎◌, inl, inr}
use Prim.Native.Nat.{ℕ, ◌+◌, ◌≤◌, ◌<◌}
use native.Mathlib.Omega.{arith}
use lib.Dec.{eqb}
use borrow.Author.Tests.{eqb-true}
use types.Run.{OneOf}
use Rattle.basics.proofs.Bools.{and_left, and_right}
use Rattle.basics.proofs.Ranges.{all_from, all_from_law}

-- each of some numbers passes
abbrev pub all_of : (ℕ → Bool) → List ℕ → Bool
all_of p [] = true
all_of p (k ∷ ks) = p k && all_of p ks

-- one of the keys
abbrev pub key : List ℕ → ℕ → Bool
key [] b = false
key (k ∷ ks) b = eqb b k || key ks b

or_case : (a b : Bool) → a || b ≡ true → (a ≡ true) ⊎ (b ≡ true)
or_case true b e = inl refl
or_case false b e = inr e

not_true : false ≡ true → ⊥
not_true e = let z : ◌≡◌ {A = ℕ} 0 1 = cc in omega arith

key_one_of : (ks : List ℕ) (b : ℕ) → key ks b ≡ true → OneOf ks b
key_one_of [] b e = not_true e
key_one_of (k ∷ []) b e = go (or_case (eqb b k) false e)
  where
    go : (eqb b k ≡ true) ⊎ (false ≡ true) → b ≡ k
    go (inl h) = eqb-true b k h
    go (inr h) = absurd (not_true h)
key_one_of (k ∷ (j ∷ ks)) b e = go (or_case (eqb b k) (key (j ∷ ks) b) e) (key_one_of (j ∷ ks) b)
  where
    go :
        (eqb b k ≡ true) ⊎ (key (j ∷ ks) b ≡ true) →
        (key (j ∷ ks) b ≡ true → OneOf (j ∷ ks) b) →
        OneOf (k ∷ (j ∷ ks)) b
    go (inl h) f = inl (eqb-true b k h)
    go (inr h) f = inr (f h)

-- What a match knows in an arm of ranges, and in its last arm: the byte is none of the other
-- arms' single numbers.
abbrev pub Rest : List (List ℕ) → Type 0 → ℕ → Type 0
Rest [] before b = before
Rest (ks ∷ kss) before b = Rest kss (before × (OneOf ks b → ⊥)) b

abbrev pub keys : List (List ℕ) → ℕ → Bool
keys [] b = false
keys (ks ∷ kss) b = key ks b || keys kss b

rest_before : (kss : List (List ℕ)) (before : Type 0) (b : ℕ) → Rest kss before b → before
rest_before [] before b r = r
rest_before (ks ∷ kss) before b r = (rest_before kss (before × (OneOf ks b → ⊥)) b r).0

not_key :
    (kss : List (List ℕ)) (before : Type 0) (b : ℕ) (x : Bool) →
    Rest kss before b →
    keys kss b || x ≡ true →
    x ≡ true
not_key [] before b x r e = e
not_key (ks ∷ kss) before b x r e =
    go (key ks b) refl e (not_key kss (before × (OneOf ks b → ⊥)) b x r)
  where
    go :
        (y : Bool) →
        key ks b ≡ y →
        (y || keys kss b) || x ≡ true →
        (keys kss b || x ≡ true → x ≡ true) →
        x ≡ true
    go true h e f = absurd ((rest_before kss (before × (OneOf ks b → ⊥)) b r).1 (key_one_of ks b h))
    go false h e f = f e

pub ranged :
    (f : ℕ → ℕ) (x lo n : ℕ) (kss : List (List ℕ)) →
    all_from (λ k. keys kss k || eqb x (f k)) lo n ≡ true →
    (b : ℕ) →
    Rest kss (Unit {0}) b →
    lo ≤ b →
    b < lo + n →
    x ≡ f b
ranged f x lo n kss t b r h k =
    eqb-true x (f b) (not_key kss (Unit {0}) b (eqb x (f b)) r (all_from_law _ lo n b t h k))

pub keyed : (f : ℕ → ℕ) (x : ℕ) (ks : List ℕ) (b : ℕ) → all_of (λ k. eqb x (f k)) ks ≡ true
    → OneOf ks b → x ≡ f b
keyed f x [] b t o = absurd o
keyed f x (k ∷ []) b t o = rw o (eqb-true x (f k) (and_left _ _ t))
keyed f x (k ∷ (j ∷ ks)) b t (inl o) = rw o (eqb-true x (f k) (and_left _ _ t))
keyed f x (k ∷ (j ∷ ks)) b t (inr o) = keyed f x (j ∷ ks) b (and_right (eqb x (f k)) _ t) o
