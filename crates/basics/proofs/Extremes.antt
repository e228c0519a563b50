-- Laws of the greatest and the least, over a range and over a list.
--   min_max_left                  the least goes through the greater
--   greatest_same, least_same     of equal entries
--   greatest_zero, greatest_one   of entries that are no, and all but one
--   greatest_max                  of the greater of two
--   least_first                   the first entry apart
--   greatest_of_append, -map, -same, -swap, least_of_append, -small
use mathlib.Core.Path.{◌≡◌, refl}
use mathlib.Core.List.{List, [], ◌∷◌, ◌++◌, map}
use mathlib.Core.Logic.{◌⊎◌, inl, inr}
use Prim.Native.Nat.{ℕ, zero, suc, ◌<◌, ◌≤◌, min, max}
use native.Mathlib.Omega.{arith}
use Rattle.basics.specs.Words.{greatest, least, greatest_of, least_of}
use Rattle.basics.proofs.Bools.{equal?}

pub min_max_left : (x y z : ℕ) → min (max x y) z ≡ max (min x z) (min y z)
min_max_left x y z = omega arith

pub greatest_same : (n : ℕ) (f g : ℕ → ℕ) → ((i : ℕ) → i < n → f i ≡ g i)
    → greatest n f ≡ greatest n g
unfolding greatest
greatest_same zero f g h = refl
greatest_same (suc n) f g h =
    let e = greatest_same n f g (λ i l. h i (omega arith)) in
    let d = h n (omega arith) in
    omega arith

pub least_same : (n : ℕ) (f g : ℕ → ℕ) → ((i : ℕ) → i < n → f i ≡ g i) → least n f ≡ least n g
unfolding least
least_same zero f g h = refl
least_same (suc n) f g h =
    let e = least_same n f g (λ i l. h i (omega arith)) in
    let d = h n (omega arith) in
    omega arith

pub greatest_zero : (n : ℕ) (f : ℕ → ℕ) → ((i : ℕ) → i < n → f i ≡ 0) → greatest n f ≡ 0
unfolding greatest
greatest_zero zero f h = refl
greatest_zero (suc n) f h =
    let e = greatest_zero n f (λ i l. h i (omega arith)) in
    let d = h n (omega arith) in
    omega arith

pub greatest_max : (n : ℕ) (f g : ℕ → ℕ)
    → greatest n (λ i. max (f i) (g i)) ≡ max (greatest n f) (greatest n g)
unfolding greatest
greatest_max zero f g = refl
greatest_max (suc n) f g = let e = greatest_max n f g in omega arith

pub greatest_one : (n k : ℕ) (f : ℕ → ℕ) → k < n → ((i : ℕ) → i < n → (i ≡ k → ⊥) → f i ≡ 0)
    → greatest n f ≡ f k
unfolding greatest
greatest_one zero k f l h = absurd (omega arith)
greatest_one (suc n) k f l h = go (λ m g. greatest_one n k f m g) (equal? k n)
  where
    go :
        (k < n → ((i : ℕ) → i < n → (i ≡ k → ⊥) → f i ≡ 0) → greatest n f ≡ f k) →
        (k ≡ n) ⊎ (k ≡ n → ⊥) →
        max (greatest n f) (f n) ≡ f k
    go r (inl e) =
        let z = greatest_zero n f (λ i m. h i (omega arith) (λ d. omega arith)) in
        rw e (omega arith)
    go r (inr d) =
        let z = r (omega arith) (λ i m. h i (omega arith)) in
        let y = h n (omega arith) (λ e. d (omega arith)) in
        omega arith

pub least_first : (n : ℕ) (f : ℕ → ℕ) → least (suc n) f ≡ min (f 0) (least n (λ i. f (suc i)))
unfolding least
least_first zero f = omega arith
least_first (suc n) f = let e = least_first n f in omega arith

module _ {A : Type 0} where
  pub greatest_of_append : (f : A → ℕ) (xs ys : List A)
      → greatest_of f (xs ++ ys) ≡ max (greatest_of f xs) (greatest_of f ys)
  unfolding greatest_of
  greatest_of_append f [] ys = omega arith
  greatest_of_append f (x ∷ xs) ys = let e = greatest_of_append f xs ys in omega arith

  pub least_of_append : (f : A → ℕ) (xs ys : List A) → least_of f ys ≤ 2
      → least_of f (xs ++ ys) ≡ min (least_of f xs) (least_of f ys)
  unfolding least_of
  least_of_append f [] ys h = omega arith
  least_of_append f (x ∷ xs) ys h = let e = least_of_append f xs ys h in omega arith

  pub least_of_small : (f : A → ℕ) (xs : List A) → least_of f xs ≤ 2
  unfolding least_of
  least_of_small f [] = omega arith
  least_of_small f (x ∷ xs) = let e = least_of_small f xs in omega arith

  pub greatest_of_map : {B : Type 0} (f : B → ℕ) (g : A → B) (xs : List A)
      → greatest_of f (map g xs) ≡ greatest_of (λ x. f (g x)) xs
  unfolding greatest_of
  greatest_of_map f g [] = refl
  greatest_of_map f g (x ∷ xs) = let e = greatest_of_map f g xs in omega arith

  pub greatest_of_same : (f g : A → ℕ) (xs : List A) → ((x : A) → f x ≡ g x)
      → greatest_of f xs ≡ greatest_of g xs
  unfolding greatest_of
  greatest_of_same f g [] h = refl
  greatest_of_same f g (x ∷ xs) h = let e = greatest_of_same f g xs h in let d = h x in omega arith

  -- the greatest over a range of the greatest over a list, the other way round
  pub greatest_of_swap : (n : ℕ) (f : ℕ → A → ℕ) (xs : List A)
      → greatest n (λ i. greatest_of (f i) xs) ≡ greatest_of (λ x. greatest n (λ i. f i x)) xs
  unfolding greatest_of
  greatest_of_swap n f [] = greatest_zero n (λ i. 0) (λ i l. refl)
  greatest_of_swap n f (x ∷ xs) =
      let e = greatest_of_swap n f xs in
      let m = greatest_max n (λ i. f i x) (λ i. greatest_of (f i) xs) in
      omega arith
