-- Words that every chapter uses: the greatest and the least of some answers, whether some or all pass a test,
-- how many do, a list from a rule. The greatest over nothing is no (0), the least over nothing is yes (2).
--   greatest, least, some, count     of f 0, f 1, .. up to a number
--   greatest_of, least_of, all, sum_of  of f x for the x of a list
--   listed                           a list from a rule
--   All                              each entry of a list is so
--   same                             two lists are the same, as a test
use Rattle.std.specs.Prelude.{ℕ, zero, suc, ◌+◌, min, max, Bool, true, false, ◌&&◌, ◌||◌, List, [], ◌∷◌, eqb, if◌then◌else◌}

-- of f 0, f 1, .. up to, not including, f n
unfoldable pub greatest : ℕ → (ℕ → ℕ) → ℕ
greatest zero f = 0
greatest (suc n) f = max (greatest n f) (f n)

unfoldable pub least : ℕ → (ℕ → ℕ) → ℕ
least zero f = 2
least (suc n) f = min (least n f) (f n)

unfoldable pub some : ℕ → (ℕ → Bool) → Bool
some zero p = false
some (suc n) p = some n p || p n

-- how many of 0, 1, .. up to, not including, n pass the test
unfoldable pub count : ℕ → (ℕ → Bool) → ℕ
count zero p = 0
count (suc n) p = count n p + (if p n then 1 else 0)

module _ {A : Type 0} where
  -- f a, f (a+1), .., n of them
  unfoldable pub listed : ℕ → ℕ → (ℕ → A) → List A
  listed a zero f = []
  listed a (suc n) f = f a ∷ listed (a + 1) n f

  -- of f x for the x of a list
  unfoldable pub greatest_of : (A → ℕ) → List A → ℕ
  greatest_of f [] = 0
  greatest_of f (x ∷ xs) = max (f x) (greatest_of f xs)

  unfoldable pub least_of : (A → ℕ) → List A → ℕ
  least_of f [] = 2
  least_of f (x ∷ xs) = min (f x) (least_of f xs)

  unfoldable pub all : (A → Bool) → List A → Bool
  all p [] = true
  all p (x ∷ xs) = p x && all p xs

  unfoldable pub sum_of : (A → ℕ) → List A → ℕ
  sum_of f [] = 0
  sum_of f (x ∷ xs) = f x + sum_of f xs

-- each entry of a list is so
pub data All {A : Type 0} (P : A → Type 0) : List A → Type 0 where
  none : All P []
  more : {x : A} {xs : List A} → P x → All P xs → All P (x ∷ xs)

-- two lists are the same, as a test
unfoldable pub same : List ℕ → List ℕ → Bool
same [] [] = true
same [] (y ∷ ys) = false
same (x ∷ xs) [] = false
same (x ∷ xs) (y ∷ ys) = eqb x y && same xs ys
