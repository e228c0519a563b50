-- Lists of state codes: codes_append, codes_take, codes_drop.
use mathlib.Core.List.{List, [], ◌∷◌, ◌++◌}
use Prim.Native.Nat.{ℕ, zero, suc}
use native.Mathlib.Omega.{arith}
use lib.ListN.{take, drop}
use Rattle.states.specs.FirstBadCode.{Codes}

pub codes_append : (xs ys : List ℕ) → Codes xs → Codes ys → Codes (xs ++ ys)
codes_append [] ys h k i l = k i l
codes_append (x ∷ xs) ys h k zero l = h zero (omega arith)
codes_append (x ∷ xs) ys h k (suc i) l = codes_append xs ys (λ j m. h (suc j) (omega arith)) k i (omega arith)

pub codes_take : (n : ℕ) (xs : List ℕ) → Codes xs → Codes (take n xs)
codes_take zero xs h i l = absurd (omega arith)
codes_take (suc n) [] h i l = absurd (omega arith)
codes_take (suc n) (x ∷ xs) h zero l = h zero (omega arith)
codes_take (suc n) (x ∷ xs) h (suc i) l = codes_take n xs (λ j m. h (suc j) (omega arith)) i (omega arith)

pub codes_drop : (n : ℕ) (xs : List ℕ) → Codes xs → Codes (drop n xs)
codes_drop zero xs h i l = h i l
codes_drop (suc n) [] h i l = absurd (omega arith)
codes_drop (suc n) (x ∷ xs) h i l = codes_drop n xs (λ j m. h (suc j) (omega arith)) i l
