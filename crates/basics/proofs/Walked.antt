-- What `position` and `all` tell of a list, by places, in this project's words.
--   FirstPlace, first_place    the first place that passes, or the length where none does: `position(..).unwrap_or(len)`
--   all_is                     `all(..)` by a test is the test of all entries
use mathlib.Core.Path.{◌≡◌, refl, ap}
use mathlib.Core.Bool.{Bool, ◌&&◌}
use mathlib.Core.List.{List, [], ◌∷◌}
use Prim.Native.Nat.{ℕ, ◌<◌, ◌≤◌}
use native.Mathlib.Omega.{arith}
use lib.ListN.{length, get_or}
use Rattle.std.specs.Prelude.{Option, Some, None, MatchOption}
use Rattle.std.specs.Option.{unwrap_or}
use Rattle.std.specs.List.{AllWithin, HoldsAt, list_all}
use Rattle.basics.specs.Words.{all}

pub record FirstPlace (Yes No : ℕ → Type 0) (xs : List ℕ) (r : ℕ) : Type 0 where
  pub within : r ≤ length xs
  pub before : (i : ℕ) → i < r → No (get_or xs i 0)
  pub there : r < length xs → Yes (get_or xs r 0)

pub first_place :
    (Yes No : ℕ → Type 0) (xs : List ℕ) (o : Option ℕ) →
    MatchOption o (AllWithin No xs 0 (length xs)) (λ i. (i < length xs) × HoldsAt Yes xs i × AllWithin No xs 0 i) →
    FirstPlace Yes No xs (unwrap_or o (length xs))
first_place Yes No xs None h =
    record { within = omega arith; before = λ i l. h i 0 (omega arith) l; there = λ l. absurd (omega arith) }
first_place Yes No xs (Some r) h =
    record { within = omega (arith, h.0); before = λ i l. h.2 i 0 (omega arith) l; there = λ l. h.1 0 }

pub all_is : {A : Type 0} (p : A → Bool) (xs : List A) → list_all p xs ≡ all p xs
unfolding all
all_is p [] = refl
all_is p (x ∷ xs) = ap (λ (b : Bool). p x && b) (all_is p xs)
