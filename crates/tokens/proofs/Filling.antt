-- Laws of the lists that hold tokens, with zeros behind them: codes and places, which are two columns of one list.
--   zeros_length                       there are 4,096 zeros
--   column_length, column-more         a column of a list of tokens, and of one token more
--   filled_none, filled_more           none written; one more
--   filled_front, filled_at, filled_holds     what was written
use mathlib.Core.Path.{◌≡◌, refl, ap, ◌∙◌}
use mathlib.Core.List.{List, [], ◌∷◌, ◌++◌, map, map-append}
use Prim.Native.Nat.{ℕ, ◌≤◌, ◌<◌}
use native.Mathlib.Omega.{arith}
use lib.ListN.{length, take, get_or, set, length-map, length-replicate}
use Rattle.basics.proofs.Stores.{front_take, front_at, front_holds, front_next}
use Rattle.tokens.specs.Texts.{Token}
use Rattle.tokens.specs.Tokenizing.{zeros, filled}

zeros_length : length zeros ≡ 4096
unfolding zeros
zeros_length = length-replicate {A = ℕ} 4096 0

pub filled_none : zeros ≡ filled []
filled_none = refl

pub filled_at : (xs : List ℕ) (i : ℕ) → i < length xs → get_or (filled xs) i 0 ≡ get_or xs i 0
filled_at xs i h = front_at zeros xs i h

pub filled_holds : (xs : List ℕ) → length xs ≤ length (filled xs)
filled_holds xs = front_holds zeros xs

module _ (f : Token → ℕ) (ts : List Token) where
  pub column_length : length (map f ts) ≡ length ts
  column_length = length-map ts f

  pub filled_front : take (length ts) (filled (map f ts)) ≡ map f ts
  filled_front = front_take zeros (map f ts) (length ts) column_length

  -- one token more
  pub filled_more : (t : Token) {n : ℕ} {l : List ℕ} → n ≡ length ts → n < 4096 → l ≡ filled (map f ts)
      → set l n (f t) ≡ filled (map f (ts ++ (t ∷ [])))
  filled_more t e h k =
      let more : map f ts ++ (f t ∷ []) ≡ map f (ts ++ (t ∷ [])) = rw (map-append f ts (t ∷ [])) in
      rw (k, e, ← column_length)
      (front_next zeros (map f ts) (f t) (omega (arith, column_length, zeros_length)) ∙ ap filled more)
