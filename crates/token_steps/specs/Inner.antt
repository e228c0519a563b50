-- What the inner functions ask of their callers, and what they give.
--   Near, Begun     a byte near a place of the text; a place, and a byte that a spelling can begin with
--   HalfAt          a half at a byte
--   word_of, rows    a spelling as up to three bytes with zeros behind them; the table of spellings in rows of four
use Rattle.std.specs.Prelude.{ℕ, Option, IfSome, ◌≤◌, ◌<◌, ◌≡◌, List, [], ◌∷◌, eqb, length, get_or, if◌then◌else◌}
use Rattle.token_steps.specs.Spelling.{Spelling}
use Rattle.token_steps.specs.Steps.{half_at}

-- a byte near a place of the text
pub record Near (text : List ℕ) (at k : ℕ) : Type 0 where
  pub inside : at ≤ length text
  pub near : k < 8

-- a place of the text, and a byte that a spelling can begin with
pub record Begun (text : List ℕ) (at x : ℕ) : Type 0 where
  pub inside : at ≤ length text
  pub byte : 0 < x

pub record HalfAt (bs : List ℕ) (k : ℕ) (r : Option ℕ) : Type 0 where
  pub is : r ≡ half_at bs k
  pub small : IfSome r (λ h. h < 9)

-- up to three bytes, with zeros behind them
unfoldable pub word_of : ℕ → ℕ → ℕ → List ℕ
word_of x y z = x ∷ (if eqb y 0 then [] else y ∷ (if eqb z 0 then [] else z ∷ []))

-- each spelling as three bytes and its code
abbrev pub rows : List Spelling → List (List ℕ)
rows [] = []
rows (e ∷ es) =
    (get_or e.bytes 0 0 ∷ (get_or e.bytes 1 0 ∷ (get_or e.bytes 2 0 ∷ (e.code ∷ [])))) ∷ rows es
