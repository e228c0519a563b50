-- The texts of rows 0, 1, .., one behind the other: those of the rows before one, and of that row too. What the text
-- of row i is, is a parameter. How they are written is in row_lines/proofs/InTurn.
--   rows_more, rows_measured
use Prim.Native.Nat.{ℕ, ◌+◌}
use native.Mathlib.Nat.{zero-add}
use native.Mathlib.Numerals.{add-one}
use native.Mathlib.Omega.{arith}
use mathlib.Core.Path.{◌≡◌, refl, sym, ap}
use mathlib.Core.List.{List, [], ◌∷◌, ◌++◌, append-nil, append_assoc}
use lib.ListN.{length, length-append}
use Rattle.basics.specs.Words.{listed}
use Rattle.basics.specs.Text.{joined}
use Rattle.basics.proofs.Listed.{listed_more}

joined_both : (xs ys : List (List ℕ)) → joined (xs ++ ys) ≡ joined xs ++ joined ys
unfolding joined
joined_both [] ys = refl
joined_both (x ∷ xs) ys = rw (joined_both xs ys) (sym (append_assoc x (joined xs) (joined ys)))

pub rows_more : (f : ℕ → List ℕ) (i : ℕ) → joined (listed 0 (i + 1) f) ≡ joined (listed 0 i f) ++ f i
unfolding joined
rows_more f i =
    rw (add-one i, listed_more 0 i f, zero-add i, joined_both (listed 0 i f) (f i ∷ []), append-nil (f i)) refl

-- how many bytes they have
pub rows_measured : (f : ℕ → List ℕ) (i : ℕ) {size r : ℕ} → size ≡ length (joined (listed 0 i f)) → r ≡ length (f i)
    → size + r ≡ length (joined (listed 0 (i + 1) f))
rows_measured f i s e =
    omega (arith, s, e, ap length (rows_more f i), length-append (joined (listed 0 i f)) (f i))
