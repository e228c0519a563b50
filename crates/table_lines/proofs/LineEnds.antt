-- A line of the table: columns, the pattern as it is shown, the line's end.
--   shown_at_lem                   a pattern shown, byte by byte
--   ended_size, ended_start    the line's length, its parts
--   laid                       columns that stand at the front of a list
use Prim.Native.Nat.{ℕ, zero, suc, ◌+◌, ◌<◌, ◌≤◌}
use native.Mathlib.Omega.{arith}
use mathlib.Core.Path.{◌≡◌, refl, ◌∙◌}
use mathlib.Core.List.{List, [], ◌∷◌, ◌++◌, map}
use lib.ListN.{length, get_or, take, length-append, length-map, get_or-map}
use Rattle.basics.specs.Refusing.{Outcome}
use Rattle.basics.proofs.PartByPart.{Going, going_start}
use Rattle.basics.specs.Memory.{Holds}
use Rattle.basics.specs.Text.{bytes, joined}
use Rattle.figures.specs.Delivering.{Delivers}
use Rattle.table_lines.specs.Table.{plain, ended}

-- a pattern shown, byte by byte
get_d_any : (xs : List ℕ) (i d e : ℕ) → i < length xs → get_or xs i d ≡ get_or xs i e
get_d_any [] i d e h = absurd (omega arith)
get_d_any (x ∷ xs) zero d e h = refl
get_d_any (x ∷ xs) (suc i) d e h = get_d_any xs i d e (omega arith)

pub shown_at_lem : (xs : List ℕ) (i : ℕ) → i < length xs → get_or (map plain xs) i 0 ≡ plain (get_or xs i 0)
unfolding plain
shown_at_lem xs i h =
    get_d_any (map plain xs) i 0 32 (rw (length-map xs plain) h) ∙ get_or-map plain xs i 0

-- a line of the table: columns, the pattern, the end
module _ (columns pattern : List ℕ) where
  pub ended_size : length columns + length pattern + 1 ≡ length (ended columns pattern)
  unfolding ended joined bytes
  ended_size =
      omega (
        arith,
        length-append columns (map plain pattern ++ (10 ∷ [])),
        length-append (map plain pattern) (10 ∷ []),
        length-map pattern plain,
      )

  pub ended_start : (out : List ℕ) → length columns + length pattern + 1 ≤ length out
      → Going out 0 (ended columns pattern) (columns ∷ map plain pattern ∷ bytes "\n" ∷ []) out 0
  unfolding ended joined
  ended_start out h = going_start _ refl (omega (arith, ended_size))

-- columns that stand at the front of a list
pub laid : {columns list : List ℕ} (pattern : List ℕ) {out out' : List ℕ} {k : ℕ} {r : Outcome}
    → Holds list k columns
    → Delivers (ended (take k list) pattern) out out' r → Delivers (ended columns pattern) out out' r
laid pattern h d = rw h.front at d
