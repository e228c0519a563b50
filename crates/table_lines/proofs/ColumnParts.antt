-- The columns of a line: the parts that are to be written, and that they have at most 192 bytes.
--   columns_start, refused_start, total_start
--   columns_short, refused_short, total_short
use Prim.Native.Nat.{ℕ, ◌^◌, ◌<◌, ◌≤◌}
use native.Mathlib.Omega.{arith}
use mathlib.Core.Path.{refl}
use mathlib.Core.List.{List, [], ◌∷◌}
use lib.ListN.{length, length-append}
use mir.Val.{Fits}
use mir.Syntax.{w8, w32, w64}
use Rattle.basics.specs.Memory.{Room}
use Rattle.basics.proofs.PartByPart.{Going, going_start}
use Rattle.basics.specs.Text.{bytes, joined}
use Rattle.figures.specs.Numbers.{decimal}
use Rattle.figures.specs.Share.{share}
use Rattle.figures.proofs.Digits.{decimal_short, word_short}
use Rattle.figures.proofs.ShareParts.{share_length}
use Rattle.table_lines.specs.Table.{columns, refused_columns, total_columns}

pub columns_start : (yeses unknowns noes n : ℕ) (out : List ℕ) (at : ℕ)
    → Room out at (columns yeses unknowns noes n)
    → Going out at (columns yeses unknowns noes n)
    (decimal yeses ∷ bytes "\t" ∷ share yeses n ∷ bytes "\t" ∷ decimal unknowns ∷ bytes "\t" ∷ decimal noes
    ∷ bytes "\t" ∷ []) out at
unfolding columns joined
columns_start yeses unknowns noes n out at r = going_start _ refl r

pub refused_start : (number place : ℕ) (out : List ℕ) (at : ℕ) → Room out at (refused_columns number place)
    → Going out at (refused_columns number place)
    (bytes "refused " ∷ decimal number ∷ bytes " at " ∷ decimal place ∷ bytes "\t-\t-\t-\t" ∷ []) out at
unfolding refused_columns joined
refused_start number place out at r = going_start _ refl r

pub total_start : (yeses unknowns noes patterns events : ℕ) (out : List ℕ) (at : ℕ)
    → Room out at (total_columns yeses unknowns noes patterns events)
    → Going out at (total_columns yeses unknowns noes patterns events)
    (decimal yeses ∷ bytes "\t-\t" ∷ decimal unknowns ∷ bytes "\t" ∷ decimal noes ∷ bytes "\ttotal patterns "
    ∷ decimal patterns ∷ bytes " events " ∷ decimal events ∷ []) out at
unfolding total_columns joined
total_start yeses unknowns noes patterns events out at r = going_start _ refl r

pub columns_short : (yeses unknowns noes n : ℕ) → Fits w32 yeses → Fits w32 unknowns → Fits w32 noes
    → Fits w32 n
    → length (columns yeses unknowns noes n) ≤ 192
unfolding columns joined bytes
columns_short yeses unknowns noes n f g h k =
    simp length-append
    (omega (
      arith,
      word_short yeses f.fits,
      word_short unknowns g.fits,
      word_short noes h.fits,
      share_length yeses n f k,
    ))

pub refused_short : (number place : ℕ) → Fits w8 number → Fits w64 place
    → length (refused_columns number place) ≤ 192
unfolding refused_columns joined bytes
refused_short number place f g =
    let h : number < 2 ^ 32 = omega (arith, f.fits) in
    simp length-append (omega (arith, word_short number h, decimal_short place g))

pub total_short : (yeses unknowns noes patterns events : ℕ) → Fits w64 yeses → Fits w64 unknowns → Fits w64 noes
    → Fits w64 patterns → Fits w64 events → length (total_columns yeses unknowns noes patterns events) ≤ 192
unfolding total_columns joined bytes
total_short yeses unknowns noes patterns events f g h j k =
    simp length-append
    (omega (
      arith,
      decimal_short yeses f,
      decimal_short unknowns g,
      decimal_short noes h,
      decimal_short patterns j,
      decimal_short events k,
    ))
