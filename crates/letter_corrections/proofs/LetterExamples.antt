-- Letters and row numbers, computed, so that a reader need not believe the definitions.
use Prim.Native.Nat.{ℕ}
use mathlib.Core.Path.{◌≡◌, refl}
use mathlib.Core.List.{List, [], ◌∷◌, map}
use Rattle.basics.specs.Words.{all}
use Rattle.alf.specs.States.{among}
use Rattle.alf.specs.Names.{is_decimal}
use Rattle.basics.specs.Text.{bytes}
use Rattle.figures.specs.Numbers.{reading}
use Rattle.state_letters.specs.Letters.{state_of}
use Rattle.letter_corrections.specs.RowNumbers.{row_number}

-- the eight states, in the order of their codes
pub capital_letters : map state_of (bytes "01XHLWZU") ≡ 0 ∷ 1 ∷ 2 ∷ 3 ∷ 4 ∷ 5 ∷ 6 ∷ 7 ∷ []
unfolding state_of among bytes
capital_letters = refl

pub small_letters : map state_of (bytes "xhlwzu") ≡ 2 ∷ 3 ∷ 4 ∷ 5 ∷ 6 ∷ 7 ∷ []
unfolding state_of among bytes
small_letters = refl

-- no state's
pub other_bytes : map state_of (bytes "?2oO -") ≡ 8 ∷ 8 ∷ 8 ∷ 8 ∷ 8 ∷ 8 ∷ []
unfolding state_of among bytes
other_bytes = refl

abbrev numbers : List ℕ
numbers =
    row_number (bytes "0")
    ∷ row_number (bytes "7")
    ∷ row_number (bytes "007")
    ∷ row_number (bytes "65535")
    ∷ []

pub row_numbers_lem : numbers ≡ 0 ∷ 7 ∷ 7 ∷ 65535 ∷ []
unfolding row_number reading all is_decimal bytes
row_numbers_lem = refl

abbrev others : List ℕ
others =
    row_number (bytes "")
    ∷ row_number (bytes "65536")
    ∷ row_number (bytes "100000000000000000000")
    ∷ row_number (bytes "-1")
    ∷ row_number (bytes "12a")
    ∷ row_number (bytes " 1")
    ∷ []

pub no_row_numbers : others ≡ 65536 ∷ 65536 ∷ 65536 ∷ 65536 ∷ 65536 ∷ 65536 ∷ []
unfolding row_number reading all is_decimal bytes
no_row_numbers = refl
