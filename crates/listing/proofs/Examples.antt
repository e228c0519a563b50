-- Listings, computed: case 1's as document 01 prints it, and that of case 8's values, byte for byte.
use mathlib.Core.Path.{◌≡◌, refl}
use mathlib.Core.List.{[], ◌∷◌}
use Rattle.basics.specs.Words.{count}
use Rattle.alf.specs.TableT as T
use Rattle.basics.specs.Text.{bytes, joined}
use Rattle.figures.specs.Numbers.{digits, width_up_to, width, decimal}
use Rattle.listing.specs.Listing.{word, letter, word_of, line, lines, how_many, last_line}
use Rattle.listing.specs.Listing.{listing, values_listing}

pub case_1_listing :
    listing T.times (3 ∷ 1 ∷ 0 ∷ 0 ∷ 2 ∷ 0 ∷ [])
    ≡ bytes "time answer\n0 none\n10 yes\n20 no\n35 no\n40 unknown\n55 no\nyes 1 no 3 unknown 1\n"
unfolding listing lines line word_of word how_many last_line bytes joined decimal width width_up_to digits count T.times
case_1_listing = refl

-- the values of A ? C : 'bZ: Z, 1, X, X, 1, 1
pub case_8_values :
    values_listing T.times (6 ∷ 1 ∷ 2 ∷ 2 ∷ 1 ∷ 1 ∷ [])
    ≡ bytes "time value\n0 Z\n10 1\n20 X\n35 X\n40 1\n55 1\n"
unfolding values_listing lines line word_of letter bytes joined decimal width width_up_to digits T.times
case_8_values = refl
