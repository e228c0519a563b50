-- Long times, computed: a listing whose times are 0, 2^32 - 1, 2^32 and 2^64 - 1, byte for byte, and the file of such a
-- trace. So a time that is cut to 32 bits is shut out, and `RL` for 2^32 - 1 too. Main names: long_listing, long_file.
use mathlib.Core.Path.{◌≡◌, refl}
use mathlib.Core.List.{[], ◌∷◌, ◌++◌}
use Rattle.basics.specs.Words.{count}
use Rattle.basics.specs.Text.{bytes, joined}
use Rattle.figures.specs.Numbers.{digits, width_up_to, width, decimal}
use Rattle.listing.specs.Listing.{word, word_of, line, lines, how_many, last_line, listing}
use Rattle.trace_format.specs.Format.{bytes_of, row_letter, codes_of, row_record, row_records, fewest, fewest_of}

pub long_listing :
    listing (0 ∷ 4294967295 ∷ 4294967296 ∷ 18446744073709551615 ∷ []) (3 ∷ 1 ∷ 0 ∷ 1 ∷ [])
    ≡ bytes
    "time answer\n0 none\n4294967295 yes\n4294967296 no\n18446744073709551615 yes\nyes 2 no 1 unknown 0\n"
unfolding listing lines line word_of word how_many last_line bytes joined decimal width width_up_to digits count
long_listing = refl

-- the rows of one name: `RW` for 2^32 - 1, `RL` for 2^32
pub long_file :
    row_records 1 (fewest_of (4294967295 ∷ 4294967296 ∷ [])) (4294967295 ∷ 4294967296 ∷ []) (0 ∷ 1 ∷ []) 2
    ≡ (82 ∷ 87 ∷ 255 ∷ 255 ∷ 255 ∷ 255 ∷ 0 ∷ []) ++ (82 ∷ 76 ∷ 0 ∷ 0 ∷ 0 ∷ 0 ∷ 1 ∷ 0 ∷ 0 ∷ 0 ∷ 1 ∷ [])
unfolding row_records row_record codes_of row_letter bytes_of fewest
long_file = refl
