-- The activity listing of table T, computed, byte for byte as the program `show` prints it.
use mathlib.Core.Path.{◌≡◌, refl}
use mathlib.Core.List.{List, ◌++◌}
use Prim.Native.Nat.{ℕ}
use Rattle.basics.specs.Words.{count, listed}
use Rattle.alf.specs.Names.{slot, until_zero, slot_of}
use Rattle.alf.specs.TableT as T
use Rattle.alf.specs.Traces.{changed, change_count}
use Rattle.basics.specs.Text.{bytes, joined}
use Rattle.figures.specs.Numbers.{digits, width_up_to, width, decimal}
use Rattle.listing.specs.Listing.{letter}
use Rattle.row_lines.specs.Lines.{member, members, letters, row_line, row_lines}
use Rattle.activity.specs.Activity.{head_line, activity_text}

-- the slots of the names A, B and C
unfoldable pub names : List ℕ
names = slot_of (bytes "A") ++ (slot_of (bytes "B") ++ slot_of (bytes "C"))

pub activity_of_T :
    activity_text names T.times T.states 6
    ≡ (bytes "time A B C changed\n0 0 1 1 0\n10 1 1 1 1 A\n20 1 0 X 2 B C\n"
    ++ bytes "35 X 0 1 2 A C\n40 1 Z 1 2 A B\n55 1 0 H 2 B C\n")
unfolding
    names activity_text head_line row_lines row_line letters members member letter changed change_count count listed
    bytes joined decimal width width_up_to digits slot until_zero slot_of T.times T.states
activity_of_T = refl
