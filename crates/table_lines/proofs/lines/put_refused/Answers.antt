-- `put_refused` meets its contract: each number with the word behind it.
use Prim.Native.Nat.{ℕ}
use mathlib.Core.List.{List, [], ◌∷◌}
use Rattle.basics.proofs.PartByPart.{Going, going_room, going_on, going_two, going_end}
use Rattle.basics.specs.Text.{bytes}
use Rattle.figures.specs.Numbers.{decimal}
use Rattle.table_lines.specs.Table.{refused_columns}
use Rattle.table_lines.proofs.ColumnParts.{refused_start}
use Rattle.table_lines.proofs.lines.put_refused.Goals as goal
use Rattle.table_lines.proofs.lines.put_refused.Goals.{Start}

-- of the columns, what is left
abbrev Left : Start → List (List ℕ) → List ℕ → ℕ → Type 0
Left s = Going s.args.out.now s.args.at (refused_columns s.args.number s.args.place)

-- the columns from the place on, and from the number on
abbrev places : Start → List (List ℕ)
places s = decimal s.args.place ∷ bytes "\t-\t-\t-\t" ∷ []

abbrev numbers : Start → List (List ℕ)
numbers s = decimal s.args.number ∷ bytes " at " ∷ places s

begun : (s : Start) → Left s (bytes "refused " ∷ numbers s) s.args.out.now s.args.at
begun s = refused_start s.args.number s.args.place s.args.out.now s.args.at s.requires

pub put-a-requires : goal.put-a-requires
unfolding bytes
put-a-requires c = going_room (begun (goal.at.put-a-requires c).Start)

pub put_decimal_then-b-requires : goal.put_decimal_then-b-requires
unfolding bytes
put_decimal_then-b-requires c =
    let start = begun (goal.at.put_decimal_then-b-requires c).Start in
    let at_number = going_on start c.put-a.ensures in
    going_room (going_two at_number)

pub put_decimal_then-requires : goal.put_decimal_then-requires
unfolding bytes
put_decimal_then-requires c =
    let start = begun (goal.at.put_decimal_then-requires c).Start in
    let at_number = going_on start c.put-a.ensures in
    let at_place = going_on (going_two at_number) c.put_decimal_then-b.ensures in
    going_room (going_two at_place)

pub returns : goal.returns
unfolding bytes
returns c =
    let start = begun (goal.at.returns c).Start in
    let at_number = going_on start c.put-a.ensures in
    let at_place = going_on (going_two at_number) c.put_decimal_then-b.ensures in
    going_end (going_on (going_two at_place)
    c.put_decimal_then.ensures)
