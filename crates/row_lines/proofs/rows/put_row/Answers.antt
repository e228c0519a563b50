-- `put_row` meets its contract: the time, the letters, a blank, how many names changed, which, the line's end.
use Prim.Native.Nat.{ℕ}
use mathlib.Core.List.{List, [], ◌∷◌}
use Rattle.basics.proofs.PartByPart.{Going, going_room, going_byte, going_on, going_end}
use Rattle.alf.specs.Values.{row_of}
use Rattle.basics.specs.Text.{bytes}
use Rattle.figures.specs.Numbers.{decimal}
use Rattle.row_lines.specs.Lines.{letters, members, row_line}
use Rattle.row_lines.specs.Inner.{marked}
use Rattle.row_lines.proofs.RowParts.{row_start}
use Rattle.row_lines.proofs.rows.put_row.Goals as goal
use Rattle.row_lines.proofs.rows.put_row.Goals.{After-of_row-c}

-- of the line, what is left
abbrev Left : After-of_row-c → List (List ℕ) → List ℕ → ℕ → Type 0
Left c =
    Going c.args.out.now c.args.at
    (row_line c.args.lists.now.names.now c.args.lists.now.k c.args.lists.now.states.now c.args.time.0
    c.args.row.0)

-- which names changed, how many, and the letters before them
abbrev which : After-of_row-c → List (List ℕ)
which c =
    members c.args.lists.now.names.now c.args.lists.now.k (marked c.of_row-c.result.mask) ∷ bytes "\n" ∷ []

abbrev many : After-of_row-c → List (List ℕ)
many c = decimal c.of_row-c.result.many ∷ which c

abbrev states : After-of_row-c → List (List ℕ)
states c =
    letters c.args.lists.now.k (row_of c.args.lists.now.k c.args.lists.now.states.now c.args.row.0)
    ∷ bytes " " ∷ many c

begun : (c : After-of_row-c)
    → Left c (decimal c.args.time.0 ∷ states c) c.args.out.now c.args.at
begun c = row_start _ _ c.of_row-c.ensures c.requires.room

pub put_decimal-timed-requires : goal.put_decimal-timed-requires
put_decimal-timed-requires c = going_room (begun (goal.at.put_decimal-timed-requires c).After-of_row-c)

pub put_letters-lettered-requires : goal.put_letters-lettered-requires
put_letters-lettered-requires c =
    let start = begun (goal.at.put_letters-lettered-requires c).After-of_row-c in
    let timed = going_on start c.put_decimal-timed.ensures in
    record { there = c.requires.row.inside.room; known = c.requires.known; room = going_room timed }

pub push-parted-requires : goal.push-parted-requires
unfolding bytes
push-parted-requires c =
    let start = begun (goal.at.push-parted-requires c).After-of_row-c in
    let timed = going_on start c.put_decimal-timed.ensures in
    let lettered = going_on timed c.put_letters-lettered.ensures in
    going_byte lettered

pub put_decimal-counted-requires : goal.put_decimal-counted-requires
unfolding bytes
put_decimal-counted-requires c =
    let start = begun (goal.at.put_decimal-counted-requires c).After-of_row-c in
    let timed = going_on start c.put_decimal-timed.ensures in
    let lettered = going_on timed c.put_letters-lettered.ensures in
    let parted = going_on lettered c.push-parted.ensures in
    going_room parted

pub put_members-told-requires : goal.put_members-told-requires
unfolding bytes
put_members-told-requires c =
    let start = begun (goal.at.put_members-told-requires c).After-of_row-c in
    let timed = going_on start c.put_decimal-timed.ensures in
    let lettered = going_on timed c.put_letters-lettered.ensures in
    let parted = going_on lettered c.push-parted.ensures in
    let counted = going_on parted c.put_decimal-counted.ensures in
    record { slots = c.requires.row.slots; room = going_room counted }

pub push-requires : goal.push-requires
unfolding bytes
push-requires c =
    let start = begun (goal.at.push-requires c).After-of_row-c in
    let timed = going_on start c.put_decimal-timed.ensures in
    let lettered = going_on timed c.put_letters-lettered.ensures in
    let parted = going_on lettered c.push-parted.ensures in
    let counted = going_on parted c.put_decimal-counted.ensures in
    let told = going_on counted c.put_members-told.ensures in
    going_byte told

pub returns : goal.returns
unfolding bytes
returns c =
    let start = begun (goal.at.returns c).After-of_row-c in
    let timed = going_on start c.put_decimal-timed.ensures in
    let lettered = going_on timed c.put_letters-lettered.ensures in
    let parted = going_on lettered c.push-parted.ensures in
    let counted = going_on parted c.put_decimal-counted.ensures in
    let told = going_on counted c.put_members-told.ensures in
    going_end (going_on told c.push.ensures)
