-- `put_columns` meets its contract: each number with the tab behind it.
use Prim.Native.Nat.{ℕ}
use mathlib.Core.List.{List, [], ◌∷◌}
use Rattle.basics.proofs.PartByPart.{Going, going_room, going_byte, going_on, going_two, going_end}
use Rattle.basics.specs.Text.{bytes}
use Rattle.figures.specs.Numbers.{decimal}
use Rattle.figures.specs.Share.{share}
use Rattle.table_lines.specs.Table.{columns}
use Rattle.table_lines.proofs.ColumnParts.{columns_start}
use Rattle.table_lines.proofs.lines.put_columns.Goals as goal
use Rattle.table_lines.proofs.lines.put_columns.Goals.{Start}

-- of the columns, what is left
abbrev Left : Start → List (List ℕ) → List ℕ → ℕ → Type 0
Left s = Going s.args.out.now s.args.at (columns s.args.yes s.args.unknown s.args.no s.args.n)

-- the columns from each one on
abbrev noes : Start → List (List ℕ)
noes s = decimal s.args.no ∷ bytes "\t" ∷ []

abbrev unknowns : Start → List (List ℕ)
unknowns s = decimal s.args.unknown ∷ bytes "\t" ∷ noes s

abbrev shares : Start → List (List ℕ)
shares s = share s.args.yes s.args.n ∷ bytes "\t" ∷ unknowns s

begun : (s : Start) → Left s (decimal s.args.yes ∷ bytes "\t" ∷ shares s) s.args.out.now s.args.at
begun s =
    columns_start s.args.yes s.args.unknown s.args.no s.args.n s.args.out.now s.args.at
    s.requires

pub put_decimal_then-a-requires : goal.put_decimal_then-a-requires
unfolding bytes
put_decimal_then-a-requires c = going_room (going_two (begun (goal.at.put_decimal_then-a-requires c).Start))

pub put_share-b-requires : goal.put_share-b-requires
unfolding bytes
put_share-b-requires c =
    let start = begun (goal.at.put_share-b-requires c).Start in
    let at_share = going_on (going_two start) c.put_decimal_then-a.ensures in
    going_room at_share

pub push-c-requires : goal.push-c-requires
unfolding bytes
push-c-requires c =
    let start = begun (goal.at.push-c-requires c).Start in
    let at_share = going_on (going_two start) c.put_decimal_then-a.ensures in
    let at_tab = going_on at_share c.put_share-b.ensures in
    going_byte at_tab

pub put_decimal_then-d-requires : goal.put_decimal_then-d-requires
unfolding bytes
put_decimal_then-d-requires c =
    let start = begun (goal.at.put_decimal_then-d-requires c).Start in
    let at_share = going_on (going_two start) c.put_decimal_then-a.ensures in
    let at_tab = going_on at_share c.put_share-b.ensures in
    let at_unknowns = going_on at_tab c.push-c.ensures in
    going_room (going_two at_unknowns)

pub put_decimal_then-requires : goal.put_decimal_then-requires
unfolding bytes
put_decimal_then-requires c =
    let start = begun (goal.at.put_decimal_then-requires c).Start in
    let at_share = going_on (going_two start) c.put_decimal_then-a.ensures in
    let at_tab = going_on at_share c.put_share-b.ensures in
    let at_unknowns = going_on at_tab c.push-c.ensures in
    let at_noes = going_on (going_two at_unknowns) c.put_decimal_then-d.ensures in
    going_room (going_two at_noes)

pub returns : goal.returns
unfolding bytes
returns c =
    let start = begun (goal.at.returns c).Start in
    let at_share = going_on (going_two start) c.put_decimal_then-a.ensures in
    let at_tab = going_on at_share c.put_share-b.ensures in
    let at_unknowns = going_on at_tab c.push-c.ensures in
    let at_noes = going_on (going_two at_unknowns) c.put_decimal_then-d.ensures in
    going_end (going_on (going_two at_noes)
    c.put_decimal_then.ensures)
