-- `put_total` meets its contract: each number with the word behind it.
use Prim.Native.Nat.{ℕ}
use mathlib.Core.List.{List, [], ◌∷◌}
use Rattle.basics.proofs.PartByPart.{Going, going_room, going_on, going_two, going_end}
use Rattle.basics.specs.Text.{bytes}
use Rattle.figures.specs.Numbers.{decimal}
use Rattle.table_lines.specs.Table.{total_columns}
use Rattle.table_lines.proofs.ColumnParts.{total_start}
use Rattle.table_lines.proofs.lines.put_total.Goals as goal
use Rattle.table_lines.proofs.lines.put_total.Goals.{Start}

-- of the columns, what is left
abbrev Left : Start → List (List ℕ) → List ℕ → ℕ → Type 0
Left s =
    Going s.args.out.now s.args.at
    (total_columns s.args.s.yes s.args.s.unknown s.args.s.no s.args.s.patterns s.args.s.events)

-- the columns from each one on
abbrev events : Start → List (List ℕ)
events s = decimal s.args.s.events ∷ []

abbrev patterns : Start → List (List ℕ)
patterns s = decimal s.args.s.patterns ∷ bytes " events " ∷ events s

abbrev noes : Start → List (List ℕ)
noes s = decimal s.args.s.no ∷ bytes "\ttotal patterns " ∷ patterns s

abbrev unknowns : Start → List (List ℕ)
unknowns s = decimal s.args.s.unknown ∷ bytes "\t" ∷ noes s

begun : (s : Start)
    → Left s (decimal s.args.s.yes ∷ bytes "\t-\t" ∷ unknowns s) s.args.out.now s.args.at
begun s =
    total_start s.args.s.yes s.args.s.unknown s.args.s.no s.args.s.patterns s.args.s.events
    s.args.out.now s.args.at s.requires

pub put_decimal_then-a-requires : goal.put_decimal_then-a-requires
unfolding bytes
put_decimal_then-a-requires c = going_room (going_two (begun (goal.at.put_decimal_then-a-requires c).Start))

pub put_decimal_then-b-requires : goal.put_decimal_then-b-requires
unfolding bytes
put_decimal_then-b-requires c =
    let start = begun (goal.at.put_decimal_then-b-requires c).Start in
    let at_unknowns = going_on (going_two start) c.put_decimal_then-a.ensures in
    going_room (going_two at_unknowns)

pub put_decimal_then-c-requires : goal.put_decimal_then-c-requires
unfolding bytes
put_decimal_then-c-requires c =
    let start = begun (goal.at.put_decimal_then-c-requires c).Start in
    let at_unknowns = going_on (going_two start) c.put_decimal_then-a.ensures in
    let at_noes = going_on (going_two at_unknowns) c.put_decimal_then-b.ensures in
    going_room (going_two at_noes)

pub put_decimal_then-d-requires : goal.put_decimal_then-d-requires
unfolding bytes
put_decimal_then-d-requires c =
    let start = begun (goal.at.put_decimal_then-d-requires c).Start in
    let at_unknowns = going_on (going_two start) c.put_decimal_then-a.ensures in
    let at_noes = going_on (going_two at_unknowns) c.put_decimal_then-b.ensures in
    let at_patterns = going_on (going_two at_noes) c.put_decimal_then-c.ensures in
    going_room (going_two at_patterns)

pub put_decimal-requires : goal.put_decimal-requires
unfolding bytes
put_decimal-requires c =
    let start = begun (goal.at.put_decimal-requires c).Start in
    let at_unknowns = going_on (going_two start) c.put_decimal_then-a.ensures in
    let at_noes = going_on (going_two at_unknowns) c.put_decimal_then-b.ensures in
    let at_patterns = going_on (going_two at_noes) c.put_decimal_then-c.ensures in
    let at_events = going_on (going_two at_patterns) c.put_decimal_then-d.ensures in
    going_room at_events

pub returns : goal.returns
unfolding bytes
returns c =
    let start = begun (goal.at.returns c).Start in
    let at_unknowns = going_on (going_two start) c.put_decimal_then-a.ensures in
    let at_noes = going_on (going_two at_unknowns) c.put_decimal_then-b.ensures in
    let at_patterns = going_on (going_two at_noes) c.put_decimal_then-c.ensures in
    let at_events = going_on (going_two at_patterns) c.put_decimal_then-d.ensures in
    going_end (going_on at_events c.put_decimal.ensures)
