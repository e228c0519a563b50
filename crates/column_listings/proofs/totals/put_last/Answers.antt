-- `put_last` meets its contract: each number with the word behind it.
use Prim.Native.Nat.{ℕ}
use mathlib.Core.List.{List, [], ◌∷◌}
use Rattle.basics.proofs.PartByPart.{Going, going_room, going_on, going_two, going_end}
use Rattle.basics.specs.Text.{bytes}
use Rattle.figures.specs.Numbers.{decimal}
use Rattle.listing.specs.Listing.{last_line}
use Rattle.column_listings.proofs.LastLine.{last_start}
use Rattle.column_listings.proofs.totals.put_last.Goals as goal
use Rattle.column_listings.proofs.totals.put_last.Goals.{Start}

-- of the line, what is left
abbrev Left : Start → List (List ℕ) → List ℕ → ℕ → Type 0
Left s = Going s.args.out.now s.args.at (last_line s.args.t.yes s.args.t.no s.args.t.unknown)

-- the number of unknowns and the line's end, the number of noes and the word before them, and all behind `yes`
abbrev unknowns : Start → List (List ℕ)
unknowns s = decimal s.args.t.unknown ∷ bytes "\n" ∷ []

abbrev noes : Start → List (List ℕ)
noes s = decimal s.args.t.no ∷ bytes " unknown " ∷ unknowns s

abbrev yeses : Start → List (List ℕ)
yeses s = decimal s.args.t.yes ∷ bytes " no " ∷ noes s

begun : (s : Start) → Left s (bytes "yes " ∷ yeses s) s.args.out.now s.args.at
begun s =
    last_start s.args.t.yes s.args.t.no s.args.t.unknown s.args.out.now s.args.at s.requires

pub put-p-requires : goal.put-p-requires
unfolding bytes
put-p-requires c = going_room (begun (goal.at.put-p-requires c).Start)

pub put_decimal_then-q-requires : goal.put_decimal_then-q-requires
unfolding bytes
put_decimal_then-q-requires c =
    let start = begun (goal.at.put_decimal_then-q-requires c).Start in
    let at_yeses = going_on start c.put-p.ensures in
    going_room (going_two at_yeses)

pub put_decimal_then-r-requires : goal.put_decimal_then-r-requires
unfolding bytes
put_decimal_then-r-requires c =
    let start = begun (goal.at.put_decimal_then-r-requires c).Start in
    let at_yeses = going_on start c.put-p.ensures in
    let at_noes = going_on (going_two at_yeses) c.put_decimal_then-q.ensures in
    going_room (going_two at_noes)

pub put_decimal_then-requires : goal.put_decimal_then-requires
unfolding bytes
put_decimal_then-requires c =
    let start = begun (goal.at.put_decimal_then-requires c).Start in
    let at_yeses = going_on start c.put-p.ensures in
    let at_noes = going_on (going_two at_yeses) c.put_decimal_then-q.ensures in
    let at_unknowns = going_on (going_two at_noes) c.put_decimal_then-r.ensures in
    going_room (going_two at_unknowns)

pub returns : goal.returns
unfolding bytes
returns c =
    let start = begun (goal.at.returns c).Start in
    let at_yeses = going_on start c.put-p.ensures in
    let at_noes = going_on (going_two at_yeses) c.put_decimal_then-q.ensures in
    let at_unknowns = going_on (going_two at_noes) c.put_decimal_then-r.ensures in
    going_end (going_on (going_two at_unknowns)
    c.put_decimal_then.ensures)
