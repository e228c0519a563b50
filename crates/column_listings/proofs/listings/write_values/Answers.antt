-- `write_values` meets its contract: heading and lines are written, and their length is the one measured.
use native.Mathlib.Omega.{arith}
use Prim.Native.Nat.{ℕ, ◌+◌, ◌≤◌}
use mathlib.Core.Path.{◌≡◌}
use mathlib.Core.List.{List, [], ◌∷◌}
use lib.ListN.{length}
use Rattle.basics.proofs.PartByPart.{Going, going_room, going_on, going_end}
use Rattle.basics.specs.Text.{bytes}
use Rattle.basics.specs.Memory.{Put}
use Rattle.figures.proofs.Delivering.{short, delivered}
use Rattle.listing.specs.declared.lines.Column.TheVariants.{Values}
use Rattle.listing.specs.Listing.{highest, lines, values_listing}
use Rattle.column_listings.proofs.WholeListings.{values_size, values_start}
use Rattle.column_listings.proofs.listings.write_values.Goals as goal
use Rattle.column_listings.proofs.listings.write_values.Goals.{After-lines_size-size}

abbrev text : After-lines_size-size → List ℕ
text c = values_listing c.args.times.now c.args.values.now

measured : (c : After-lines_size-size) → c.lines_size-size.result + 11 ≡ length (text c)
measured c = values_size c.args.times.now c.args.values.now c.lines_size-size.ensures

abbrev rows : After-lines_size-size → List ℕ
rows c = lines Values c.args.times.now c.args.values.now

begun : (c : After-lines_size-size) → c.lines_size-size.result + 11 ≤ length c.args.out.now
    → Going c.args.out.now 0 (text c) (bytes "time value\n" ∷ rows c ∷ []) c.args.out.now 0
begun c =
    values_start c.args.times.now c.args.values.now c.args.out.now (measured c)

headed : (c : After-lines_size-size) → c.lines_size-size.result + 11 ≤ length c.args.out.now
    → {out : List ℕ} {p : ℕ} → Put c.args.out.now 0 (bytes "time value\n") out p
    → Going c.args.out.now 0 (text c) (rows c ∷ []) out p
headed c fits h = going_on (begun c fits) h

pub lines_size-size-requires : goal.lines_size-size-requires
unfolding highest
lines_size-size-requires c = c.requires

pub overflow_add-size : goal.overflow_add-size
overflow_add-size c = omega (arith, c.lines_size-size.ensures.few)

pub returns-then-out-size : goal.returns-then-out-size
returns-then-out-size c =
    let here = (goal.at.returns-then-out-size c).After-lines_size-size in
    short (measured here) c.if-out-size.true c.refuse.ensures

pub put-p-requires : goal.put-p-requires
unfolding bytes
put-p-requires c = going_room (begun (goal.at.put-p-requires c).After-lines_size-size c.if-out-size.false)

pub put_lines-requires : goal.put_lines-requires
unfolding highest bytes
put_lines-requires c =
    let here = (goal.at.put_lines-requires c).After-lines_size-size in
    let lines_left = headed here c.if-out-size.false c.put-p.ensures in
    record { listable = c.requires; room = going_room lines_left }

pub returns : goal.returns
unfolding bytes
returns c =
    let here = (goal.at.returns c).After-lines_size-size in
    let lines_left = headed here c.if-out-size.false c.put-p.ensures in
    delivered (measured here) c.if-out-size.false (going_end (going_on lines_left c.put_lines.ensures))
