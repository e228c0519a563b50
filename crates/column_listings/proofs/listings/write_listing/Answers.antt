-- `write_listing` meets its contract: heading, lines and totals are written, and their length is the one measured.
use native.Mathlib.Omega.{arith}
use Prim.Native.Nat.{ℕ, ◌+◌, ◌≤◌}
use mathlib.Core.Path.{◌≡◌}
use mathlib.Core.List.{List, [], ◌∷◌}
use lib.ListN.{length}
use Rattle.basics.proofs.PartByPart.{Going, going_room, going_on, going_end}
use Rattle.basics.specs.Text.{bytes}
use Rattle.basics.specs.Memory.{Put}
use Rattle.figures.proofs.Delivering.{short, delivered}
use Rattle.listing.specs.declared.lines.Column.TheVariants.{Answers}
use Rattle.listing.specs.Listing.{highest, lines, listing}
use Rattle.column_listings.proofs.WholeListings.{last_of, listing_size, listing_start}
use Rattle.column_listings.proofs.listings.write_listing.Goals as goal
use Rattle.column_listings.proofs.listings.write_listing.Goals.{After-last_size}

abbrev text : After-last_size → List ℕ
text c = listing c.args.times.now c.args.answers.now

abbrev last : After-last_size → List ℕ
last c = last_of c.count_answers-tally.result

-- of the listing, what is left
abbrev Left : After-last_size → List (List ℕ) → List ℕ → ℕ → Type 0
Left c = Going c.args.out.now 0 (text c)

measured : (c : After-last_size)
    → c.lines_size.result + c.last_size.result + 12 ≡ length (text c)
measured c =
    listing_size c.args.times.now c.args.answers.now c.count_answers-tally.ensures
    c.lines_size.ensures c.last_size.ensures

begun : (c : After-last_size)
    → c.lines_size.result + c.last_size.result + 12 ≤ length c.args.out.now
    → Left c (bytes "time answer\n" ∷ lines Answers c.args.times.now
    c.args.answers.now ∷ last c ∷ [])
    c.args.out.now 0
begun c =
    listing_start c.args.times.now c.args.answers.now
    c.count_answers-tally.ensures c.args.out.now (measured c)

headed : (c : After-last_size)
    → c.lines_size.result + c.last_size.result + 12 ≤ length c.args.out.now
    → {out : List ℕ} {p : ℕ} → Put c.args.out.now 0 (bytes "time answer\n") out p
    → Left c (lines Answers c.args.times.now c.args.answers.now ∷ last c ∷ []) out p
headed c fits h = going_on (begun c fits) h

pub lines_size-requires : goal.lines_size-requires
unfolding highest
lines_size-requires c = c.requires

pub overflow_add-size : goal.overflow_add-size
overflow_add-size c = omega (arith, c.lines_size.ensures.few, c.last_size.ensures.few)

pub overflow_add-size-2 : goal.overflow_add-size-2
overflow_add-size-2 c = omega (arith, c.lines_size.ensures.few, c.last_size.ensures.few)

pub returns-then-out-size : goal.returns-then-out-size
returns-then-out-size c =
    let here = (goal.at.returns-then-out-size c).After-last_size in
    short (measured here) c.if-out-size.true c.refuse.ensures

pub put-p-requires : goal.put-p-requires
unfolding bytes
put-p-requires c = going_room (begun (goal.at.put-p-requires c).After-last_size c.if-out-size.false)

pub put_lines-q-requires : goal.put_lines-q-requires
unfolding highest bytes
put_lines-q-requires c =
    let here = (goal.at.put_lines-q-requires c).After-last_size in
    let lines_left = headed here c.if-out-size.false c.put-p.ensures in
    record { listable = c.requires; room = going_room lines_left }

pub put_last-requires : goal.put_last-requires
unfolding bytes highest
put_last-requires c =
    let here = (goal.at.put_last-requires c).After-last_size in
    let lines_left = headed here c.if-out-size.false c.put-p.ensures in
    going_room (going_on lines_left c.put_lines-q.ensures)

pub returns : goal.returns
unfolding bytes highest
returns c =
    let here = (goal.at.returns c).After-last_size in
    let lines_left = headed here c.if-out-size.false c.put-p.ensures in
    let last_left = going_on lines_left c.put_lines-q.ensures in
    delivered (measured here) c.if-out-size.false (going_end (going_on last_left c.put_last.ensures))
