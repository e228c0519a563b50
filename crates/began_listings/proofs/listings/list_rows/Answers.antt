-- `list_rows` meets its contract: heading, lines and totals are written, and their length is the one measured.
use Prim.Native.Nat.{ℕ, ◌+◌, ◌≤◌}
use mathlib.Core.Path.{◌≡◌}
use mathlib.Core.List.{List, [], ◌∷◌}
use lib.ListN.{length}
use Rattle.basics.proofs.PartByPart.{Going, going_room, going_on, going_end}
use Rattle.basics.specs.Text.{bytes}
use Rattle.basics.specs.Memory.{Put}
use Rattle.alf.specs.Expressions.{Boolean}
use Rattle.alf.specs.Alternatives.{Alternative}
use Rattle.matcher.specs.Scenes.{state_on, alternatives_on}
use Rattle.figures.proofs.Delivering.{short, delivered}
use Rattle.began_listings.specs.Inner.{rows_text, listing_by}
use Rattle.began_listings.proofs.WholeText.{last_of, whole_size, whole_start}
use Rattle.began_listings.proofs.listings.list_rows.Goals as goal
use Rattle.began_listings.proofs.listings.list_rows.Goals.{After-last_size}

abbrev st : After-last_size → Boolean → ℕ → ℕ
st c = state_on c.args.scene.now

abbrev times : After-last_size → List ℕ
times c = c.args.times.now

abbrev xs : After-last_size → List Alternative
xs c = alternatives_on c.args.scene.now c.args.lists.now

abbrev rows : After-last_size → List ℕ
rows c = rows_text (st c) (times c) (xs c)

abbrev last : After-last_size → List ℕ
last c = last_of c.measure-m.result

abbrev size : After-last_size → ℕ
size c = c.measure-m.result.size + c.last_size.result + 18

-- of the listing, what is left
abbrev Left : After-last_size → List (List ℕ) → List ℕ → ℕ → Type 0
Left c = Going c.args.out.now 0 (listing_by (st c) (times c) (xs c))

measured : (c : After-last_size) → size c ≡ length (listing_by (st c) (times c) (xs c))
measured c = whole_size (st c) (times c) (xs c) c.measure-m.ensures c.last_size.ensures

begun : (c : After-last_size) → size c ≤ length c.args.out.now
    → Left c (bytes "time answer began\n" ∷ rows c ∷ last c ∷ []) c.args.out.now 0
begun c =
    whole_start (st c) (times c) (xs c) c.measure-m.ensures c.args.out.now (measured c)

headed : (c : After-last_size) → size c ≤ length c.args.out.now
    → {out : List ℕ} {p : ℕ} → Put c.args.out.now 0 (bytes "time answer began\n") out p
    → Left c (rows c ∷ last c ∷ []) out p
unfolding bytes
headed c fits h = going_on (begun c fits) h

pub returns-then-out-size : goal.returns-then-out-size
returns-then-out-size c =
    let here = (goal.at.returns-then-out-size c).After-last_size in
    short (measured here) c.if-out-size.true c.refuse.ensures

pub put-p-requires : goal.put-p-requires
unfolding bytes
put-p-requires c = going_room (begun (goal.at.put-p-requires c).After-last_size c.if-out-size.false)

pub put_rows-q-requires : goal.put_rows-q-requires
unfolding bytes
put_rows-q-requires c =
    let here = (goal.at.put_rows-q-requires c).After-last_size in
    let lines_left = headed here c.if-out-size.false c.put-p.ensures in
    record { rows = c.requires; room = going_room lines_left }

pub put_last-requires : goal.put_last-requires
unfolding bytes
put_last-requires c =
    let here = (goal.at.put_last-requires c).After-last_size in
    let lines_left = headed here c.if-out-size.false c.put-p.ensures in
    let last_left = going_on lines_left c.put_rows-q.ensures in
    going_room last_left

pub returns : goal.returns
unfolding bytes
returns c =
    let here = (goal.at.returns c).After-last_size in
    let fits = c.if-out-size.false in
    let lines_left = headed here fits c.put-p.ensures in
    let last_left = going_on lines_left c.put_rows-q.ensures in
    delivered (measured here) fits (going_end (going_on last_left c.put_last.ensures))
