-- `write_part` meets its contract: the head, if it stands here, and the rows are written, and their length is the one
-- measured.
use native.Mathlib.Omega.{arith}
use Prim.Native.Nat.{ℕ, ◌+◌, ◌≤◌}
use mathlib.Core.Path.{◌≡◌}
use mathlib.Core.List.{List, [], ◌∷◌}
use lib.ListN.{length}
use Rattle.basics.proofs.PartByPart.{Going, going_room, going_on, going_end}
use Rattle.figures.proofs.Delivering.{short, delivered}
use Rattle.row_lines.specs.Lines.{row_lines}
use Rattle.activity.specs.Activity.{opening, part_text}
use Rattle.activity.proofs.WholeText.{part_size, part_start}
use Rattle.activity.proofs.texts.write_part.Goals as goal
use Rattle.activity.proofs.texts.write_part.Goals.{After-rows_size}

abbrev text : After-rows_size → List ℕ
text c =
    part_text c.args.lists.now.names.now c.args.lists.now.k c.args.lists.now.times.now c.args.lists.now.states.now
    c.args.first c.args.many

abbrev size : After-rows_size → ℕ
size c = c.opening_size.result + c.rows_size.result

measured : (c : After-rows_size) → size c ≡ length (text c)
measured c = part_size _ _ _ _ _ _ c.opening_size.ensures c.rows_size.ensures

abbrev rows : After-rows_size → List ℕ
rows c =
    row_lines c.args.lists.now.names.now c.args.lists.now.k c.args.lists.now.times.now c.args.lists.now.states.now
    c.args.first c.args.many

abbrev headed : After-rows_size → List ℕ
headed c = opening c.args.lists.now.names.now c.args.lists.now.k c.args.first

begun : (c : After-rows_size) → size c ≤ length c.args.out.now
    → Going c.args.out.now 0 (text c) (headed c ∷ rows c ∷ []) c.args.out.now 0
begun c = part_start _ _ _ _ _ _ (measured c)

pub opening_size-requires : goal.opening_size-requires
opening_size-requires c = c.requires.slots

pub rows_size-requires : goal.rows_size-requires
rows_size-requires c = c.requires

pub overflow_add-size : goal.overflow_add-size
overflow_add-size c =
    omega (
      arith,
      c.opening_size.ensures.few,
      c.rows_size.ensures.few,
      c.requires.slots.few,
      c.requires.few,
    )

pub returns-then-out-size : goal.returns-then-out-size
returns-then-out-size c =
    let here = (goal.at.returns-then-out-size c).After-rows_size in
    short (measured here) c.if-out-size.true c.refuse.ensures

pub put_opening-p-requires : goal.put_opening-p-requires
put_opening-p-requires c =
    let here = (goal.at.put_opening-p-requires c).After-rows_size in
    record { slots = c.requires.slots; room = going_room (begun here c.if-out-size.false) }

pub put_rows-requires : goal.put_rows-requires
put_rows-requires c =
    let here = (goal.at.put_rows-requires c).After-rows_size in
    let at_rows = going_on (begun here c.if-out-size.false) c.put_opening-p.ensures in
    record { good = c.requires; room = going_room at_rows }

pub returns : goal.returns
returns c =
    let here = (goal.at.returns c).After-rows_size in
    let at_rows = going_on (begun here c.if-out-size.false) c.put_opening-p.ensures in
    delivered (measured here) c.if-out-size.false (going_end (going_on at_rows c.put_rows.ensures))
