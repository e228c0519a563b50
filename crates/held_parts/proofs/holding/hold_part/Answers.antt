use native.Mathlib.Omega.{arith}
use Rattle.held_parts.proofs.Pinning.{pinning_first, pinning_none, pinning_one, pinning_all}
use Rattle.held_parts.proofs.holding.hold_part.Goals as goal
use Rattle.held_parts.proofs.holding.hold_part.Goals.{then-place-ne0, else-place-ne0}

pub overflow_sub-at : goal.overflow_sub-at
overflow_sub-at c = c.requires.some

pub loop-k-init : goal.loop-k-init
loop-k-init c = (omega arith, pinning_first c.requires.long)

pub overflow_mul-place : goal.overflow_mul-place
overflow_mul-place c = omega (arith, c.requires.few)

pub overflow_add-place : goal.overflow_add-place
overflow_add-place c = omega (arith, c.requires.few)

pub bounds-pins-at : goal.bounds-pins-at
bounds-pins-at c = omega (arith, c.requires.few)

pub overflow_mul-at : goal.overflow_mul-at
overflow_mul-at c = omega (arith, c.requires.few)

pub hold_pin-requires : goal.hold_pin-requires
hold_pin-requires c =
    let s = c.requires in
    record {
      ends = s.pinned.stands _ (omega (arith, c.if-place-ne0.true));
      rows = s.rows;
      room = omega (arith, s.few);
      long = c.loop-k.invariant.1.is.long;
    }

pub loop-k-preserved : goal.loop-k-preserved
loop-k-preserved c = (
  omega arith,
  elim c.if-place-ne0.branch [
    | then-place-ne0 w ↦ rw w.table-is (pinning_one c.loop-k.invariant.1 w.if-place-ne0.true w.hold_pin.ensures)
    | else-place-ne0 w ↦ rw w.table-is (pinning_none c.loop-k.invariant.1 w.if-place-ne0.false)
  ],
)

pub returns : goal.returns
returns c = pinning_all c.loop-k.invariant.1 c.loop-k.invariant.0 c.loop-k-test.false
