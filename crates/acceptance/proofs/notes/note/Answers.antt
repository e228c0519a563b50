use native.Mathlib.Omega.{arith}
use mathlib.Core.Path.{◌≡◌}
use Prim.Native.Nat.{◌+◌, ◌-◌}
use Rattle.acceptance.proofs.NotedParts.{noted_none, noting_next, entries_next, note_next, noted_part}
use Rattle.acceptance.proofs.notes.note.Goals as goal

pub loop-at-init : goal.loop-at-init
loop-at-init c = (omega arith, noted_none c.blank-notes.ensures)

pub overflow_add-e : goal.overflow_add-e
overflow_add-e c = omega (arith, c.requires.small)

pub count_by-n-requires : goal.count_by-n-requires
count_by-n-requires c = noting_next c.requires c.loop-at-test.true c.loop-at.invariant.1

pub start_by-from-requires : goal.start_by-from-requires
start_by-from-requires c = noting_next c.requires c.loop-at-test.true c.loop-at.invariant.1

pub pin_count-k-requires : goal.pin_count-k-requires
pin_count-k-requires c = entries_next c.requires c.loop-at-test.true

pub overflow_cast-notes : goal.overflow_cast-notes
overflow_cast-notes c = omega (arith, c.count_by-n.ensures.few)

pub bounds-notes-at : goal.bounds-notes-at
bounds-notes-at c = omega (arith, c.loop-at.invariant.1.starts.long, c.requires.small, c.loop-at-test.true)

pub overflow_cast-notes-in-loop-at : goal.overflow_cast-notes-in-loop-at
overflow_cast-notes-in-loop-at c =
    omega (arith, c.start_by-from.ensures.before, c.requires.small, c.loop-at-test.true)

pub overflow_add-notes : goal.overflow_add-notes
overflow_add-notes c = omega (arith, c.requires.small, c.loop-at-test.true)

pub overflow_cast-notes-in-loop-at-2 : goal.overflow_cast-notes-in-loop-at-2
overflow_cast-notes-in-loop-at-2 c = omega (arith, c.pin_count-k.ensures.few)

pub overflow_add-notes-in-loop-at : goal.overflow_add-notes-in-loop-at
overflow_add-notes-in-loop-at c = omega (arith, c.requires.small, c.loop-at-test.true)

pub loop-at-preserved : goal.loop-at-preserved
loop-at-preserved c =
    let d : c.loop-at.at + 1 - 1 ≡ c.loop-at.at = omega arith in (
      omega (arith, c.loop-at-test.true),
      rw d at
          (note_next c.requires c.loop-at-test.true c.loop-at.invariant.1 c.count_by-n.ensures c.start_by-from.ensures
          c.pin_count-k.ensures),
    )

pub returns : goal.returns
returns c = noted_part c.loop-at-test.false c.loop-at.invariant.1
