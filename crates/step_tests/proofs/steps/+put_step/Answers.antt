-- `steps::put_step` meets its contract, by recursion on the bytes before `end`: case by case of the last byte.
use Rattle.std.proofs.Common.{arith}
use Rattle.steady_pins.proofs.TreeInduction.{last_ends}
use Rattle.acceptance.proofs.Chosen.{join_picking, right_chosen}
use Rattle.acceptance.proofs.NotedParts.{starts_part, counts_part}
use Rattle.acceptance.proofs.Shapes.{part_by, only_part}
use Rattle.step_tests.proofs.Puts.{beyond}
use Rattle.step_tests.proofs.JoinTests.{left_asked, left_stepping, right_stepping, last_pins, only_stepping}
use Rattle.step_tests.proofs.JoinTests.{only_pins, only_put, join_put}
use Rattle.step_tests.proofs.StepCases.{placing_pos, placing_shaping, edge_room, edge_pins_room, edge_written}
use Rattle.step_tests.proofs.StepCases.{before_held, condition_held, held_stepping, held_room, held_written, joined}
use Rattle.step_tests.proofs.steps.+put_step.Goals as goal

pub returns-then-steps-j : goal.returns-then-steps-j
returns-then-steps-j t c =
    beyond c.requires.placing c.requires.counted c.if-steps-j.true

pub overflow_sub-at : goal.overflow_sub-at
overflow_sub-at t c =
    omega (arith, placing_pos c.requires.placing)

pub bounds-tree-at : goal.bounds-tree-at
bounds-tree-at t c =
    let h = c.requires.placing in
    omega (arith, placing_pos h, h.chosen.ends.within)

pub put_test-next-requires : goal.put_test-next-requires
put_test-next-requires t c =
    let h = c.requires.placing in
    let z = c.requires.counted in
    edge_room h z c.if-steps-j.false c.if-b-ge64.true

pub put_noted-requires : goal.put_noted-requires
put_noted-requires t c =
    let h = c.requires.placing in
    let z = c.requires.counted in
    (edge_pins_room h z c.if-steps-j.false c.if-b-ge64.true c.put_test-next.ensures, c.requires.noted.pinned)

pub returns-then-b-ge64 : goal.returns-then-b-ge64
returns-then-b-ge64 t c =
    let h = c.requires.placing in
    let z = c.requires.counted in
    edge_written h z c.if-steps-j.false c.if-b-ge64.true c.put_test-next.ensures c.put_noted.ensures

pub start_at-left-requires : goal.start_at-left-requires
start_at-left-requires t c = (
  starts_part (omega arith) c.requires.noted.starts,
  last_ends _ _ _ c.requires.placing.chosen.ends c.if-b-ge64.false,
)

pub put_step-next-requires : goal.put_step-next-requires
put_step-next-requires t c =
    let h = c.requires.placing in
    let z = c.requires.counted in
    let n = c.requires.noted in
    let s = c.start_at-left.ensures in
    let e = before_held h z c.if-steps-j.false s c.if-b-eq57.true in
    (omega (arith, c.decreases, e.shorter), held_stepping e z n)

pub put_test-requires : goal.put_test-requires
put_test-requires t c =
    let h = c.requires.placing in
    let z = c.requires.counted in
    let s = c.start_at-left.ensures in
    let e = before_held h z c.if-steps-j.false s c.if-b-eq57.true in
    held_room e c.put_step-next.ensures

pub returns-then-b-eq57 : goal.returns-then-b-eq57
returns-then-b-eq57 t c =
    let h = c.requires.placing in
    let z = c.requires.counted in
    let s = c.start_at-left.ensures in
    let e = before_held h z c.if-steps-j.false s c.if-b-eq57.true in
    held_written e c.put_step-next.ensures c.put_test.ensures

pub put_step-next-requires-then-b-eq56 : goal.put_step-next-requires-then-b-eq56
put_step-next-requires-then-b-eq56 t c =
    let h = c.requires.placing in
    let z = c.requires.counted in
    let n = c.requires.noted in
    let s = c.start_at-left.ensures in
    let e = condition_held h z c.if-steps-j.false s c.if-b-eq56.true in
    (omega (arith, c.decreases, e.shorter), held_stepping e z n)

pub put_test-requires-then-b-eq56 : goal.put_test-requires-then-b-eq56
put_test-requires-then-b-eq56 t c =
    let h = c.requires.placing in
    let z = c.requires.counted in
    let s = c.start_at-left.ensures in
    let e = condition_held h z c.if-steps-j.false s c.if-b-eq56.true in
    held_room e c.put_step-next-then-b-eq56.ensures

pub returns-then-b-eq56 : goal.returns-then-b-eq56
returns-then-b-eq56 t c =
    let h = c.requires.placing in
    let z = c.requires.counted in
    let s = c.start_at-left.ensures in
    let e = condition_held h z c.if-steps-j.false s c.if-b-eq56.true in
    held_written e c.put_step-next-then-b-eq56.ensures c.put_test-then-b-eq56.ensures

pub count_at-n-requires : goal.count_at-n-requires
count_at-n-requires t c =
    let h = c.requires.placing in
    let n = c.requires.noted in
    let s = c.start_at-left.ensures in
    let g = joined h s c.if-b-ge64.false c.if-b-eq57.false c.if-b-eq56.false in
    (counts_part (omega (arith, s.before)) n.counts, g.left)

pub put_step-next-requires-then-b-eq55 : goal.put_step-next-requires-then-b-eq55
put_step-next-requires-then-b-eq55 t c =
    let h = c.requires.placing in
    let z = c.requires.counted in
    let n = c.requires.noted in
    let s = c.start_at-left.ensures in
    let g = joined h s c.if-b-ge64.false c.if-b-eq57.false c.if-b-eq56.false in
    let o =
    only_part (placing_shaping h) g s c.if-b-eq55.true c.count_at-n.ensures c.part_at-q.ensures in
    (omega (arith, c.decreases, o.shorter), only_stepping h z s g o n)

pub put_noted-requires-then-b-eq55 : goal.put_noted-requires-then-b-eq55
put_noted-requires-then-b-eq55 t c =
    let h = c.requires.placing in
    let z = c.requires.counted in
    let n = c.requires.noted in
    let s = c.start_at-left.ensures in
    let g = joined h s c.if-b-ge64.false c.if-b-eq57.false c.if-b-eq56.false in
    let o =
    only_part (placing_shaping h) g s c.if-b-eq55.true c.count_at-n.ensures c.part_at-q.ensures in (
      rw c.entries_at.ensures (only_pins h z s g o c.put_step-next-then-b-eq55.ensures),
      n.pinned,
    )

pub returns-then-b-eq55 : goal.returns-then-b-eq55
returns-then-b-eq55 t c =
    let h = c.requires.placing in
    let z = c.requires.counted in
    let s = c.start_at-left.ensures in
    let g = joined h s c.if-b-ge64.false c.if-b-eq57.false c.if-b-eq56.false in
    let o =
    only_part (placing_shaping h) g s c.if-b-eq55.true c.count_at-n.ensures c.part_at-q.ensures in
    only_put h z s g o c.put_step-next-then-b-eq55.ensures
    (rw c.entries_at.ensures at c.put_noted-then-b-eq55.ensures)

pub count_at-m-requires : goal.count_at-m-requires
count_at-m-requires t c =
    let h = c.requires.placing in
    let n = c.requires.noted in
    let s = c.start_at-left.ensures in
    let g = joined h s c.if-b-ge64.false c.if-b-eq57.false c.if-b-eq56.false in
    (counts_part (omega arith) n.counts, g.right)

pub find-p-requires : goal.find-p-requires
find-p-requires t c =
    let h = c.requires.placing in
    let s = c.start_at-left.ensures in
    let g = joined h s c.if-b-ge64.false c.if-b-eq57.false c.if-b-eq56.false in
    join_picking _ _ _ _ h.chosen g c.count_at-n.ensures c.count_at-m.ensures

pub shape_of-y-requires : goal.shape_of-y-requires
shape_of-y-requires t c =
    let h = c.requires.placing in
    let n = c.requires.noted in
    let s = c.start_at-left.ensures in
    let g = joined h s c.if-b-ge64.false c.if-b-eq57.false c.if-b-eq56.false in
    part_by (placing_shaping h) n (omega (arith, placing_pos h))
    (right_chosen _ _ _ _ h.chosen g c.count_at-n.ensures c.count_at-m.ensures c.find-p.ensures)

pub left_steps-x-requires : goal.left_steps-x-requires
left_steps-x-requires t c =
    let h = c.requires.placing in
    let z = c.requires.counted in
    let n = c.requires.noted in
    let s = c.start_at-left.ensures in
    let g = joined h s c.if-b-ge64.false c.if-b-eq57.false c.if-b-eq56.false in
    left_asked h z s g c.count_at-n.ensures c.count_at-m.ensures c.find-p.ensures n c.shape_of-y.ensures

pub put_step-next-requires-2 : goal.put_step-next-requires-2
put_step-next-requires-2 t c =
    let h = c.requires.placing in
    let z = c.requires.counted in
    let n = c.requires.noted in
    let s = c.start_at-left.ensures in
    let g = joined h s c.if-b-ge64.false c.if-b-eq57.false c.if-b-eq56.false in (
      omega (arith, c.decreases, s.before, placing_pos h),
      left_stepping h z s g c.count_at-n.ensures c.count_at-m.ensures c.find-p.ensures c.left_steps-x.ensures
          c.shape_of-y.ensures c.split-s.ensures n,
    )

pub put_step-last-requires : goal.put_step-last-requires
put_step-last-requires t c =
    let h = c.requires.placing in
    let z = c.requires.counted in
    let n = c.requires.noted in
    let s = c.start_at-left.ensures in
    let g = joined h s c.if-b-ge64.false c.if-b-eq57.false c.if-b-eq56.false in (
      omega (arith, c.decreases, placing_pos h),
      right_stepping h z s g c.count_at-n.ensures c.count_at-m.ensures c.find-p.ensures c.left_steps-x.ensures
          c.shape_of-y.ensures c.split-s.ensures c.put_step-next-2.ensures n,
    )

pub put_noted-requires-2 : goal.put_noted-requires-2
put_noted-requires-2 t c =
    let h = c.requires.placing in
    let z = c.requires.counted in
    let n = c.requires.noted in
    let s = c.start_at-left.ensures in
    let g = joined h s c.if-b-ge64.false c.if-b-eq57.false c.if-b-eq56.false in (
      rw c.entries_at-2.ensures
          (last_pins h z s g c.count_at-n.ensures c.count_at-m.ensures c.find-p.ensures c.left_steps-x.ensures
          c.shape_of-y.ensures c.split-s.ensures c.put_step-next-2.ensures c.put_step-last.ensures),
      n.pinned,
    )

pub returns : goal.returns
returns t c =
    let h = c.requires.placing in
    let z = c.requires.counted in
    let s = c.start_at-left.ensures in
    let g = joined h s c.if-b-ge64.false c.if-b-eq57.false c.if-b-eq56.false in
    join_put h z s g c.count_at-n.ensures c.count_at-m.ensures c.find-p.ensures c.left_steps-x.ensures
    c.shape_of-y.ensures c.split-s.ensures c.put_step-next-2.ensures c.put_step-last.ensures
    (rw c.entries_at-2.ensures at c.put_noted-2.ensures)
