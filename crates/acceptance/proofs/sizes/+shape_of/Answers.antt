use native.Mathlib.Omega.{arith}
use Rattle.acceptance.proofs.Chosen.{before_chosen, condition_chosen, join_picking, left_chosen, right_chosen}
use Rattle.acceptance.proofs.Chosen.{shaped_small}
use Rattle.acceptance.proofs.NotedParts.{starts_part, counts_part}
use Rattle.acceptance.proofs.Shapes.{part_by, shaping_pos, shaping_join, shaping_condition}
use Rattle.acceptance.proofs.Shapes.{edge_shape, before_shape, condition_shape, join_shape, combined_small}
use Rattle.acceptance.proofs.Shapes.{only_part, only_shape}
use Rattle.trees.proofs.Vectors.{right_ends}
use Rattle.acceptance.proofs.sizes.+shape_of.Goals as goal

pub overflow_sub-at : goal.overflow_sub-at
overflow_sub-at t c =
    let h = c.requires.shaping in
    omega (arith, shaping_pos h)

pub bounds-tree-at : goal.bounds-tree-at
bounds-tree-at t c =
    let h = c.requires.shaping in
    omega (arith, shaping_pos h, h.chosen.ends.within)

pub pins_at-pinned-requires : goal.pins_at-pinned-requires
pins_at-pinned-requires t c =
    let h = c.requires.shaping in
    let n = c.requires.noted in
    (n.pinned, shaping_pos h)

pub overflow_add-tests : goal.overflow_add-tests
overflow_add-tests t c = omega (arith, c.pins_at-pinned.ensures.few)

pub returns-then-b-ge64 : goal.returns-then-b-ge64
returns-then-b-ge64 t c =
    let h = c.requires.shaping in
    edge_shape h c.if-b-ge64.true c.pins_at-pinned.ensures

pub shape_of-requires-then-b-eq57 : goal.shape_of-requires-then-b-eq57
shape_of-requires-then-b-eq57 t c =
    let h = c.requires.shaping in
    let n = c.requires.noted in (
      omega (arith, c.decreases, shaping_pos h),
      part_by h n (omega (arith, shaping_pos h))
          (before_chosen _ _ _ _ h.chosen c.if-b-eq57.true),
    )

pub hold-requires : goal.hold-requires
hold-requires t c = shaped_small c.shape_of.ensures

pub returns-then-b-eq57 : goal.returns-then-b-eq57
returns-then-b-eq57 t c =
    let h = c.requires.shaping in
    before_shape h c.if-b-eq57.true c.shape_of.ensures c.hold.ensures

pub start_at-left-requires : goal.start_at-left-requires
start_at-left-requires t c =
    let h = c.requires.shaping in
    let n = c.requires.noted in (
      starts_part (omega arith) n.starts,
      right_ends _ _ _ h.chosen.ends c.if-b-ge64.false
          c.if-b-eq57.false,
    )

pub shape_of-requires-then-b-eq56 : goal.shape_of-requires-then-b-eq56
shape_of-requires-then-b-eq56 t c =
    let h = c.requires.shaping in
    let n = c.requires.noted in
    let s = c.start_at-left.ensures in (
      omega (arith, c.decreases, s.before),
      part_by h n (omega (arith, s.before)) (condition_chosen _ _ _ _
          h.chosen (shaping_condition h s c.if-b-eq56.true)),
    )

pub hold-requires-then-b-eq56 : goal.hold-requires-then-b-eq56
hold-requires-then-b-eq56 t c = shaped_small c.shape_of-then-b-eq56.ensures

pub returns-then-b-eq56 : goal.returns-then-b-eq56
returns-then-b-eq56 t c =
    let h = c.requires.shaping in
    let s = c.start_at-left.ensures in
    condition_shape h (shaping_condition h s c.if-b-eq56.true) s
    c.shape_of-then-b-eq56.ensures c.hold-then-b-eq56.ensures

pub count_at-n-requires : goal.count_at-n-requires
count_at-n-requires t c =
    let h = c.requires.shaping in
    let n = c.requires.noted in
    let s = c.start_at-left.ensures in
    let j = shaping_join h s c.if-b-ge64.false c.if-b-eq56.false c.if-b-eq57.false in
    (counts_part (omega (arith, s.before)) n.counts, j.left)

pub shape_of-requires-then-b-eq55 : goal.shape_of-requires-then-b-eq55
shape_of-requires-then-b-eq55 t c =
    let h = c.requires.shaping in
    let n = c.requires.noted in
    let s = c.start_at-left.ensures in
    let j = shaping_join h s c.if-b-ge64.false c.if-b-eq56.false c.if-b-eq57.false in
    let o = only_part h j s c.if-b-eq55.true c.count_at-n.ensures c.part_at-q.ensures in
    (omega (arith, c.decreases, o.shorter), part_by h n o.shorter o.chosen)

pub pin-requires : goal.pin-requires
pin-requires t c = (shaped_small c.shape_of-then-b-eq55.ensures, c.pins_at-pinned.ensures.few)

pub returns-then-b-eq55 : goal.returns-then-b-eq55
returns-then-b-eq55 t c =
    let h = c.requires.shaping in
    let s = c.start_at-left.ensures in
    let j = shaping_join h s c.if-b-ge64.false c.if-b-eq56.false c.if-b-eq57.false in
    let o = only_part h j s c.if-b-eq55.true c.count_at-n.ensures c.part_at-q.ensures in
    only_shape h j s c.count_at-n.ensures o c.shape_of-then-b-eq55.ensures
    c.pins_at-pinned.ensures c.pin.ensures

pub count_at-m-requires : goal.count_at-m-requires
count_at-m-requires t c =
    let h = c.requires.shaping in
    let n = c.requires.noted in
    let s = c.start_at-left.ensures in
    let j = shaping_join h s c.if-b-ge64.false c.if-b-eq56.false c.if-b-eq57.false in
    (counts_part (omega arith) n.counts, j.right)

pub find-p-requires : goal.find-p-requires
find-p-requires t c =
    let h = c.requires.shaping in
    let s = c.start_at-left.ensures in
    let j = shaping_join h s c.if-b-ge64.false c.if-b-eq56.false c.if-b-eq57.false in
    join_picking _ _ _ _ h.chosen j c.count_at-n.ensures c.count_at-m.ensures

pub shape_of-x-requires : goal.shape_of-x-requires
shape_of-x-requires t c =
    let h = c.requires.shaping in
    let n = c.requires.noted in
    let s = c.start_at-left.ensures in
    let j = shaping_join h s c.if-b-ge64.false c.if-b-eq56.false c.if-b-eq57.false in (
      omega (arith, c.decreases, s.before),
      part_by h n (omega (arith, s.before)) (left_chosen _ _ _ _
          h.chosen j c.count_at-n.ensures c.count_at-m.ensures c.find-p.ensures),
    )

pub shape_of-y-requires : goal.shape_of-y-requires
shape_of-y-requires t c =
    let h = c.requires.shaping in
    let n = c.requires.noted in
    let s = c.start_at-left.ensures in
    let j = shaping_join h s c.if-b-ge64.false c.if-b-eq56.false c.if-b-eq57.false in (
      omega (arith, c.decreases, shaping_pos h),
      part_by h n (omega (arith, shaping_pos h))
          (right_chosen _ _ _ _ h.chosen j c.count_at-n.ensures c.count_at-m.ensures c.find-p.ensures),
    )

pub combine-requires : goal.combine-requires
combine-requires t c = (shaped_small c.shape_of-x.ensures, shaped_small c.shape_of-y.ensures)

pub pin-requires-2 : goal.pin-requires-2
pin-requires-2 t c = (
  combined_small c.shape_of-x.ensures c.shape_of-y.ensures
      c.combine.ensures,
  c.pins_at-pinned.ensures.few,
)

pub returns : goal.returns
returns t c =
    let h = c.requires.shaping in
    let s = c.start_at-left.ensures in
    let j = shaping_join h s c.if-b-ge64.false c.if-b-eq56.false c.if-b-eq57.false in
    join_shape h j c.count_at-n.ensures c.count_at-m.ensures c.find-p.ensures s
    c.shape_of-x.ensures c.shape_of-y.ensures c.combine.ensures c.pins_at-pinned.ensures
    c.pin-2.ensures
