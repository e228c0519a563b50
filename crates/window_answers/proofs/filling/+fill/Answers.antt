-- `filling::fill` meets its contract, by recursion on the bytes before `end`.
use Rattle.std.proofs.Common.{ℕ, ◌-◌, ◌<◌, ◌≤◌, List, arith}
use Rattle.trees.specs.Parts.{EndsVector, Start}
use Rattle.trees.proofs.Starts.{ends_pos}
use Rattle.evaluator.proofs.Booleans.{last_byte}
use Rattle.window_answers.proofs.Vectors.{edge_ends, right_ends, left_ends}
use Rattle.window_answers.proofs.FilledParts.{vector_ends, boolean_ends, leaf_ready, condition_filled}
use Rattle.window_answers.proofs.FilledParts.{edge_filled, while_filled, joined_filled}
use Rattle.window_answers.proofs.FilledParts.{part_held, right_fillable, left_fillable, part_ready}
use Rattle.window_answers.proofs.filling.+fill.Goals as goal

-- where the operands' parts stand
places : {tree : List ℕ} {names end m : ℕ} → EndsVector tree names end → last_byte tree end < 64
    → Start tree names (end - 1) m → end ≤ 256 → (1 ≤ m) × (m < end - 1) × (end ≤ 256)
places v l s f = (ends_pos (left_ends v (omega arith) s), s.before, f)

pub overflow_sub-at : goal.overflow_sub-at
overflow_sub-at t c =
    ends_pos c.requires.ends

pub overflow_mul-at : goal.overflow_mul-at
overflow_mul-at t c =
    omega (arith, c.requires.few)

pub fill_leaf-requires : goal.fill_leaf-requires
fill_leaf-requires t c =
    leaf_ready c.requires (boolean_ends c.requires c.if-not-vector.true)

pub returns-then-not-vector : goal.returns-then-not-vector
returns-then-not-vector t c =
    condition_filled c.requires c.if-not-vector.true c.fill_leaf.ensures

pub bounds-tree-at : goal.bounds-tree-at
bounds-tree-at t c =
    let p = ends_pos c.requires.ends in omega (arith, c.requires.ends.within)

pub overflow_mul-at-then-k-ge64 : goal.overflow_mul-at-then-k-ge64
overflow_mul-at-then-k-ge64 t c =
    omega (arith, c.requires.few)

pub fill_leaf-requires-then-k-ge64 : goal.fill_leaf-requires-then-k-ge64
fill_leaf-requires-then-k-ge64 t c =
    let v = vector_ends c.requires c.if-not-vector.false in
    leaf_ready c.requires (edge_ends v c.if-k-ge64.true)

pub hold_part-requires : goal.hold_part-requires
hold_part-requires t c =
    part_held c.requires c.fill_leaf-then-k-ge64.ensures.long

pub returns-then-k-ge64 : goal.returns-then-k-ge64
returns-then-k-ge64 t c =
    let v = vector_ends c.requires c.if-not-vector.false in
    edge_filled v c.if-k-ge64.true c.fill_leaf-then-k-ge64.ensures c.hold_part.ensures

pub start_of-left-requires : goal.start_of-left-requires
start_of-left-requires t c =
    let v = vector_ends c.requires c.if-not-vector.false in
    right_ends v (omega (arith, c.if-k-ge64.false))

pub fill-requires : goal.fill-requires
fill-requires t c =
    let v = vector_ends c.requires c.if-not-vector.false in
    let p = ends_pos c.requires.ends in (
      omega (arith, c.decreases),
      right_fillable c.requires v (omega (arith, c.if-k-ge64.false)),
    )

pub fill-requires-2 : goal.fill-requires-2
fill-requires-2 t c =
    let v = vector_ends c.requires c.if-not-vector.false in
    let g = c.start_of-left.ensures in (
      omega (arith, c.decreases, g.before),
      left_fillable c.requires v (omega (arith, c.if-k-ge64.false)) g c.fill.ensures.long,
    )

pub overflow_sub-p : goal.overflow_sub-p
overflow_sub-p t c =
    let v = vector_ends c.requires c.if-not-vector.false in
    let p = places v (omega (arith, c.if-k-ge64.false)) c.start_of-left.ensures c.requires.few in
    omega arith

pub overflow_mul-p : goal.overflow_mul-p
overflow_mul-p t c =
    let v = vector_ends c.requires c.if-not-vector.false in
    let p = places v (omega (arith, c.if-k-ge64.false)) c.start_of-left.ensures c.requires.few in
    omega arith

pub overflow_sub-q : goal.overflow_sub-q
overflow_sub-q t c =
    let v = vector_ends c.requires c.if-not-vector.false in
    let p = places v (omega (arith, c.if-k-ge64.false)) c.start_of-left.ensures c.requires.few in
    omega arith

pub overflow_mul-q : goal.overflow_mul-q
overflow_mul-q t c =
    let v = vector_ends c.requires c.if-not-vector.false in
    let p = places v (omega (arith, c.if-k-ge64.false)) c.start_of-left.ensures c.requires.few in
    omega arith

pub overflow_mul-at-then-k-ge56 : goal.overflow_mul-at-then-k-ge56
overflow_mul-at-then-k-ge56 t c =
    let v = vector_ends c.requires c.if-not-vector.false in
    let p = places v (omega (arith, c.if-k-ge64.false)) c.start_of-left.ensures c.requires.few in
    omega arith

pub operator_part-requires : goal.operator_part-requires
operator_part-requires t c =
    let v = vector_ends c.requires c.if-not-vector.false in
    let p = places v (omega (arith, c.if-k-ge64.false)) c.start_of-left.ensures c.requires.few in
    part_ready c.requires v (omega (arith, c.if-k-ge64.false)) c.fill-2.ensures.long (omega arith) (omega arith)

pub returns-then-k-ge56 : goal.returns-then-k-ge56
returns-then-k-ge56 t c =
    let v = vector_ends c.requires c.if-not-vector.false in
    while_filled v (omega (arith, c.if-k-ge64.false)) c.start_of-left.ensures c.fill.ensures
    c.fill-2.ensures c.requires.rows.most c.operator_part.ensures c.if-k-ge56.true

pub overflow_mul-at-2 : goal.overflow_mul-at-2
overflow_mul-at-2 t c =
    let v = vector_ends c.requires c.if-not-vector.false in
    let p = places v (omega (arith, c.if-k-ge64.false)) c.start_of-left.ensures c.requires.few in
    omega arith

pub operator_part-requires-2 : goal.operator_part-requires-2
operator_part-requires-2 t c =
    let v = vector_ends c.requires c.if-not-vector.false in
    let p = places v (omega (arith, c.if-k-ge64.false)) c.start_of-left.ensures c.requires.few in
    part_ready c.requires v (omega (arith, c.if-k-ge64.false)) c.fill-2.ensures.long (omega arith) (omega arith)

pub hold_part-requires-2 : goal.hold_part-requires-2
hold_part-requires-2 t c =
    part_held c.requires c.operator_part-2.ensures.long

pub returns : goal.returns
returns t c =
    let v = vector_ends c.requires c.if-not-vector.false in
    joined_filled v (omega (arith, c.if-k-ge64.false)) c.start_of-left.ensures c.fill.ensures
    c.fill-2.ensures c.requires.rows.most c.operator_part-2.ensures c.if-k-ge56.false c.hold_part-2.ensures
