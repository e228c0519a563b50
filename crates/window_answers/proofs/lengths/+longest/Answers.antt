use native.Mathlib.Omega.{arith}
use Rattle.trees.proofs.Vectors.{vector_pos, right_ends, before_ends, ends_left, condition_is, join_is}
use Rattle.window_answers.proofs.Longest.{edge_longest, before_longest, condition_longest}
use Rattle.window_answers.proofs.Longest.{sum_longest, sum_fits, greater_longest}
use Rattle.window_answers.proofs.lengths.+longest.Goals as goal

pub overflow_sub-at : goal.overflow_sub-at
overflow_sub-at t c = let p = vector_pos _ _ _ c.requires in omega arith

pub bounds-tree-at : goal.bounds-tree-at
bounds-tree-at t c = let p = vector_pos _ _ _ c.requires in omega (arith, c.requires.within)

pub returns-then-b-ge64 : goal.returns-then-b-ge64
returns-then-b-ge64 t c = edge_longest _ _ _ c.requires c.if-b-ge64.true

pub longest-requires : goal.longest-requires
longest-requires t c =
    let p = vector_pos _ _ _ c.requires in
    (omega (arith, c.decreases), before_ends _ _ _ c.requires c.if-b-eq57.true)

pub returns-then-b-eq57 : goal.returns-then-b-eq57
returns-then-b-eq57 t c = before_longest _ _ _ c.requires c.if-b-eq57.true c.longest.ensures

pub start_of-left-requires : goal.start_of-left-requires
start_of-left-requires t c = right_ends _ _ _ c.requires c.if-b-ge64.false c.if-b-eq57.false

pub longest-x-requires : goal.longest-x-requires
longest-x-requires t c =
    let l = c.start_of-left.ensures.before in (
      omega (arith, c.decreases),
      ends_left _ _ _ c.requires c.start_of-left.ensures c.if-b-ge64.false
          c.if-b-eq57.false,
    )

pub returns-then-b-eq56 : goal.returns-then-b-eq56
returns-then-b-eq56 t c =
    condition_longest _ _ _ (condition_is _ _ _ c.requires c.start_of-left.ensures c.if-b-eq56.true)
    c.longest-x.ensures

pub longest-y-requires : goal.longest-y-requires
longest-y-requires t c =
    let p = vector_pos _ _ _ c.requires in (
      omega (arith, c.decreases),
      (join_is _ _ _ c.requires c.start_of-left.ensures c.if-b-ge64.false c.if-b-eq56.false
          c.if-b-eq57.false).right,
    )

pub overflow_add-result : goal.overflow_add-result
overflow_add-result t c =
    let l = sum_fits _ _ _
    (join_is _ _ _ c.requires c.start_of-left.ensures c.if-b-ge64.false c.if-b-eq56.false c.if-b-eq57.false)
    c.longest-x.ensures c.longest-y.ensures
    c.requires c.if-b-lt54.true in
    omega arith

pub returns-then-b-lt54 : goal.returns-then-b-lt54
returns-then-b-lt54 t c =
    sum_longest _ _ _
    (join_is _ _ _ c.requires c.start_of-left.ensures c.if-b-ge64.false c.if-b-eq56.false c.if-b-eq57.false)
    c.longest-x.ensures c.longest-y.ensures c.if-b-lt54.true

pub returns : goal.returns
returns t c =
    greater_longest _ _ _
    (join_is _ _ _ c.requires c.start_of-left.ensures c.if-b-ge64.false c.if-b-eq56.false c.if-b-eq57.false)
    c.longest-x.ensures c.longest-y.ensures
    c.if-b-lt54.false c.max.ensures
