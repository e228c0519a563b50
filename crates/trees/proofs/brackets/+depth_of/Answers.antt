use native.Mathlib.Omega.{arith}
use Rattle.trees.proofs.Starts.{ends_pos}
use Rattle.trees.proofs.Levels.{level_some}
use Rattle.trees.proofs.Operands.{right_whole, left_whole, first_whole}
use Rattle.trees.proofs.Depths.{depth_small, bracket_is, leaf_depth, one_depth, pair_depth, three_depth}
use Rattle.trees.proofs.brackets.+depth_of.Goals as goal

pub overflow_sub-at : goal.overflow_sub-at
overflow_sub-at t c = let p = ends_pos c.requires in omega arith

pub bounds-tree-at : goal.bounds-tree-at
bounds-tree-at t c = let p = ends_pos c.requires in omega (arith, c.requires.within)

pub returns-then-b-lt40 : goal.returns-then-b-lt40
returns-then-b-lt40 t c = leaf_depth _ _ _ c.requires c.if-b-lt40.true

pub depth_of-right-requires : goal.depth_of-right-requires
depth_of-right-requires t c =
    let p = ends_pos c.requires in (omega (arith, c.decreases), (right_whole _ _ _ c.requires c.if-b-lt40.false))

pub overflow_sub-at-then-b-ge64 : goal.overflow_sub-at-then-b-ge64
overflow_sub-at-then-b-ge64 t c =
    let p = ends_pos (right_whole _ _ _ c.requires c.if-b-lt40.false) in omega arith

pub bounds-tree-at-then-b-ge64 : goal.bounds-tree-at-then-b-ge64
bounds-tree-at-then-b-ge64 t c =
    let p = ends_pos (right_whole _ _ _ c.requires c.if-b-lt40.false) in omega (arith, c.requires.within)

pub bracket-requires : goal.bracket-requires
bracket-requires t c = depth_small _ _ c.depth_of-right.ensures

pub returns-then-b-ge64 : goal.returns-then-b-ge64
returns-then-b-ge64 t c =
    one_depth _ _ _ c.requires c.if-b-ge64.true
    (bracket_is 1 (right_whole _ _ _ c.requires c.if-b-lt40.false) c.depth_of-right.ensures c.bracket.ensures)

pub start_of-middle-requires : goal.start_of-middle-requires
start_of-middle-requires t c = (right_whole _ _ _ c.requires c.if-b-lt40.false)

pub depth_of-left-requires : goal.depth_of-left-requires
depth_of-left-requires t c =
    let l = c.start_of-middle.ensures.before in (
      omega (arith, c.decreases),
      (left_whole _ _ _ c.requires c.start_of-middle.ensures c.if-b-lt40.false c.if-b-ge64.false),
    )

pub overflow_sub-middle : goal.overflow_sub-middle
overflow_sub-middle t c =
    let p = ends_pos (left_whole _ _ _ c.requires c.start_of-middle.ensures c.if-b-lt40.false c.if-b-ge64.false) in omega
    arith

pub bounds-tree-middle : goal.bounds-tree-middle
bounds-tree-middle t c =
    let l = c.start_of-middle.ensures.before in
    let p = ends_pos (left_whole _ _ _ c.requires c.start_of-middle.ensures c.if-b-lt40.false c.if-b-ge64.false) in
    omega (arith, c.requires.within)

pub bracket-x-requires : goal.bracket-x-requires
bracket-x-requires t c = depth_small _ _ c.depth_of-left.ensures

pub overflow_sub-place : goal.overflow_sub-place
overflow_sub-place t c =
    let s = level_some _ c.if-b-lt40.false c.if-b-lt60.true in omega (arith, c.level-place.ensures)

pub overflow_sub-at-then-b-lt60 : goal.overflow_sub-at-then-b-lt60
overflow_sub-at-then-b-lt60 t c =
    let p = ends_pos (right_whole _ _ _ c.requires c.if-b-lt40.false) in omega arith

pub bounds-tree-at-then-b-lt60 : goal.bounds-tree-at-then-b-lt60
bounds-tree-at-then-b-lt60 t c =
    let p = ends_pos (right_whole _ _ _ c.requires c.if-b-lt40.false) in omega (arith, c.requires.within)

pub bracket-requires-then-b-lt60 : goal.bracket-requires-then-b-lt60
bracket-requires-then-b-lt60 t c = depth_small _ _ c.depth_of-right.ensures

pub returns-then-b-lt60 : goal.returns-then-b-lt60
returns-then-b-lt60 t c =
    pair_depth _ _ _ c.requires c.start_of-middle.ensures c.if-b-lt40.false c.if-b-lt60.true c.level-place.ensures
    (bracket_is c.level-place.result
    (left_whole _ _ _ c.requires c.start_of-middle.ensures c.if-b-lt40.false c.if-b-ge64.false) c.depth_of-left.ensures
    c.bracket-x.ensures)
    (bracket_is _ (right_whole _ _ _ c.requires c.if-b-lt40.false) c.depth_of-right.ensures
    c.bracket-then-b-lt60.ensures) c.max.ensures

pub start_of-start-requires : goal.start_of-start-requires
start_of-start-requires t c =
    (left_whole _ _ _ c.requires c.start_of-middle.ensures c.if-b-lt40.false c.if-b-ge64.false)

pub depth_of-first-requires : goal.depth_of-first-requires
depth_of-first-requires t c =
    let l = c.start_of-middle.ensures.before in
    let m = c.start_of-start.ensures.before in (
      omega (arith, c.decreases),
      (first_whole _ _ _ c.requires c.start_of-middle.ensures c.start_of-start.ensures c.if-b-lt60.false
          c.if-b-ge64.false),
    )

pub overflow_sub-start : goal.overflow_sub-start
overflow_sub-start t c =
    let p = ends_pos (first_whole _ _ _ c.requires c.start_of-middle.ensures c.start_of-start.ensures
    c.if-b-lt60.false c.if-b-ge64.false) in omega arith

pub bounds-tree-start : goal.bounds-tree-start
bounds-tree-start t c =
    let l = c.start_of-middle.ensures.before in
    let m = c.start_of-start.ensures.before in
    let p = ends_pos (first_whole _ _ _ c.requires c.start_of-middle.ensures c.start_of-start.ensures c.if-b-lt60.false
    c.if-b-ge64.false) in
    omega (arith, c.requires.within)

pub bracket-requires-2 : goal.bracket-requires-2
bracket-requires-2 t c = depth_small _ _ c.depth_of-first.ensures

pub returns : goal.returns
returns t c =
    three_depth _ _ _ c.requires c.start_of-middle.ensures c.start_of-start.ensures c.if-b-lt60.false c.if-b-ge64.false
    (bracket_is 5 (first_whole _ _ _ c.requires c.start_of-middle.ensures c.start_of-start.ensures c.if-b-lt60.false
    c.if-b-ge64.false) c.depth_of-first.ensures c.bracket-2.ensures)
    c.depth_of-left.ensures c.depth_of-right.ensures (rw c.max-2.ensures at c.max-3.ensures)
