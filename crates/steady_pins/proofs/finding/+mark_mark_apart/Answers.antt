-- `finding::mark` and `finding::mark_apart` meet their contracts, by recursion on the bytes before `end`.
use Rattle.std.proofs.Common.{arith, sym}
use Rattle.trees.proofs.Vectors.{vector_pos, right_ends, condition_is}
use Rattle.steady_pins.proofs.BesideParts.{then_two, other_two, no_chain}
use Rattle.steady_pins.proofs.WalkedParts.{ready_begun, left_walk, right_walk, part_walk, before_walk}
use Rattle.steady_pins.proofs.WalkedParts.{begun_walk, then_walked, stop_walked}
use Rattle.steady_pins.proofs.ApartParts.{lone_apart, then_apart, before_apart, condition_apart, other_apart}
use Rattle.steady_pins.proofs.finding.+mark_mark_apart.Goals as goal

pub mark-overflow_sub-at : goal.mark-overflow_sub-at
mark-overflow_sub-at t c = vector_pos _ _ _ c.requires.is.ends

pub mark-bounds-tree-at : goal.mark-bounds-tree-at
mark-bounds-tree-at t c =
    let p = vector_pos _ _ _ c.requires.is.ends in omega (arith, c.requires.is.ends.within)

pub mark-start_of-left-requires : goal.mark-start_of-left-requires
mark-start_of-left-requires t c =
    right_ends _ _ _ c.requires.is.ends (omega (arith, c.if-tree-at-eq50.true))
    (λ e. omega (arith, c.if-tree-at-eq50.true))

pub mark-mark-k-requires : goal.mark-mark-k-requires
mark-mark-k-requires t c =
    let s = c.start_of-left.ensures in (
      omega (arith, c.decreases, s.before),
      left_walk c.requires s (then_two c.requires.is s c.if-tree-at-eq50.true),
    )

pub mark-mark-requires : goal.mark-mark-requires
mark-mark-requires t c =
    let s = c.start_of-left.ensures in
    let p = vector_pos _ _ _ c.requires.is.ends in (
      omega (arith, c.decreases),
      right_walk c.requires s (then_two c.requires.is s c.if-tree-at-eq50.true) c.mark-k.ensures.ready,
    )

pub mark-returns-then-tree-at-eq50 : goal.mark-returns-then-tree-at-eq50
mark-returns-then-tree-at-eq50 t c =
    let s = c.start_of-left.ensures in
    then_walked _ _ _ c.requires.is.ends s (then_two c.requires.is s c.if-tree-at-eq50.true).joined
    c.if-tree-at-eq50.true c.mark-k.ensures c.mark.ensures

pub mark-mark_apart-requires : goal.mark-mark_apart-requires
mark-mark_apart-requires t c = (
  omega (arith, c.decreases),
  record { is = c.requires.is; ready = ready_begun c.requires.ready },
)

pub mark-returns : goal.mark-returns
mark-returns t c =
    stop_walked c.requires.ready.long (no_chain _ _ _ c.requires.is.ends c.if-tree-at-eq50.false)
    (sym c.if-is_step.ensures) c.begin.ensures c.mark_apart.ensures

pub mark_apart-overflow_sub-at : goal.mark_apart-overflow_sub-at
mark_apart-overflow_sub-at t c = vector_pos _ _ _ c.requires.is.ends

pub mark_apart-bounds-tree-at : goal.mark_apart-bounds-tree-at
mark_apart-bounds-tree-at t c =
    let p = vector_pos _ _ _ c.requires.is.ends in omega (arith, c.requires.is.ends.within)

pub mark_apart-returns-then-b-ge64 : goal.mark_apart-returns-then-b-ge64
mark_apart-returns-then-b-ge64 t c = lone_apart c.requires c.if-b-ge64.true

pub mark_apart-mark_apart-requires : goal.mark_apart-mark_apart-requires
mark_apart-mark_apart-requires t c =
    let p = vector_pos _ _ _ c.requires.is.ends in
    (omega (arith, c.decreases), before_walk c.requires c.if-b-eq57.true)

pub mark_apart-returns-then-b-eq57 : goal.mark_apart-returns-then-b-eq57
mark_apart-returns-then-b-eq57 t c = before_apart c.requires c.if-b-eq57.true c.mark_apart.ensures

pub mark_apart-start_of-left-requires : goal.mark_apart-start_of-left-requires
mark_apart-start_of-left-requires t c =
    right_ends _ _ _ c.requires.is.ends (omega (arith, c.if-b-ge64.false)) c.if-b-eq57.false

pub mark_apart-mark-k-requires : goal.mark_apart-mark-k-requires
mark_apart-mark-k-requires t c =
    let s = c.start_of-left.ensures in (
      omega (arith, c.decreases, s.before),
      begun_walk c.begin-none.ensures
          (left_walk c.requires s (then_two c.requires.is s c.if-b-eq50.true)),
    )

pub mark_apart-mark-requires : goal.mark_apart-mark-requires
mark_apart-mark-requires t c =
    let s = c.start_of-left.ensures in
    let p = vector_pos _ _ _ c.requires.is.ends in (
      omega (arith, c.decreases),
      right_walk c.requires s (then_two c.requires.is s c.if-b-eq50.true) c.mark-k.ensures.ready,
    )

pub mark_apart-returns-then-b-eq50 : goal.mark_apart-returns-then-b-eq50
mark_apart-returns-then-b-eq50 t c =
    let s = c.start_of-left.ensures in
    then_apart c.requires s (then_two c.requires.is s c.if-b-eq50.true) c.if-b-eq50.true c.begin-none.ensures
    c.mark-k.ensures c.mark.ensures

pub mark_apart-mark_apart-requires-2 : goal.mark_apart-mark_apart-requires-2
mark_apart-mark_apart-requires-2 t c =
    let s = c.start_of-left.ensures in (
      omega (arith, c.decreases, s.before),
      part_walk c.requires s (omega (arith, c.if-b-ge64.false)) c.if-b-eq57.false,
    )

pub mark_apart-returns-then-b-eq56 : goal.mark_apart-returns-then-b-eq56
mark_apart-returns-then-b-eq56 t c =
    let s = c.start_of-left.ensures in
    condition_apart c.requires s (condition_is _ _ _ c.requires.is.ends s c.if-b-eq56.true) c.mark_apart-2.ensures

pub mark_apart-mark_apart-requires-3 : goal.mark_apart-mark_apart-requires-3
mark_apart-mark_apart-requires-3 t c =
    let s = c.start_of-left.ensures in
    let p = vector_pos _ _ _ c.requires.is.ends in (
      omega (arith, c.decreases),
      right_walk c.requires s
          (other_two c.requires.is s (omega (arith, c.if-b-ge64.false)) c.if-b-eq56.false c.if-b-eq57.false)
          c.mark_apart-2.ensures.ready,
    )

pub mark_apart-returns : goal.mark_apart-returns
mark_apart-returns t c =
    let s = c.start_of-left.ensures in
    other_apart c.requires s
    (other_two c.requires.is s (omega (arith, c.if-b-ge64.false)) c.if-b-eq56.false c.if-b-eq57.false)
    c.if-b-eq50.false c.mark_apart-2.ensures c.mark_apart-3.ensures
