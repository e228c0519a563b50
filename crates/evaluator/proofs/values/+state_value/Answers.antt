-- `values::state` and `values::value` meet their contracts, by recursion on the bytes before `end`.
use Rattle.std.proofs.Common.{arith}
use Rattle.trees.proofs.Starts.{of_boolean}
use Rattle.evaluator.proofs.Booleans.{some_bytes, operator_known, right_ends, left_ends, first_ends}
use Rattle.evaluator.proofs.Booleans.{name_room, name_state, literal_state, negation_state, binary_state}
use Rattle.evaluator.proofs.Booleans.{choice_state, value_state}
use Rattle.evaluator.proofs.values.+state_value.Goals as goal

pub state-overflow_sub-at : goal.state-overflow_sub-at
state-overflow_sub-at t c = some_bytes c.requires.ends_boolean

pub state-bounds-tree-at : goal.state-bounds-tree-at
state-bounds-tree-at t c = let p = some_bytes c.requires.ends_boolean in omega (arith, c.requires.ends_boolean.within)

pub state-bounds-states-i : goal.state-bounds-states-i
state-bounds-states-i t c = name_room c.requires.ends_boolean c.requires.within c.if-b-lt32.true

pub state-returns-then-b-lt32 : goal.state-returns-then-b-lt32
state-returns-then-b-lt32 t c = name_state c.requires.ends_boolean c.requires.within _ c.if-b-lt32.true

pub state-returns-then-b-lt40 : goal.state-returns-then-b-lt40
state-returns-then-b-lt40 t c =
    literal_state c.requires.ends_boolean c.requires.within _ c.if-b-lt32.false c.if-b-lt40.true

pub state-state-requires : goal.state-state-requires
state-state-requires t c =
    let p = some_bytes c.requires.ends_boolean in
    (omega (arith, c.decreases), (right_ends c.requires.ends_boolean c.if-b-lt40.false, c.requires.within))

pub state-returns-then-b-ge64 : goal.state-returns-then-b-ge64
state-returns-then-b-ge64 t c =
    negation_state c.requires.ends_boolean c.requires.within _ c.if-b-ge64.true c.state.ensures c.not_of.ensures

pub state-start_of-left-requires : goal.state-start_of-left-requires
state-start_of-left-requires t c = of_boolean (right_ends c.requires.ends_boolean c.if-b-lt40.false)

pub state-state-x-requires : goal.state-state-x-requires
state-state-x-requires t c =
    let g = c.start_of-left.ensures in
    let q = g.before in (
      omega (arith, c.decreases),
      (left_ends c.requires.ends_boolean c.if-b-lt40.false c.if-b-ge64.false g, c.requires.within),
    )

pub state-state-y-requires : goal.state-state-y-requires
state-state-y-requires t c =
    let p = some_bytes c.requires.ends_boolean in
    (omega (arith, c.decreases), (right_ends c.requires.ends_boolean c.if-b-lt40.false, c.requires.within))

pub state-operated-requires : goal.state-operated-requires
state-operated-requires t c = record {
  first = c.if-b-lt40.false;
  last = operator_known c.requires.ends_boolean c.if-b-lt40.false c.if-b-lt60.true;
  left = c.state-x.ensures.code;
  right = c.state-y.ensures.code;
}

pub state-returns-then-b-lt60 : goal.state-returns-then-b-lt60
state-returns-then-b-lt60 t c =
    binary_state c.requires.ends_boolean c.requires.within _ c.if-b-lt40.false c.if-b-lt60.true c.start_of-left.ensures
    c.state-x.ensures c.state-y.ensures c.operated.ensures

pub state-start_of-first-requires : goal.state-start_of-first-requires
state-start_of-first-requires t c =
    of_boolean (left_ends c.requires.ends_boolean c.if-b-lt40.false c.if-b-ge64.false c.start_of-left.ensures)

pub state-state-c-requires : goal.state-state-c-requires
state-state-c-requires t c =
    let g = c.start_of-left.ensures in
    let f = c.start_of-first.ensures in
    let p = g.before in
    let q = f.before in (
      omega (arith, c.decreases),
      (first_ends c.requires.ends_boolean c.if-b-lt60.false c.if-b-ge64.false g f, c.requires.within),
    )

pub state-value-x-requires : goal.state-value-x-requires
state-value-x-requires t c =
    let g = c.start_of-left.ensures in
    let p = g.before in (
      omega (arith, c.decreases),
      (left_ends c.requires.ends_boolean c.if-b-lt40.false c.if-b-ge64.false g, c.requires.within),
    )

pub state-value-y-requires : goal.state-value-y-requires
state-value-y-requires t c =
    let p = some_bytes c.requires.ends_boolean in
    (omega (arith, c.decreases), (right_ends c.requires.ends_boolean c.if-b-lt40.false, c.requires.within))

pub state-returns : goal.state-returns
state-returns t c =
    choice_state c.requires.ends_boolean c.requires.within _ c.if-b-lt60.false c.if-b-ge64.false
    c.start_of-left.ensures c.start_of-first.ensures c.state-c.ensures c.value-x.ensures c.value-y.ensures
    c.choose.ensures

pub value-overflow_sub-at : goal.value-overflow_sub-at
value-overflow_sub-at t c = some_bytes c.requires.ends_boolean

pub value-bounds-tree-at : goal.value-bounds-tree-at
value-bounds-tree-at t c = let p = some_bytes c.requires.ends_boolean in omega (arith, c.requires.ends_boolean.within)

pub value-returns : goal.value-returns
value-returns t c =
    value_state c.requires.ends_boolean c.requires.within _ c.state-x.ensures c.settle.ensures
