-- `deliver` meets its contract.
use Rattle.rewriting_calls.proofs.Calls.{short_steps, short_tests, short_edges, short_operands, delivered}
use native.Mathlib.Omega.{arith}
use Rattle.rewriting_calls.proofs.deliver.Goals as goal

pub returns-then-steps-l : goal.returns-then-steps-l
returns-then-steps-l c = short_steps _ _ _ _ c.lengths_of-l.ensures c.if-steps-l.true c.refuse.ensures

pub returns-then-tests-l : goal.returns-then-tests-l
returns-then-tests-l c =
    short_tests _ _ _ _ c.lengths_of-l.ensures c.if-steps-l.false c.if-tests-l.true
    c.refuse-then-tests-l.ensures

pub returns-then-edges-l : goal.returns-then-edges-l
returns-then-edges-l c =
    short_edges _ _ _ _ c.lengths_of-l.ensures c.if-steps-l.false c.if-tests-l.false c.if-edges-l.true
    c.refuse-then-edges-l.ensures

pub returns-then-operands-l : goal.returns-then-operands-l
returns-then-operands-l c =
    short_operands _ _ _ _ c.lengths_of-l.ensures c.if-steps-l.false c.if-tests-l.false c.if-edges-l.false
    c.if-operands-l.true c.refuse-then-operands-l.ensures

pub fill-requires : goal.fill-requires
fill-requires c = (
  record {
    ready = c.requires.0;
    steps_room = omega (arith, c.lengths_of-l.ensures.alternatives_are, c.if-steps-l.false);
    tests_room = omega (arith, c.lengths_of-l.ensures.steps_are, c.if-tests-l.false);
    edges_room = omega (arith, c.lengths_of-l.ensures.tests_are, c.if-edges-l.false);
    operands_room = omega (arith, c.lengths_of-l.ensures.tests_are, c.if-operands-l.false);
  },
  c.requires.1,
)

pub returns : goal.returns
returns c =
    delivered _ _ _ _ c.lengths_of-l.ensures c.if-steps-l.false c.if-tests-l.false c.if-edges-l.false
    c.if-operands-l.false c.fill.ensures
