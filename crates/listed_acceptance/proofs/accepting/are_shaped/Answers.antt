-- `accepting::are_shaped` meets its contract.
use mathlib.Core.Path.{ap}
use mathlib.Core.Bool.{not}
use native.Mathlib.Omega.{arith}
use Rattle.basics.specs.Deciding.{Decides}
use Rattle.basics.proofs.Deciding.{said, decided_no, told, same_decided}
use Rattle.listed_acceptance.proofs.accepting.are_shaped.Goals as goal

pub returns-then-steps-eq0 : goal.returns-then-steps-eq0
unfolding Decides
returns-then-steps-eq0 c = λ s. omega (arith, s.some, c.if-steps-eq0.true)

pub returns-then-steps-gt64 : goal.returns-then-steps-gt64
unfolding Decides
returns-then-steps-gt64 c = λ s. omega (arith, s.few, c.if-steps-gt64.true)

pub returns-then-operands-edges : goal.returns-then-operands-edges
unfolding Decides
returns-then-operands-edges c = λ s. c.if-operands-edges.true s.all_operands

pub returns-then-not-are_stepped : goal.returns-then-not-are_stepped
unfolding Decides
returns-then-not-are_stepped c =
    λ s.
    decided_no c.are_stepped.result c.are_stepped.ensures (ap not c.if-not-are_stepped.true) s.stepped

pub returns-then-not-sums_to : goal.returns-then-not-sums_to
unfolding Decides
returns-then-not-sums_to c =
    λ s.
    decided_no c.sums_to.result c.sums_to.ensures (ap not c.if-not-sums_to.true) s.all_steps

pub returns-then-not-sums_to-2 : goal.returns-then-not-sums_to-2
unfolding Decides
returns-then-not-sums_to-2 c =
    λ s.
    decided_no c.sums_to-2.result c.sums_to-2.ensures (ap not c.if-not-sums_to-2.true) s.all_tests_lem

pub are_light-requires : goal.are_light-requires
are_light-requires c = omega (arith, told _ c.sums_to.ensures (said _ (ap not c.if-not-sums_to.false)))

pub returns : goal.returns
returns c =
    let stepped = told _ c.are_stepped.ensures (said _ (ap not c.if-not-are_stepped.false)) in
    let steps = told _ c.sums_to.ensures (said _ (ap not c.if-not-sums_to.false)) in
    let tests = told _ c.sums_to-2.ensures (said _ (ap not c.if-not-sums_to-2.false)) in
    same_decided _ _ _
    (λ l. record {
      some = omega (arith, c.if-steps-eq0.false);
      few = c.if-steps-gt64.false;
      all_operands = c.if-operands-edges.false;
      stepped = stepped;
      all_steps = steps;
      all_tests_lem = tests;
      light = l;
    })
    (λ s. s.light) c.are_light.ensures
