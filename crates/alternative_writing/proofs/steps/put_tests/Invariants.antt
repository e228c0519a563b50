-- `put_tests` meets its contract: the first i tests are written.
use Prim.Native.Nat.{◌-◌}
use Rattle.alternative_texts.specs.Inner.{all_tests}
use Rattle.alternative_writing.proofs.StepWalks.{StepSoFar}
use Rattle.alternative_writing.proofs.steps.put_tests.Given as goal

abbrev pub invariant-loop-i : goal.invariant-loop-i
invariant-loop-i l =
    StepSoFar l.names (all_tests l.names l.tree l.edges l.operands) l.t l.n l.initial.out l.at l.i l.out l.p
