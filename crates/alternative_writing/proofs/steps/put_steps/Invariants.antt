-- `put_steps` meets its contract: the first j steps are written.
use Prim.Native.Nat.{◌-◌}
use Rattle.alternative_texts.specs.Inner.{all_tests}
use Rattle.alternative_writing.proofs.AlternativeWalks.{AlternativeSoFar}
use Rattle.alternative_writing.proofs.steps.put_steps.Given as goal

abbrev pub invariant-loop-j : goal.invariant-loop-j
invariant-loop-j l =
    AlternativeSoFar l.names l.tests (all_tests l.names l.tree l.edges l.operands) l.s l.n l.t l.initial.out l.at l.u l.j l.out l.p
