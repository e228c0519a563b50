-- `put_lines` meets its contract: the lines of the first k alternatives are written.
use Rattle.alternative_texts.specs.Inner.{all_tests}
use Rattle.alternative_lines.proofs.LineParts.{LinesSoFar}
use Rattle.alternative_lines.proofs.numbered.put_lines.Given as goal

abbrev pub invariant-loop-k : goal.invariant-loop-k
invariant-loop-k l =
    LinesSoFar l.names l.steps l.tests l.flags (all_tests l.names l.tree l.edges l.operands) l.initial.out l.at l.s l.t l.k l.out l.p
