-- `rewriting::lists::put_alternative` meets its contract. The loop's invariant: the steps passed are written.
use Rattle.rewriting.specs.Lists.{alternative_of}
use Rattle.rewriting.proofs.Filling.{Walking}
use Rattle.rewriting.proofs.lists.put_alternative.Given as goal

abbrev pub invariant-loop-j : goal.invariant-loop-j
invariant-loop-j l =
    Walking (alternative_of l.pins l.tree l.names l.t) l.initial.tests l.s l.initial.edges l.initial.operands l.from l.tests l.edges l.operands l.at l.j
