-- `rewriting::lists::fill` meets its contract. The loop's invariant: the alternatives passed are written.
use Rattle.rewriting.specs.Lists.{alternatives_by}
use Rattle.rewriting.proofs.Filling.{Filling}
use Rattle.rewriting.proofs.lists.fill.Given as goal

abbrev pub invariant-loop-t : goal.invariant-loop-t
invariant-loop-t l =
    Filling (alternatives_by l.pins l.tree l.names) l.initial.steps l.initial.tests l.initial.edges l.initial.operands l.steps l.tests l.edges l.operands l.s l.from l.t
