-- `rewriting::lists::lengths_of` meets its contract. The loop's invariant: the steps and tests of the alternatives
-- passed.
use Rattle.rewriting.specs.Lists.{alternatives_by}
use Rattle.rewriting.proofs.Filling.{Counting}
use Rattle.rewriting.proofs.lists.lengths_of.Given as goal

abbrev pub invariant-loop-t : goal.invariant-loop-t
invariant-loop-t l =
    Counting (alternatives_by l.pins l.tree l.names) l.steps l.tests l.t
