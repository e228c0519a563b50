-- `numbering::number` meets its contract. The loop's invariant is Numbering: the tests before t have their columns.
use Rattle.blocks.proofs.Columns.{Numbering}
use Rattle.blocks.proofs.numbering.number.Given as goal

abbrev pub invariant-loop-t : goal.invariant-loop-t
invariant-loop-t l =
    Numbering l.tree l.lists.edges.now l.lists.operands.now l.initial.kinds l.initial.ends l.initial.slots l.kinds l.ends l.slots l.many l.t
