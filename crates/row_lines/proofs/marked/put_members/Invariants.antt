-- `put_members` meets its contract: the names before the i-th are written.
use Rattle.row_lines.specs.Lines.{member}
use Rattle.row_lines.specs.Inner.{marked}
use Rattle.row_lines.proofs.InTurn.{Written}
use Rattle.row_lines.proofs.marked.put_members.Given as goal

abbrev pub invariant-loop-i : goal.invariant-loop-i
invariant-loop-i l = Written (member l.names (marked l.mask)) l.k l.initial.out l.at l.i l.out l.p
