-- `members_size` meets its contract: the names before the i-th are measured.
use Rattle.row_lines.specs.Lines.{member}
use Rattle.row_lines.specs.Inner.{marked}
use Rattle.row_lines.proofs.InTurn.{Measured}
use Rattle.row_lines.proofs.marked.members_size.Given as goal

abbrev pub invariant-loop-i : goal.invariant-loop-i
invariant-loop-i l = Measured (member l.names (marked l.mask)) l.k 33 l.i l.size
