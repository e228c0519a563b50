-- `lines_size` meets its contract: the lines of the first i rows are measured.
use Rattle.listing.proofs.RowByRow.{Sizing}
use Rattle.listing.proofs.lines.lines_size.Given as goal

abbrev pub invariant-loop-i : goal.invariant-loop-i
invariant-loop-i l = Sizing l.column l.times l.codes l.size l.i
