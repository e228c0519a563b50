-- `put_rows` meets its contract: the lines of the rows before i are written.
use lib.ListN.{length}
use Rattle.row_lines.proofs.InTurn.{Written}
use Rattle.began_listings.specs.Inner.{row_text}
use Rattle.matcher.specs.Scenes.{state_on, alternatives_on}
use Rattle.began_listings.proofs.rows.put_rows.Given as goal

abbrev pub invariant-loop-i : goal.invariant-loop-i
invariant-loop-i l =
    Written
    (row_text (state_on l.scene) l.times (alternatives_on l.scene l.lists))
    (length l.times) l.initial.out l.at l.i l.out l.p
