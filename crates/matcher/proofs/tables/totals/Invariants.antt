-- `matcher::tables::totals` meets its contract. The loop's invariant is Counting: the totals of the rows before i.
use Rattle.matcher.proofs.Filling.{Counting}
use Rattle.matcher.specs.Scenes.{state_on, alternatives_on}
use Rattle.matcher.proofs.tables.totals.Given as goal

abbrev pub invariant-loop-i : goal.invariant-loop-i
invariant-loop-i l =
    Counting (state_on l.scene) (alternatives_on l.scene l.lists) l.n l.yes l.no l.unknown l.i
