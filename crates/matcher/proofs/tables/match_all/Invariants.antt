-- `matcher::tables::match_all` meets its contract. The loop's invariant is Filling: the rows before i are in both
-- lists.
use Rattle.matcher.proofs.Filling.{Filling}
use Rattle.matcher.specs.Scenes.{state_on, alternatives_on}
use Rattle.matcher.proofs.tables.match_all.Given as goal

abbrev pub invariant-loop-i : goal.invariant-loop-i
invariant-loop-i l =
    Filling (state_on l.scene) (alternatives_on l.scene l.lists) l.n
    l.initial.answers l.initial.tried l.answers l.tried l.i
