-- `filling::fill_blocks` meets its contract. The loop's invariant is Filling: the rows before `from` are in both lists.
use Prim.Native.Nat.{◌-◌}
use Rattle.alf.specs.Alternatives.{answer_of, tries}
use Rattle.block_answers.proofs.Fillings.{Filling}
use Rattle.matcher.specs.Scenes.{state_on, alternatives_on}
use Rattle.block_answers.proofs.filling.fill_blocks.Given as goal

abbrev pub invariant-loop-from : goal.invariant-loop-from
invariant-loop-from l =
    Filling (answer_of (state_on l.scene) (alternatives_on l.scene l.lists))
    (tries (state_on l.scene) (alternatives_on l.scene l.lists)) l.n
    l.initial.answers l.initial.tried l.answers l.tried l.initial.cols l.cols l.from

abbrev pub decreases-loop-from : goal.decreases-loop-from
decreases-loop-from l = l.n - l.from
