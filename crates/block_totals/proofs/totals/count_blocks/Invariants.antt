-- `totals::count_blocks` meets its contract. The loop's invariant is Counting: the totals of the rows before `from`.
use Prim.Native.Nat.{◌-◌}
use Rattle.alf.specs.Alternatives.{answer_of}
use Rattle.block_totals.proofs.Countings.{Counting}
use Rattle.matcher.specs.Scenes.{state_on, alternatives_on}
use Rattle.block_totals.proofs.totals.count_blocks.Given as goal

abbrev pub invariant-loop-from : goal.invariant-loop-from
invariant-loop-from l =
    Counting (answer_of (state_on l.scene) (alternatives_on l.scene l.lists)) l.n
    l.initial.cols l.cols l.yes l.no l.unknown l.from

abbrev pub decreases-loop-from : goal.decreases-loop-from
decreases-loop-from l = l.n - l.from
