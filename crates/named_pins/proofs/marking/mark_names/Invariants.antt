-- `marking::mark_names` meets its contract.
use Rattle.named_pins.proofs.Joined.{Marking}
use Rattle.named_pins.proofs.marking.mark_names.Given as goal

abbrev pub invariant-loop-b : goal.invariant-loop-b
invariant-loop-b l = Marking l.tree l.initial.kept l.kept l.b-index
