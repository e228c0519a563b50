-- `meeting::meet_step` meets its contract. The loop's invariant is Asking: some tests of the step are met.
use Rattle.blocks.proofs.Passes.{Asking}
use Rattle.blocks.proofs.meeting.meet_step.Given as goal

abbrev pub invariant-loop-i : goal.invariant-loop-i
invariant-loop-i l = Asking l.slots l.t l.q l.cols l.d l.m l.initial.acc l.acc l.i
