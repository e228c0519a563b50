-- `meeting::meet_steps` meets its contract. The loop's invariant is Stepping: some steps of the alternative are met.
use Rattle.blocks.proofs.Passes.{Stepping}
use Rattle.blocks.proofs.meeting.meet_steps.Given as goal

abbrev pub invariant-loop-j : goal.invariant-loop-j
invariant-loop-j l = Stepping l.tests l.slots l.s l.n l.t l.cols l.m l.initial.acc l.acc l.at l.j
