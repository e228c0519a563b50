-- `meeting::match_block` meets its contract. The loop's invariant is Walking: some alternatives are tried at all rows.
use Rattle.blocks.proofs.Trying.{Walking}
use Rattle.blocks.proofs.meeting.match_block.Given as goal

abbrev pub invariant-loop-k : goal.invariant-loop-k
invariant-loop-k l =
    Walking l.lists.steps.now l.lists.tests.now l.slots l.cols l.m l.initial.acc l.initial.best l.initial.tries l.acc l.best l.tries l.s l.t l.k
