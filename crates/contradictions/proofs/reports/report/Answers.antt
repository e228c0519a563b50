-- `report` meets its contract: what the lists hold is in use, and stands for the tree's own alternatives.
use Rattle.rewriting.proofs.Holding.{stand_for}
use Rattle.contradictions.proofs.Reporting.{reported, flagged_own, short_flags, flags_delivered}
use Rattle.contradictions.proofs.reports.report.Goals as goal

pub returns-then-flags-a : goal.returns-then-flags-a
returns-then-flags-a c = short_flags c.alternatives_of-a.ensures c.if-flags-a.true c.refuse.ensures

pub flag_all-requires : goal.flag_all-requires
flag_all-requires c =
    reported (stand_for c.alternatives_of-a.ensures c.lists.ensures) c.lists.ensures c.requires.1.1 c.if-flags-a.false

pub returns : goal.returns
returns c =
    flags_delivered c.alternatives_of-a.ensures c.if-flags-a.false
    (flagged_own (stand_for c.alternatives_of-a.ensures c.lists.ensures) c.flag_all.ensures)
