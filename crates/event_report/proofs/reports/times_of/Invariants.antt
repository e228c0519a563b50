-- `times_of` stays within what it fills, and ends: the measure is what is left of it.
use Rattle.event_report.proofs.reports.times_of.Given as goal

abbrev pub invariant-loop-i : goal.invariant-loop-i
invariant-loop-i l = Unit {0}
