-- `list_of` stays within the letters and the slots.
use Rattle.event_report.proofs.reports.list_of.Given as goal

abbrev pub invariant-loop-i : goal.invariant-loop-i
invariant-loop-i l = Unit {0}
