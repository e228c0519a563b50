-- `states_of` stays within the report and what it fills.
use Rattle.event_report.proofs.reports.states_of.Given as goal

abbrev pub invariant-loop-i : goal.invariant-loop-i
invariant-loop-i l = Unit {0}
