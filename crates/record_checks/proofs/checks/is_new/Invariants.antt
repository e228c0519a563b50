-- `is_new` meets its contract.
use Rattle.record_checks.proofs.NameWalk.{Walk}
use Rattle.record_checks.proofs.checks.is_new.Given as goal

abbrev pub invariant-loop-j : goal.invariant-loop-j
invariant-loop-j l = Walk l.file l.k l.at l.q l.j
