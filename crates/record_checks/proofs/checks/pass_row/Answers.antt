-- `pass_row` meets its contract.
use native.Mathlib.Omega.{arith}
use Rattle.record_checks.proofs.CursorSteps.{row_fits, time_there, pass_row}
use Rattle.record_checks.proofs.checks.pass_row.Goals as goal

pub time_at-time-requires : goal.time_at-time-requires
time_at-time-requires c = time_there c.requires

pub overflow_add-result-2 : goal.overflow_add-result-2
overflow_add-result-2 c = omega (arith, row_fits c.requires)

pub overflow_add-result-3 : goal.overflow_add-result-3
overflow_add-result-3 c = omega (arith, row_fits c.requires)

pub returns : goal.returns
returns c = pass_row c.requires c.time_at-time.ensures
