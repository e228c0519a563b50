-- `pass_name` meets its contract.
use native.Mathlib.Omega.{arith}
use Rattle.record_checks.proofs.CursorSteps.{name_fits, pass_name}
use Rattle.record_checks.proofs.checks.pass_name.Goals as goal

pub overflow_add-size : goal.overflow_add-size
overflow_add-size c = omega (arith, name_fits c.requires)

pub byte_at-size-requires : goal.byte_at-size-requires
byte_at-size-requires c = omega (arith, name_fits c.requires)

pub overflow_add-result : goal.overflow_add-result
overflow_add-result c = omega (arith, name_fits c.requires, c.byte_at-size.ensures.is)

pub returns : goal.returns
returns c = pass_name c.requires c.byte_at-size.ensures
