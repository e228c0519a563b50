-- `table::write_counted` meets its contract.
use native.Mathlib.Omega.{arith}
use Rattle.jobs.proofs.TableLines.{line_counted, line_refused}
use Rattle.jobs.proofs.table.write_counted.Goals as goal

pub overflow_cast-n : goal.overflow_cast-n
overflow_cast-n c = omega (arith, c.requires.few _ c.in-Ok.is)

pub returns-in-Ok : goal.returns-in-Ok
returns-in-Ok c = line_counted _ _ c.in-Ok.is c.write_line.ensures

pub returns-in-Err : goal.returns-in-Err
returns-in-Err c = line_refused _ _ c.in-Err.is c.write_refused.ensures
