-- `byte_at` meets its contract.
use native.Mathlib.Omega.{arith}
use mathlib.Core.Path.{refl}
use Rattle.trace_format.proofs.parts.byte_at.Goals as goal

pub overflow_cast-result : goal.overflow_cast-result
overflow_cast-result c = omega (arith, c.type_inv.file c.args.at)

pub returns : goal.returns
returns c = record { is = refl; small = omega (arith, c.type_inv.file c.args.at) }
