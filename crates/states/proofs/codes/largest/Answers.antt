-- `codes::largest` meets its contract.
use native.Mathlib.Omega.{arith}
use Rattle.std.proofs.lemmas.List.{take_rest}
use Rattle.states.proofs.BadCodes.{bounds_all}
use Rattle.states.proofs.codes.largest.Goals as goal

pub overflow_mul-q : goal.overflow_mul-q
overflow_mul-q c = omega (arith, c.well_formed)

pub returns : goal.returns
returns c = bounds_all c.largest_of_four.ensures (rw take_rest at c.largest_of.ensures) c.max.ensures
