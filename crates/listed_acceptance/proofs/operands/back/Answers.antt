-- `operands::back` meets its contract.
use native.Mathlib.Omega.{arith}
use Rattle.listed_acceptance.proofs.operands.back.Goals as goal

pub returns-then-end-most : goal.returns-then-end-most
returns-then-end-most c = omega (arith, c.if-end-most.true)

pub returns : goal.returns
returns c = omega (arith, c.if-end-most.false)
