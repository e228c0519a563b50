-- `lay_number` meets its contract.
use native.Mathlib.Omega.{arith}
use Rattle.basics.proofs.PartByPart.{held}
use Rattle.figures.proofs.Digits.{decimal_short}
use Rattle.alternative_lines.proofs.numbered.lay_number.Goals as goal

pub put_decimal-requires : goal.put_decimal-requires
put_decimal-requires c = let h = decimal_short c.args.n c.ranges.n in omega arith

pub returns : goal.returns
returns c = let h = decimal_short c.args.n c.ranges.n in held c.put_decimal.ensures (omega arith)
