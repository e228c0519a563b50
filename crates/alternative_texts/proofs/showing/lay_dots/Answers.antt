-- `lay_dots` meets its contract.
use native.Mathlib.Omega.{arith}
use Rattle.basics.proofs.PartByPart.{held}
use Rattle.basics.specs.Text.{bytes}
use Rattle.alternative_texts.proofs.showing.lay_dots.Goals as goal

pub returns : goal.returns
unfolding bytes
returns c = held c.put.ensures (omega arith)
