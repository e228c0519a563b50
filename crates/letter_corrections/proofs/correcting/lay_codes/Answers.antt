-- `correcting::lay_codes` meets its contract.
use native.Mathlib.Omega.{arith}
use lib.ListN.{length-map}
use Rattle.basics.proofs.PartByPart.{held}
use Rattle.state_letters.specs.Letters.{state_of}
use Rattle.letter_corrections.proofs.correcting.lay_codes.Goals as goal

pub put_codes-requires : goal.put_codes-requires
put_codes-requires c = omega (arith, length-map c.args.letters.now state_of, c.requires)

pub returns : goal.returns
returns c = held c.put_codes.ensures (omega (arith, length-map c.args.letters.now state_of, c.requires))
