-- `put_decimal` meets its contract.
use Rattle.figures.proofs.DigitByDigit.{decimal_room, decimal_put}
use Rattle.figures.proofs.numbers.put_decimal.Goals as goal

pub put_digits-requires : goal.put_digits-requires
put_digits-requires c = decimal_room c.args.out.now c.args.at c.width_of.ensures c.requires

pub returns : goal.returns
returns c = decimal_put c.width_of.ensures c.put_digits.ensures
