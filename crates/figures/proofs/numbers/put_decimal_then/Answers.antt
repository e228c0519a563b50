-- `put_decimal_then` meets its contract.
use native.Mathlib.Omega.{arith}
use lib.ListN.{length-append}
use Rattle.basics.proofs.PartByPart.{put_then, put_length}
use Rattle.figures.specs.Numbers.{decimal}
use Rattle.figures.proofs.numbers.put_decimal_then.Goals as goal

pub put_decimal-p-requires : goal.put_decimal-p-requires
put_decimal-p-requires c = omega (arith, c.requires, length-append (decimal c.args.n) c.args.word.now)

pub put-requires : goal.put-requires
put-requires c =
    let p = c.put_decimal-p.ensures in
    omega (arith, c.requires, p.next, put_length p, length-append (decimal c.args.n) c.args.word.now)

pub returns : goal.returns
returns c = put_then c.put_decimal-p.ensures c.put.ensures
