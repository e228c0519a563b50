-- `put_began` meets its contract.
use Rattle.began_lines.proofs.ThirdColumn.{at_room, at_put, nowhere_room, nowhere_put}
use Rattle.began_lines.proofs.lines.put_began.Goals as goal

pub put_decimal-requires : goal.put_decimal-requires
put_decimal-requires c = at_room c.in-Some.is c.args.out.now c.args.at c.requires

pub push-requires : goal.push-requires
push-requires c = nowhere_room c.in-None.is c.args.out.now c.args.at c.requires

pub returns-in-Some : goal.returns-in-Some
returns-in-Some c = at_put c.in-Some.is c.put_decimal.ensures

pub returns-in-None : goal.returns-in-None
returns-in-None c = nowhere_put c.in-None.is c.push.ensures
