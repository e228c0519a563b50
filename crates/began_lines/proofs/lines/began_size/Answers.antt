-- `began_size` meets its contract.
use Rattle.began_lines.proofs.ThirdColumn.{at_size, nowhere_size}
use Rattle.began_lines.proofs.lines.began_size.Goals as goal

pub returns-in-Some : goal.returns-in-Some
returns-in-Some c = at_size c.in-Some.is c.width_of.ensures

pub returns-in-None : goal.returns-in-None
returns-in-None c = nowhere_size c.in-None.is
