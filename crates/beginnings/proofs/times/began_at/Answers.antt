-- `times::began_at` meets its contract.
use Rattle.beginnings.proofs.Marking.{turned_down, time_asked, told}
use Rattle.beginnings.proofs.times.began_at.Goals as goal

pub returns-then-not-said : goal.returns-then-not-said
returns-then-not-said c = turned_down c.requires c.if-not-said.true

pub time_from-requires : goal.time_from-requires
time_from-requires c = time_asked c.requires c.if-not-said.false

pub returns : goal.returns
returns c = told c.requires c.if-not-said.false c.time_from.ensures
