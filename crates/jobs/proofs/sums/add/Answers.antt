-- `sums::add` meets its contract.
use Rattle.jobs.proofs.Additions.{counted_told, refused_told}
use Rattle.jobs.proofs.sums.add.Goals as goal

pub returns-in-Ok : goal.returns-in-Ok
returns-in-Ok c = counted_told _ c.add_total.ensures c.in-Ok.is

pub returns-in-Err : goal.returns-in-Err
returns-in-Err c = refused_told c.in-Err.is
