-- `has_sort` meets its contract.
use Rattle.reader.specs.Reads.{has_sort}
use Rattle.reader.proofs.has_sort.Goals as goal

pub returns-in-Boolean : goal.returns-in-Boolean
unfolding has_sort
returns-in-Boolean c = rw c.in-Boolean.is

pub returns-in-Vector : goal.returns-in-Vector
unfolding has_sort
returns-in-Vector c = rw c.in-Vector.is
