-- `put_mark` meets its contract.
use native.Mathlib.Omega.{arith}
use lib.ListN.{length-set}
use Rattle.record_puts.proofs.PutRecords.{mark_put}
use Rattle.record_puts.proofs.puts.put_mark.Goals as goal

pub bounds-out-at-2 : goal.bounds-out-at-2
bounds-out-at-2 c = simp length-set (omega arith)

pub shape_of-out : goal.shape_of-out
shape_of-out c = simp length-set

pub returns : goal.returns
returns c = mark_put _ _ _ _
