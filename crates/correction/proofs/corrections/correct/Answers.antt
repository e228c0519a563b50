-- `corrections::correct` meets its contract.
use native.Mathlib.Omega.{arith}
use Rattle.correction.proofs.Correcting.{row_fits, row_room, rewrite_asked, corrects}
use Rattle.correction.proofs.corrections.correct.Goals as goal

pub overflow_mul-r : goal.overflow_mul-r
overflow_mul-r c =
    let f = row_fits c.requires in
    omega (arith, c.well_formed)

pub put-requires : goal.put-requires
put-requires c = row_room c.requires

pub rewrite-requires : goal.rewrite-requires
rewrite-requires c = rewrite_asked c.requires c.put.ensures c.longest-k.ensures c.reached-m.ensures

pub returns : goal.returns
returns c =
    corrects c.requires c.put.ensures c.longest-k.ensures c.reached-m.ensures
    c.rewrite.ensures
