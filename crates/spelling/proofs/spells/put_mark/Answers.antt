-- `put_mark` meets its contract, by the table of marks: a mark's three bytes are in it.
use Rattle.spelling.proofs.Tables.{mark_small, mark_word, mark_roomy}
use Rattle.basics.proofs.PartByPart.{put_as}
use native.Mathlib.Omega.{arith}
use Rattle.spelling.proofs.spells.put_mark.Goals as goal

pub overflow_mul-k : goal.overflow_mul-k
overflow_mul-k c = omega (arith, mark_small c.requires, c.mark_of-k.ensures)

pub bounds-t-k : goal.bounds-t-k
bounds-t-k c = omega (arith, mark_small c.requires, c.mark_of-k.ensures)

pub overflow_add-y : goal.overflow_add-y
overflow_add-y c = omega (arith, mark_small c.requires, c.mark_of-k.ensures)

pub bounds-t-k-2 : goal.bounds-t-k-2
bounds-t-k-2 c = omega (arith, mark_small c.requires, c.mark_of-k.ensures)

pub overflow_add-z : goal.overflow_add-z
overflow_add-z c = omega (arith, mark_small c.requires, c.mark_of-k.ensures)

pub bounds-t-k-3 : goal.bounds-t-k-3
bounds-t-k-3 c = omega (arith, mark_small c.requires, c.mark_of-k.ensures)

pub put_three-requires : goal.put_three-requires
put_three-requires c = mark_roomy c.requires c.mark_of-k.ensures

pub returns : goal.returns
returns c = put_as (mark_word c.requires c.mark_of-k.ensures) c.put_three.ensures
