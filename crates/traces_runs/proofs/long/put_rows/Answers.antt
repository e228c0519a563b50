use mathlib.Core.Path.{refl}
use borrow.Author.Rules.{rules}
use Rattle.traces_runs.proofs.long.put_rows.Goals as goal

pub loop-r-init : goal.loop-r-init
loop-r-init c = (search rules, refl)

pub loop-r-preserved : goal.loop-r-preserved
loop-r-preserved c = (search rules, cc)

pub shape_of-out : goal.shape_of-out
shape_of-out c = c.loop-r.invariant.1
