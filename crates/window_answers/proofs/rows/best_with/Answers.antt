-- `rows::best_with` meets its contract.
use native.Mathlib.Omega.{arith}
use Rattle.trees.proofs.Starts.{of_vector, ends_pos}
use Rattle.window_answers.proofs.FromTables.{pattern_fillable, filled_best}
use Rattle.window_answers.proofs.rows.best_with.Goals as goal

pub blank-table-requires : goal.blank-table-requires
blank-table-requires c = tt

pub fill-requires : goal.fill-requires
fill-requires c =
    let s = c.requires in
    let e = c.longest.ensures in
    let l = c.min-n.ensures in
    pattern_fillable s.pattern s.pins (omega arith) (omega arith) s.within c.blank-table.ensures

pub overflow_sub-end : goal.overflow_sub-end
overflow_sub-end c = ends_pos (of_vector c.requires.pattern.ends)

pub returns : goal.returns
returns c =
    let s = c.requires in
    let e = c.longest.ensures in
    let l = c.min-n.ensures in
    filled_best s.pattern c.fill.ensures (omega arith) (omega arith) c.best_of.ensures
