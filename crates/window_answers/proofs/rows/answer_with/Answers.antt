-- `rows::answer_with` meets its contract.
use mathlib.Core.Path.{sym}
use native.Mathlib.Omega.{arith}
use Rattle.trees.proofs.Starts.{of_vector, ends_pos}
use Rattle.alf.proofs.WindowBounds.{no_event}
use Rattle.window_answers.proofs.PinnedLengths.{placed_too_long}
use Rattle.window_answers.proofs.FromTables.{pattern_fillable, filled_answer}
use Rattle.window_answers.proofs.rows.answer_with.Goals as goal

pub returns-then-b-a : goal.returns-then-b-a
returns-then-b-a c = sym (no_event _ _ _ _ c.if-b-a.true)

pub returns-then-longest-n : goal.returns-then-longest-n
returns-then-longest-n c =
    let e = c.longest.ensures in
    let l = c.if-longest-n.true in
    sym (placed_too_long _ _ _ _ _ _ _ (omega arith))

pub blank-table-requires : goal.blank-table-requires
blank-table-requires c = tt

pub fill-requires : goal.fill-requires
fill-requires c =
    let e = c.longest.ensures in
    let l = c.if-longest-n.false in
    pattern_fillable c.requires.pattern c.requires.pins (omega arith) (omega arith) c.requires.within c.blank-table.ensures

pub overflow_sub-end : goal.overflow_sub-end
overflow_sub-end c = ends_pos (of_vector c.requires.pattern.ends)

pub read-requires : goal.read-requires
read-requires c =
    let s = c.requires.pattern in
    let e = c.longest.ensures in
    let l = c.if-longest-n.false in
    let p = s.short in
    let f = c.fill.ensures in
    record { some = omega arith; last = omega arith; room = omega (arith, s.few); long = f.long }

pub returns : goal.returns
returns c =
    let s = c.requires.pattern in
    filled_answer s c.fill.ensures (omega arith) (omega arith) c.read.ensures
