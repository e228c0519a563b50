use native.Mathlib.Omega.{arith}
use Rattle.answer_table.proofs.Cells.{far_first, far_again, far_next}
use Rattle.answer_table.proofs.Stored.{row_first, row_next, row_last}
use Rattle.answer_table.proofs.parts.leaf_row.Goals as goal

pub held_next-x-requires : goal.held_next-x-requires
held_next-x-requires c =
    let s = c.requires in
    let l = s.from in
    record { last = omega (arith, s.part.most); code = s.part.codes _ (omega arith); long = s.part.cells }

pub loop-j-init : goal.loop-j-init
loop-j-init c =
    let s = c.requires in
    (omega arith, omega (arith, s.from), row_first s.part.long, far_first c.held_next-x.ensures)

pub leaf_over-x-requires : goal.leaf_over-x-requires
leaf_over-x-requires c =
    let s = c.requires.part in record {
      cells = record {
        some = omega (arith, c.loop-j.invariant.0);
        last = omega (arith, s.most);
        codes = λ i l. s.codes i (omega arith);
        long = s.cells;
      };
      so_far = far_again c.loop-j.invariant.3;
    }

pub overflow_mul-i : goal.overflow_mul-i
overflow_mul-i c = let s = c.requires.part in omega (arith, s.most, s.room)

pub overflow_add-i : goal.overflow_add-i
overflow_add-i c = let s = c.requires.part in omega (arith, s.most, s.room)

pub overflow_add-i-in-loop-j : goal.overflow_add-i-in-loop-j
overflow_add-i-in-loop-j c = let s = c.requires.part in omega (arith, s.most, s.room)

pub bounds-table-i : goal.bounds-table-i
bounds-table-i c = let s = c.requires.part in omega (arith, s.most, s.room)

pub loop-j-preserved : goal.loop-j-preserved
loop-j-preserved c =
    let l = c.loop-j.invariant in
    let s = c.requires.part in
    let e = c.leaf_over-x.ensures in
    (omega arith, omega arith, row_next l.2 l.0 (omega (arith, s.most)) s.room e, far_next e)

pub returns : goal.returns
returns c = row_last c.loop-j.invariant.2 c.loop-j-test.false
