use Prim.Native.Nat.{◌+◌}
use mathlib.Core.Path.{◌≡◌, ◌∙◌}
use native.Mathlib.Omega.{arith}
use Rattle.answer_table.specs.Tables.{stored, operated}
use Rattle.answer_table.proofs.Stored.{row_first, row_next, row_last}
use Rattle.answer_table.proofs.Kept.{row_kept, operated_kept}
use Rattle.answer_table.proofs.parts.operator_row.Goals as goal

-- what the operator makes of the parts now is what it made of them at the start
asked : (c : goal.After-operate-x)
    → c.operate-x.result ≡ operated c.args.k
    (stored c.args.table.now c.args.p)
    (stored c.args.table.now c.args.q)
    c.args.a (c.loop-j.j + 1)
asked c =
    let l = c.loop-j.invariant in
    let s = c.requires.part in
    c.operate-x.ensures
    ∙ operated_kept _ _ _ _ _ _ _ (omega (arith, l.0)) (omega (arith, s.most)) (row_kept _ l.2 s.left)
    (row_kept _ l.2 s.right)

pub loop-j-init : goal.loop-j-init
loop-j-init c = (omega arith, omega (arith, c.requires.from), row_first c.requires.part.long)

pub operate-x-requires : goal.operate-x-requires
operate-x-requires c =
    let l = c.loop-j.invariant in
    let s = c.requires.part in record {
      operands = record {
        some = omega (arith, l.0);
        last = omega (arith, s.most);
        left = omega (arith, s.left, s.room);
        right = omega (arith, s.right, s.room);
        long = l.2.long;
      };
      operator_byte = s.byte;
    }

pub overflow_mul-i : goal.overflow_mul-i
overflow_mul-i c = let s = c.requires.part in omega (arith, s.most, s.room)

pub overflow_add-i : goal.overflow_add-i
overflow_add-i c = let s = c.requires.part in omega (arith, s.most, s.room)

pub overflow_add-i-in-loop-j : goal.overflow_add-i-in-loop-j
overflow_add-i-in-loop-j c = let s = c.requires.part in omega (arith, s.most, s.room)

pub bounds-table-i : goal.bounds-table-i
bounds-table-i c = let s = c.requires.part in omega (arith, s.most, s.room)

pub loop-j-preserved : goal.loop-j-preserved
loop-j-preserved c =
    let l = c.loop-j.invariant in
    let s = c.requires.part in
    (omega arith, omega arith, row_next l.2 l.0 (omega (arith, s.most)) s.room (asked (c.before)))

pub returns : goal.returns
returns c = row_last c.loop-j.invariant.2 c.loop-j-test.false
