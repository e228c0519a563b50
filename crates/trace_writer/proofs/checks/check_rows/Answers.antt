use native.Mathlib.Omega.{arith}
use borrow.Author.Rules.{rules}
use mathlib.Core.Path.{◌≡◌, refl}
use Prim.Native.Nat.{◌+◌, ◌<◌, ◌≤◌}
use native.Mathlib.Nat.{add-zero, mul-le-mul_right}
use lib.ListN.{length}
use Rattle.trace_format.proofs.RowByRow.{room_for}
use Rattle.trace_writer.proofs.RowOrders.{row_late, row_bad, row_passes, rows_none, rows_passed}
use Rattle.trace_writer.proofs.RowOrders.{next_place}
use Rattle.trace_writer.proofs.checks.check_rows.Goals as goal
use Rattle.trace_writer.proofs.checks.check_rows.Goals.{In-loop-i}

-- the codes of the row are there
codes_there : (c : In-loop-i)
    → c.loop-i.from + c.args.k ≤ length c.args.states.now
codes_there c =
    let inside : c.args.first + c.loop-i.i < c.args.first + c.args.many =
    omega (arith, c.loop-i-test.true) in
    omega (arith, room_for _ _ c.args.k inside, c.loop-i.invariant.1, c.requires.states_all)

pub overflow_mul-from : goal.overflow_mul-from
overflow_mul-from c =
    let fits : c.args.first ≤ c.args.first + c.args.many = omega arith in
    omega (arith, mul-le-mul_right c.args.k fits, c.requires.states_all)

pub loop-i-init : goal.loop-i-init
loop-i-init c = (search rules, rw add-zero refl, rows_none _ _ _ _)

pub overflow_add-r : goal.overflow_add-r
overflow_add-r c = omega (arith, c.loop-i-test.true, c.requires.times_all)

pub is_later-requires : goal.is_later-requires
is_later-requires c = omega (arith, c.loop-i-test.true, c.requires.times_all)

pub returns-then-not-is_later : goal.returns-then-not-is_later
returns-then-not-is_later c =
    row_late _ _ _ _ _ c.loop-i-test.true c.loop-i.invariant.2
    c.is_later.ensures c.refuse.ensures
    c.if-not-is_later.true

pub overflow_add-to : goal.overflow_add-to
overflow_add-to c = omega (arith, codes_there (goal.at.overflow_add-to c).In-loop-i)

pub codes_to-bad-requires : goal.codes_to-bad-requires
codes_to-bad-requires c = (search rules, codes_there (goal.at.codes_to-bad-requires c).In-loop-i)

pub returns-then-bad-to : goal.returns-then-bad-to
returns-then-bad-to c =
    row_bad _ _ _ _ _ c.loop-i-test.true
    c.loop-i.invariant.2
    c.is_later.ensures
    c.if-not-is_later.false
    c.loop-i.invariant.1 c.codes_to-bad.ensures
    c.refuse-then-bad-to.ensures
    c.if-bad-to.true

pub loop-i-preserved : goal.loop-i-preserved
loop-i-preserved c = (
  search rules,
  next_place _ _ _ c.loop-i.invariant.1,
  row_passes _ _ _ _ (λ m. m ≡ m) c.loop-i-test.true
      c.loop-i.invariant.2 c.is_later.ensures
      c.if-not-is_later.false c.loop-i.invariant.1
      c.codes_to-bad.ensures c.if-bad-to.false,
)

pub returns : goal.returns
returns c = rows_passed _ _ _ _ (omega arith) c.loop-i.invariant.2
