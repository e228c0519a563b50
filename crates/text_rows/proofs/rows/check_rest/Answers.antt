-- `check_rest` meets its contract.
use native.Mathlib.Omega.{arith}
use Rattle.std.proofs.lemmas.Result.{err_from_is_err_and}
use Rattle.alf.specs.Refusals.{Comes}
use Rattle.text_rows.proofs.RowChecks.{rest_refused, rest_passed, rest_more, rest_end}
use Rattle.text_rows.proofs.rows.check_rest.Goals as goal

pub check_states-requires : goal.check_states-requires
check_states-requires c = c.requires

pub returns-in_err-check_states : goal.returns-in_err-check_states
returns-in_err-check_states c =
    let p = err_from_is_err_and c.from_residual.result c.from_residual.ensures.1 in
    rw (p.1, p.2) (rest_refused _ _ _ _ _ _ c.in_err-check_states.ensures)

pub returns-then-wide : goal.returns-then-wide
unfolding Comes
returns-then-wide c = rest_passed _ _ _ _ c.in_ok-check_states.ensures.0 c.if-wide.true

pub overflow_add-k : goal.overflow_add-k
overflow_add-k c = omega (arith, c.requires.few)

pub find_word-s-requires : goal.find_word-s-requires
find_word-s-requires c = c.requires.within

pub returns-then-s : goal.returns-then-s
unfolding Comes
returns-then-s c =
    rest_more _ _ _ _ c.in_ok-check_states.ensures.0 c.find_word-s.ensures _ c.if-wide.false c.if-s.true
    c.refuse.ensures

pub returns : goal.returns
unfolding Comes
returns c = rest_end _ _ _ _ c.in_ok-check_states.ensures.0 c.find_word-s.ensures c.if-s.false
