-- `check_head` meets its contract.
use native.Mathlib.Omega.{arith}
use Rattle.std.proofs.lemmas.Result.{err_from_is_err_and}
use Rattle.alf.specs.Refusals.{Comes}
use Rattle.text_heads.proofs.HeadChecks.{head_untimed, head_refused, head_empty, head_good}
use Rattle.text_heads.proofs.heads.check_head.Goals as goal

pub find_word-first-requires : goal.find_word-first-requires
find_word-first-requires c = c.requires.names.within

pub slice_bounds-is_time-count : goal.slice_bounds-is_time-count
slice_bounds-is_time-count c = omega (arith, c.find_word-first.ensures.run.low)

pub slice_bounds-is_time-start : goal.slice_bounds-is_time-start
slice_bounds-is_time-start c = omega (arith, c.find_word-first.ensures.run.low)

pub slice_bounds-is_time-end : goal.slice_bounds-is_time-end
slice_bounds-is_time-end c = omega (arith, c.find_word-first.ensures.run.within)

pub returns-then-not-is_time : goal.returns-then-not-is_time
returns-then-not-is_time c =
    head_untimed c.requires c.find_word-first.ensures c.is_time.ensures _
    c.if-not-is_time.true c.refuse.ensures

pub check_names-requires : goal.check_names-requires
check_names-requires c = c.requires.names

pub returns-in_err-check_names : goal.returns-in_err-check_names
returns-in_err-check_names c =
    let p = err_from_is_err_and c.from_residual.result c.from_residual.ensures.1 in
    rw (p.1, p.2)
    (head_refused c.requires c.find_word-first.ensures c.is_time.ensures c.if-not-is_time.false _ _
    c.in_err-check_names.ensures)

pub returns-then-k-eq0 : goal.returns-then-k-eq0
unfolding Comes
returns-then-k-eq0 c =
    head_empty c.requires c.find_word-first.ensures c.is_time.ensures c.if-not-is_time.false
    c.in_ok-check_names.ensures.0 _ c.if-k-eq0.true c.refuse-then-k-eq0.ensures

pub returns : goal.returns
unfolding Comes
returns c =
    head_good c.requires c.find_word-first.ensures c.is_time.ensures c.if-not-is_time.false
    c.in_ok-check_names.ensures.0 c.if-k-eq0.false
