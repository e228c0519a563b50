-- `check_text` meets its contract.
use Rattle.std.proofs.lemmas.Result.{err_from_is_err_and}
use Rattle.alf.specs.Refusals.{Comes}
use Rattle.text_reading.proofs.Outcomes.{text_empty, head_in, head_refused, rows_in, rows_refused, text_good}
use Rattle.text_reading.proofs.reading.check_text.Goals as goal

pub returns-then-h-text : goal.returns-then-h-text
returns-then-h-text c =
    text_empty c.next_line-h.ensures c.refuse.ensures
    c.if-h-text.true

pub count_names-head-requires : goal.count_names-head-requires
count_names-head-requires c = c.next_line-h.ensures.within

pub behind_line-behind-requires : goal.behind_line-behind-requires
behind_line-behind-requires c = c.next_line-h.ensures.within

pub check_head-requires : goal.check_head-requires
check_head-requires c =
    head_in c.next_line-h.ensures c.if-h-text.false
    c.count_names-head.ensures

pub returns-in_err-check_head : goal.returns-in_err-check_head
returns-in_err-check_head c =
    let p = err_from_is_err_and c.from_residual.result c.from_residual.ensures.1 in
    rw (p.1, p.2)
    (head_refused c.next_line-h.ensures c.if-h-text.false c.count_names-head.ensures c.behind_line-behind.ensures
    _ c.in_err-check_head.ensures)

pub check_rows-requires : goal.check_rows-requires
unfolding Comes
check_rows-requires c =
    rows_in c.next_line-h.ensures c.if-h-text.false c.count_names-head.ensures c.behind_line-behind.ensures
    c.in_ok-check_head.ensures.0

pub returns-in_err-n : goal.returns-in_err-n
unfolding Comes
returns-in_err-n c =
    let p = err_from_is_err_and c.from_residual-in_err-n.result c.from_residual-in_err-n.ensures.1 in
    rw (p.1, p.2)
    (rows_refused c.next_line-h.ensures c.if-h-text.false c.count_names-head.ensures c.behind_line-behind.ensures
    c.in_ok-check_head.ensures.0 _ c.in_err-n.ensures)

pub returns : goal.returns
unfolding Comes
returns c =
    text_good c.next_line-h.ensures c.if-h-text.false c.count_names-head.ensures c.behind_line-behind.ensures
    c.in_ok-check_head.ensures.0 _ c.in_ok-n.ensures
