-- `keeping::keep_text` meets its contract.
use Rattle.std.proofs.lemmas.Result.{err_from_is_err_and}
use Rattle.text_laws.proofs.ReadTrees.{read_found, found_within, found_count}
use Rattle.kept_texts.proofs.TextPins.{keep_refused, keep_18, keep_marked}
use Rattle.kept_texts.proofs.keeping.keep_text.Goals as goal

pub returns-in_err-read : goal.returns-in_err-read
returns-in_err-read c =
    let p = err_from_is_err_and c.from_residual.result c.from_residual.ensures.1 in
    rw (p.1, p.2) (keep_refused c.in_err-read.ensures)

pub returns-then-kept-count : goal.returns-then-kept-count
returns-then-kept-count c =
    keep_18 (read_found c.in_ok-read.ensures) c.if-kept-count.true c.refuse.ensures

pub slice_bounds-tree-end : goal.slice_bounds-tree-end
slice_bounds-tree-end c = found_within (read_found c.in_ok-read.ensures)

pub slice_bounds-mark_names-end : goal.slice_bounds-mark_names-end
slice_bounds-mark_names-end c = found_count (read_found c.in_ok-read.ensures)

pub returns : goal.returns
returns c =
    keep_marked (read_found c.in_ok-read.ensures) c.if-kept-count.false c.mark_names.ensures
