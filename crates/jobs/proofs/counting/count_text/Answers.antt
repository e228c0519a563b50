-- `counting::count_text` meets its contract.
use Rattle.std.proofs.lemmas.Result.{err_from_is_err_and}
use Rattle.text_laws.proofs.ReadTrees.{read_found, found_within, found_count}
use Rattle.jobs.proofs.TextCounts.{text_refused, tree_counted}
use Rattle.jobs.proofs.counting.count_text.Goals as goal

pub returns-in_err-read : goal.returns-in_err-read
returns-in_err-read c =
    let p = err_from_is_err_and c.from_residual.result c.from_residual.ensures.1 in
    rw (p.1, p.2) (text_refused c.in_err-read.ensures)

pub slice_bounds-tree-end : goal.slice_bounds-tree-end
slice_bounds-tree-end c = found_within (read_found c.in_ok-read.ensures)

pub slice_bounds-totals-end : goal.slice_bounds-totals-end
slice_bounds-totals-end c = found_count (read_found c.in_ok-read.ensures)

pub returns : goal.returns
returns c = tree_counted (read_found c.in_ok-read.ensures) c.totals.ensures
