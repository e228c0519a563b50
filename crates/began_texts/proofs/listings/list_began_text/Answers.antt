-- `list_began_text` meets its contract.
use Rattle.std.proofs.lemmas.Result.{err_from_is_err_and}
use Rattle.text_laws.proofs.ReadTrees.{read_found, found_within, found_count}
use Rattle.began_texts.proofs.TextBegan.{began_refused, began_lists}
use Rattle.began_texts.proofs.listings.list_began_text.Goals as goal

pub returns-in_err-read : goal.returns-in_err-read
returns-in_err-read c =
    let p = err_from_is_err_and c.from_residual.result c.from_residual.ensures.1 in
    rw (p.1, p.2) (began_refused _ _ _ _ _ c.in_err-read.ensures)

pub slice_bounds-tree-end : goal.slice_bounds-tree-end
slice_bounds-tree-end c = found_within (read_found c.in_ok-read.ensures)

pub slice_bounds-list_began-end : goal.slice_bounds-list_began-end
slice_bounds-list_began-end c = found_count (read_found c.in_ok-read.ensures)

pub returns : goal.returns
returns c =
    began_lists _ _ _ _ _ (read_found c.in_ok-read.ensures) c.list_began.ensures
