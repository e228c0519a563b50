-- `list_given` meets its contract.
use Rattle.std.proofs.lemmas.Result.{err_from_is_err_and}
use Rattle.text_laws.proofs.ReadTrees.{read_found, found_within, found_count, found_accepted}
use Rattle.row_listings.proofs.TextListings.{sort_lists, sort_refused}
use Rattle.row_listings.proofs.listings.list_given.Goals as goal

pub returns-in_err-read : goal.returns-in_err-read
returns-in_err-read c =
    let p = err_from_is_err_and c.from_residual.result c.from_residual.ensures.1 in
    rw (p.1, p.2) (sort_refused _ c.args.sort c.args.times.now c.args.states.now c.args.out.now
    c.in_err-read.ensures)

pub slice_bounds-tree-end : goal.slice_bounds-tree-end
slice_bounds-tree-end c = found_within (read_found c.in_ok-read.ensures)

pub slice_bounds-list_tree-end : goal.slice_bounds-list_tree-end
slice_bounds-list_tree-end c = found_count (read_found c.in_ok-read.ensures)

pub list_tree-requires : goal.list_tree-requires
list_tree-requires c = found_accepted (read_found c.in_ok-read.ensures)

pub returns : goal.returns
returns c =
    sort_lists _ c.args.sort c.args.times.now c.args.states.now (read_found c.in_ok-read.ensures)
    c.list_tree.ensures
