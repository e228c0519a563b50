-- `stamps::lay` meets its contract: there is room for the times kept, and for one behind them.
use mathlib.Core.Path.{◌≡◌, sym}
use lib.ListN.{length}
use borrow.Author.Rules.{rules}
use Rattle.timed_queue.proofs.Keeping.{held_length, put_asked, laid}
use Rattle.timed_queue.proofs.stamps.lay.Goals as goal

pub slice_bounds-put-end : goal.slice_bounds-put-end
slice_bounds-put-end c =
    let whole : length c.args.times ≡ 16 = search rules in
    sym (held_length c.args.times c.requires whole)

pub put-requires : goal.put-requires
put-requires c =
    let whole : length c.args.times ≡ 16 = search rules in
    put_asked c.args.times c.requires whole

pub returns : goal.returns
returns c =
    let whole : length c.args.times ≡ 16 = search rules in
    laid c.args.times c.requires whole c.put.ensures
