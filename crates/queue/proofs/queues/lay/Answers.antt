-- `queues::lay` meets its contract: there is room for what is kept, and for a row behind it.
use native.Mathlib.Omega.{arith}
use mathlib.Core.Path.{◌≡◌, sym}
use lib.ListN.{length}
use Rattle.queue.proofs.Keeping.{rows_fit, held_length, put_held, put_row_lem, put_both}
use borrow.Author.Rules.{rules}
use Rattle.queue.proofs.queues.lay.Goals as goal

pub overflow_mul-end : goal.overflow_mul-end
overflow_mul-end c = omega (arith, rows_fit c.args.queue.kept.0 c.requires.kept c.requires.most)

pub slice_bounds-held-end : goal.slice_bounds-held-end
slice_bounds-held-end c =
    let whole : length c.args.queue.states ≡ 512 = search rules in
    omega (arith, whole, rows_fit c.args.queue.kept.0 c.requires.kept c.requires.most)

pub slice_bounds-put-end : goal.slice_bounds-put-end
slice_bounds-put-end c =
    let whole : length c.args.queue.states ≡ 512 = search rules in
    sym (held_length c.args.queue c.requires.kept c.requires.most whole)

pub put-requires : goal.put-requires
put-requires c =
    let whole : length c.args.queue.states ≡ 512 = search rules in
    put_held c.requires whole

pub put-requires-2 : goal.put-requires-2
put-requires-2 c =
    let whole : length c.args.queue.states ≡ 512 = search rules in
    put_row_lem c.requires whole c.put.ensures

pub returns : goal.returns
returns c =
    let whole : length c.args.queue.states ≡ 512 = search rules in
    put_both c.requires whole c.put.ensures c.put-2.ensures
