-- `queues::push` meets its contract.
use mathlib.Core.Path.{◌≡◌}
use lib.ListN.{length}
use native.Mathlib.Omega.{arith}
use Rattle.queue.proofs.Keeping.{end_fits, push_length, push_row, push_keep, pushes}
use borrow.Author.Rules.{rules}
use Rattle.queue.proofs.queues.push.Goals as goal

pub overflow_mul-end : goal.overflow_mul-end
overflow_mul-end c = omega (arith, end_fits c.requires)

pub overflow_add-end : goal.overflow_add-end
overflow_add-end c = omega (arith, end_fits c.requires)

pub slice_bounds-work-end : goal.slice_bounds-work-end
slice_bounds-work-end c =
    let e : length c.lay-work.result ≡ 544 = search rules in
    omega (arith, end_fits c.requires)

pub slice_bounds-scene-end : goal.slice_bounds-scene-end
slice_bounds-scene-end c =
    let whole : length c.args.queue.states ≡ 512 = search rules in
    push_length c.requires whole c.lay-work.ensures

pub match_row-m-requires : goal.match_row-m-requires
match_row-m-requires c =
    let whole : length c.args.queue.states ≡ 512 = search rules in
    push_row c.requires whole c.lay-work.ensures

pub slice_bounds-work-end-2 : goal.slice_bounds-work-end-2
slice_bounds-work-end-2 c =
    let e : length c.lay-work.result ≡ 544 = search rules in
    omega (arith, end_fits c.requires)

pub slice_bounds-keep-end : goal.slice_bounds-keep-end
slice_bounds-keep-end c =
    let whole : length c.args.queue.states ≡ 512 = search rules in
    push_length c.requires whole c.lay-work.ensures

pub keep-next-requires : goal.keep-next-requires
keep-next-requires c =
    let whole : length c.args.queue.states ≡ 512 = search rules in
    push_keep c.requires whole c.lay-work.ensures c.longest.ensures

pub returns : goal.returns
returns c =
    let whole : length c.args.queue.states ≡ 512 = search rules in
    pushes c.requires whole c.lay-work.ensures c.longest.ensures
    c.match_row-m.ensures c.keep-next.ensures
