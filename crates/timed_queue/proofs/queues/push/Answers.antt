-- `queues::push` meets its contract.
use native.Mathlib.Omega.{arith}
use mathlib.Core.Path.{◌≡◌}
use lib.ListN.{length}
use borrow.Author.Rules.{rules}
use Rattle.timed_queue.proofs.Keeping.{push_length, push_date, push_keep, pushes}
use Rattle.timed_queue.proofs.queues.push.Goals as goal

pub slice_bounds-date-end : goal.slice_bounds-date-end
slice_bounds-date-end c =
    let whole : length c.args.queue.times ≡ 16 = search rules in
    push_length c.args.queue c.requires whole c.lay-all.ensures

pub date-told-requires : goal.date-told-requires
date-told-requires c =
    let whole : length c.args.queue.times ≡ 16 = search rules in
    push_date c.args.queue c.requires whole c.lay-all.ensures c.push-pushed.ensures

pub slice_bounds-all-end-2 : goal.slice_bounds-all-end-2
slice_bounds-all-end-2 c =
    let e : length c.lay-all.result ≡ 17 = search rules in
    omega (arith, c.requires.room.kept, c.requires.room.few)

pub slice_bounds-keep-end : goal.slice_bounds-keep-end
slice_bounds-keep-end c =
    let whole : length c.args.queue.times ≡ 16 = search rules in
    push_length c.args.queue c.requires whole c.lay-all.ensures

pub keep-times-requires : goal.keep-times-requires
keep-times-requires c =
    let whole : length c.args.queue.times ≡ 16 = search rules in
    push_keep c.args.queue c.requires whole c.lay-all.ensures
    c.push-pushed.ensures c.longest.ensures

pub returns : goal.returns
returns c =
    let whole : length c.args.queue.times ≡ 16 = search rules in
    pushes c.args.queue c.requires whole c.lay-all.ensures c.push-pushed.ensures
    c.longest.ensures c.date-told.ensures c.keep-times.ensures
