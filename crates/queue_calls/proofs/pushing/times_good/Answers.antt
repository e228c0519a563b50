-- `pushing::times_good` meets its contract.
use native.Mathlib.Omega.{arith}
use mathlib.Core.Path.{◌≡◌, sym}
use lib.ListN.{length}
use Rattle.queue_calls.proofs.QueuesKept.{times_whole, times_decided}
use borrow.Author.Rules.{rules}
use Rattle.queue_calls.proofs.pushing.times_good.Goals as goal

pub slice_bounds-times-end : goal.slice_bounds-times-end
slice_bounds-times-end c =
    let e : length c.args.queue.times ≡ 16 = search rules in
    omega (arith, e, c.requires)

pub slice_bounds-first_early-end : goal.slice_bounds-first_early-end
slice_bounds-first_early-end c = sym (times_whole c.args.queue c.requires (search rules))

pub returns : goal.returns
returns c = times_decided c.args.queue c.requires (search rules) c.first_early.ensures
