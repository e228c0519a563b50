-- `pushing::rows_good` meets its contract: what a queue of at most 16 rows keeps stands in its array.
use native.Mathlib.Omega.{arith}
use mathlib.Core.Path.{◌≡◌, sym}
use lib.ListN.{length}
use Rattle.queue_calls.proofs.QueuesKept.{held_fits, held_whole, keeps_not, keeps_decided}
use borrow.Author.Rules.{rules}
use Rattle.queue_calls.proofs.pushing.rows_good.Goals as goal

pub returns-then-k-rows : goal.returns-then-k-rows
returns-then-k-rows c = keeps_not _ _ _ c.if-k-rows.true

pub overflow_mul-end : goal.overflow_mul-end
overflow_mul-end c =
    omega
    (arith, held_fits c.args.queue c.requires c.if-k-rows.false)

pub slice_bounds-states-end : goal.slice_bounds-states-end
slice_bounds-states-end c =
    let e : length c.args.queue.states ≡ 512 = search rules in
    omega (arith, e, held_fits c.args.queue c.requires c.if-k-rows.false)

pub slice_bounds-first_bad_code-end : goal.slice_bounds-first_bad_code-end
slice_bounds-first_bad_code-end c =
    sym (held_whole c.args.queue c.requires c.if-k-rows.false (search rules))

pub returns : goal.returns
returns c =
    keeps_decided _ _ c.args.queue c.if-k-rows.false
    (held_whole c.args.queue c.requires c.if-k-rows.false (search rules)) c.first_bad_code.ensures
