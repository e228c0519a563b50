use mathlib.Core.Path.{refl}
use borrow.Author.Rules.{rules}
use borrow.Author.Count.{below_none, below_more}
use native.Mathlib.Omega.{arith}
use Rattle.basics.proofs.Deciding.{told, not_told}
use Rattle.sorting.proofs.SlotNumbers.{number_here, number_none, slot_told, word_fits}
use Rattle.sorting.proofs.lookup.slot_of.Goals as goal

pub overflow_add-end : goal.overflow_add-end
overflow_add-end c =
    let w = word_fits c.args.text.now c.args.at c.requires in
    let e = c.name_size.ensures in omega arith

pub loop-k-init : goal.loop-k-init
loop-k-init c = (search rules, below_none _)

pub slice_bounds-holds-end-in-loop-k : goal.slice_bounds-holds-end-in-loop-k
slice_bounds-holds-end-in-loop-k c =
    let w = word_fits c.args.text.now c.args.at c.requires in
    let e = c.name_size.ensures in omega arith

pub returns-then-holds : goal.returns-then-holds
returns-then-holds c =
    number_here _ _ _ c.loop-k-test.true
    (told _ (slot_told _ _ _ _ _ c.name_size.ensures c.holds.ensures) c.if-holds.true)
    c.loop-k.invariant.1

pub loop-k-preserved : goal.loop-k-preserved
loop-k-preserved c = (
  search rules,
  below_more _ _ c.loop-k.invariant.1
      (not_told _ (slot_told _ _ _ _ _ c.name_size.ensures c.holds.ensures) c.if-holds.false),
)

pub returns : goal.returns
returns c = number_none _ _ _ refl (λ j l. c.loop-k.invariant.1 j (omega (arith, c.loop-k-test.false)))
