-- `leaf_byte` meets its contract.
use borrow.Author.Tests.{eq-eqb, ne_eqb}
use native.Mathlib.Omega.{arith}
use Rattle.sorting.specs.Passes.{leaf_byte}
use Rattle.sorting.proofs.SlotNumbers.{number_small}
use Rattle.sorting.proofs.sorts.leaf_byte.Goals as goal

pub overflow_cast-result : goal.overflow_cast-result
overflow_cast-result c =
    let n = number_small c.args.names.now c.args.text.now c.args.place in
    omega (arith, c.slot_of.ensures, c.requires.few)

pub returns-then-code-eq0 : goal.returns-then-code-eq0
unfolding leaf_byte
returns-then-code-eq0 c = rw (eq-eqb _ 0 c.if-code-eq0.true) c.slot_of.ensures

pub returns : goal.returns
unfolding leaf_byte
returns c = rw (ne_eqb _ 0 c.if-code-eq0.false)
