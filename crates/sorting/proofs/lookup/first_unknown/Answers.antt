use borrow.Author.Rules.{rules}
use borrow.Author.Count.{below_none, below_more}
use mathlib.Core.Path.{sym, ◌∙◌}
use native.Mathlib.Omega.{arith}
use Rattle.sorting.proofs.SlotNumbers.{first_here, first_none}
use Rattle.sorting.proofs.lookup.first_unknown.Goals as goal

pub loop-i-init : goal.loop-i-init
loop-i-init c = (search rules, below_none _)

pub overflow_cast-place : goal.overflow_cast-place
overflow_cast-place c = omega (arith, c.type_inv.places c.loop-i.i)

pub is_unknown-requires : goal.is_unknown-requires
is_unknown-requires c =
    c.requires.inside _
    c.loop-i-test.true

pub returns-then-is_unknown : goal.returns-then-is_unknown
returns-then-is_unknown c =
    first_here _ _ _ c.loop-i-test.true
    (sym c.is_unknown.ensures ∙ c.if-is_unknown.true) c.loop-i.invariant.1

pub loop-i-preserved : goal.loop-i-preserved
loop-i-preserved c = (
  search rules,
  below_more _ _ c.loop-i.invariant.1
      (sym c.is_unknown.ensures ∙ c.if-is_unknown.false),
)

pub returns : goal.returns
returns c =
    first_none _ _ (λ j l. c.loop-i.invariant.1 j (omega (arith, c.loop-i-test.false)))
