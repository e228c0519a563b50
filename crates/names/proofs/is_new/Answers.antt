use borrow.Author.Rules.{rules}
use borrow.Author.Count.{below_none, below_more}
use Rattle.basics.proofs.Deciding.{told, not_told, holds, fails}
use native.Mathlib.Omega.{arith}
use Rattle.names.proofs.Slots.{part_told}
use Rattle.names.proofs.is_new.Goals as goal

pub loop-j-init : goal.loop-j-init
loop-j-init c = (search rules, below_none _)

pub returns-then-same_name : goal.returns-then-same_name
returns-then-same_name c =
    fails (λ new. new _ c.loop-j-test.true
    (told _ (part_told _ _ _ _ c.same_name.ensures) c.if-same_name.true))

pub loop-j-preserved : goal.loop-j-preserved
loop-j-preserved c = (
  search rules,
  below_more _ _ c.loop-j.invariant.1
      (not_told _ (part_told _ _ _ _ c.same_name.ensures) c.if-same_name.false),
)

pub returns : goal.returns
returns c = holds (λ j l. c.loop-j.invariant.1 j (omega (arith, c.loop-j-test.false)))
