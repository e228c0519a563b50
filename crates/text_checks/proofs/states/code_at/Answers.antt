-- `code_at` meets its contract.
use native.Mathlib.Omega.{arith}
use Rattle.text_checks.proofs.StateWords.{code_long, code_one}
use Rattle.text_checks.proofs.states.code_at.Goals as goal

pub overflow_sub-end : goal.overflow_sub-end
overflow_sub-end c = omega (arith, c.requires.ordered)

pub returns-then-end-start-ne1 : goal.returns-then-end-start-ne1
returns-then-end-start-ne1 c = code_long c.requires c.if-end-start-ne1.true

pub bounds-text-start : goal.bounds-text-start
bounds-text-start c = omega (arith, c.if-end-start-ne1.false, c.requires.within)

pub returns : goal.returns
returns c = code_one c.requires c.if-end-start-ne1.false c.code_of.ensures
