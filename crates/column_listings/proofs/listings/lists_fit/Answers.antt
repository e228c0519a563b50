-- `lists_fit` meets its contract.
use native.Mathlib.Omega.{arith}
use borrow.Author.Rules.{rules}
use Rattle.basics.specs.Deciding.{Decides}
use Rattle.column_listings.proofs.listings.lists_fit.Goals as goal

pub returns-then-times-eq0 : goal.returns-then-times-eq0
unfolding Decides
returns-then-times-eq0 c = λ s. omega (arith, s.rows.0, c.if-times-eq0.true)

pub returns-then-times-gt65535 : goal.returns-then-times-gt65535
unfolding Decides
returns-then-times-gt65535 c = λ s. omega (arith, s.rows.1, c.if-times-gt65535.true)

pub returns-then-codes-times : goal.returns-then-codes-times
unfolding Decides
returns-then-codes-times c = λ s. c.if-codes-times.true s.same

pub returns : goal.returns
unfolding Decides
returns c = record { rows = (search rules, c.if-times-gt65535.false); same = c.if-codes-times.false }
