-- `pushing::row_fits` meets its contract.
use native.Mathlib.Omega.{arith}
use Rattle.basics.specs.Deciding.{Decides}
use Rattle.basics.proofs.Deciding.{same_decided, eqb_decides}
use borrow.Author.Rules.{rules}
use Rattle.queue_calls.proofs.pushing.row_fits.Goals as goal

pub returns-then-names-eq0 : goal.returns-then-names-eq0
unfolding Decides
returns-then-names-eq0 c = λ s. omega (arith, s.name_count_lem.0, c.if-names-eq0.true)

pub returns-then-names-gt32 : goal.returns-then-names-gt32
unfolding Decides
returns-then-names-gt32 c = λ s. omega (arith, s.name_count_lem.1, c.if-names-gt32.true)

pub returns : goal.returns
returns c =
    let args = c.args in
    same_decided _ _ _
    (λ l. record { name_count_lem = (search rules, c.if-names-gt32.false); full = l }) (λ s. s.full)
    (eqb_decides args.row args.names)
