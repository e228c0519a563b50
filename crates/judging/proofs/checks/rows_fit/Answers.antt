-- `checks::rows_fit` meets its contract.
use native.Mathlib.Omega.{arith}
use borrow.Author.Rules.{rules}
use Rattle.basics.specs.Deciding.{Decides}
use native.Mathlib.Nat.{mul-le-mul}
use Rattle.judging.proofs.checks.rows_fit.Goals as goal

pub returns-then-names-eq0 : goal.returns-then-names-eq0
unfolding Decides
returns-then-names-eq0 c = λ s. omega (arith, s.name_count_lem.0, c.if-names-eq0.true)

pub returns-then-names-gt32 : goal.returns-then-names-gt32
unfolding Decides
returns-then-names-gt32 c = λ s. omega (arith, s.name_count_lem.1, c.if-names-gt32.true)

pub returns-then-n-eq0 : goal.returns-then-n-eq0
unfolding Decides
returns-then-n-eq0 c = λ s. omega (arith, s.row_count.0, c.if-n-eq0.true)

pub returns-then-n-gt65535 : goal.returns-then-n-gt65535
unfolding Decides
returns-then-n-gt65535 c = λ s. omega (arith, s.row_count.1, c.if-n-gt65535.true)

pub overflow_mul-n : goal.overflow_mul-n
overflow_mul-n c = omega (arith, mul-le-mul c.if-n-gt65535.false c.if-names-gt32.false)

pub returns-then-states-n : goal.returns-then-states-n
unfolding Decides
returns-then-states-n c = λ s. c.if-states-n.true s.all

pub returns : goal.returns
unfolding Decides
returns c =
    record {
      name_count_lem = (search rules, c.if-names-gt32.false);
      row_count = (search rules, c.if-n-gt65535.false);
      all = c.if-states-n.false;
    }
