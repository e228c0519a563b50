-- `lists_fit` meets its contract.
use native.Mathlib.Omega.{arith}
use borrow.Author.Rules.{rules}
use Rattle.basics.proofs.Deciding.{holds, fails}
use Rattle.trace_format.proofs.RowByRow.{codes_bound}
use Rattle.trace_writer.proofs.checks.lists_fit.Goals as goal

pub returns-then-names-ne0 : goal.returns-then-names-ne0
returns-then-names-ne0 c = fails (λ s. c.if-names-ne0.true s.slots.whole)

pub returns-then-k-eq0 : goal.returns-then-k-eq0
returns-then-k-eq0 c = fails (λ s. omega (arith, s.slots.some, c.if-k-eq0.true))

pub returns-then-k-gt32 : goal.returns-then-k-gt32
returns-then-k-gt32 c = fails (λ s. omega (arith, s.slots.few, c.if-k-gt32.true))

pub returns-then-n-eq0 : goal.returns-then-n-eq0
returns-then-n-eq0 c = fails (λ s. omega (arith, s.lists.some, c.if-n-eq0.true))

pub returns-then-n-gt65535 : goal.returns-then-n-gt65535
returns-then-n-gt65535 c = fails (λ s. omega (arith, s.lists.few, c.if-n-gt65535.true))

pub returns-then-times-n : goal.returns-then-times-n
returns-then-times-n c = fails (λ s. c.if-times-n.true s.lists.times_all)

pub overflow_mul-n : goal.overflow_mul-n
overflow_mul-n c = omega (arith, codes_bound c.if-n-gt65535.false c.if-k-gt32.false)

pub returns-then-states-n : goal.returns-then-states-n
returns-then-states-n c = fails (λ s. c.if-states-n.true s.lists.states_all)

pub returns : goal.returns
returns c =
    holds
    (record {
      slots = record {
        whole = c.if-names-ne0.false;
        some = search rules;
        few = c.if-k-gt32.false;
      };
      lists =
          record {
            some = search rules;
            few = c.if-n-gt65535.false;
            times_all = c.if-times-n.false;
            states_all =
                c.if-states-n.false;
          };
    })
