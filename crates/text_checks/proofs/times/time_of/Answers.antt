use native.Mathlib.Omega.{arith}
use mathlib.Core.Path.{sym, ◌∙◌}
use borrow.Author.Tests.{eqb-true, eqb-false}
use Rattle.text_checks.proofs.TimeWords.{timing_first, timing_next, time_none, time_low, time_high}
use Rattle.text_checks.proofs.TimeWords.{time_large, time_end}
use Rattle.text_checks.proofs.times.time_of.Goals as goal
use Rattle.text_checks.proofs.times.time_of.Goals.{then-b-lt48-via-then-b-lt48, then-b-lt48-via-else-b-lt48+then-b-gt57}

pub returns-then-is_empty : goal.returns-then-is_empty
returns-then-is_empty c = time_none _ (eqb-true _ _ (sym c.is_empty.ensures ∙ c.if-is_empty.true))

pub loop-b-init : goal.loop-b-init
loop-b-init c = timing_first (eqb-false _ _ (sym c.is_empty.ensures ∙ c.if-is_empty.false))

pub returns-then-b-lt48 : goal.returns-then-b-lt48
returns-then-b-lt48 c =
    elim c.then-b-lt48.branch [
      | then-b-lt48-via-then-b-lt48 w ↦ time_low c.loop-b.invariant c.loop-b-test.true w.if-b-lt48.true
      | then-b-lt48-via-else-b-lt48+then-b-gt57 w ↦ time_high c.loop-b.invariant c.loop-b-test.true w.if-b-gt57.true
    ]

pub returns-in_err-checked_mul : goal.returns-in_err-checked_mul
returns-in_err-checked_mul c =
    rw c.from_residual.ensures
    (time_large c.loop-b.invariant c.loop-b-test.true c.if-b-lt48.false c.if-b-gt57.false
    (omega (arith, c.in_err-checked_mul.ensures)))

pub returns-in_err-n : goal.returns-in_err-n
returns-in_err-n c =
    rw c.from_residual-in_err-n.ensures
    (time_large c.loop-b.invariant c.loop-b-test.true c.if-b-lt48.false c.if-b-gt57.false
    (omega (arith, c.in_err-n.ensures, c.in_ok-checked_mul.ensures.1, c.from-d.ensures)))

pub loop-b-preserved : goal.loop-b-preserved
loop-b-preserved c =
    timing_next c.loop-b.invariant c.loop-b-test.true c.if-b-lt48.false c.if-b-gt57.false
    (omega (arith, c.in_ok-n.ensures.1, c.in_ok-checked_mul.ensures.1, c.from-d.ensures))
    (omega (arith, c.in_ok-n.ensures.0, c.in_ok-n.ensures.1))

pub returns : goal.returns
returns c = time_end c.loop-b.invariant c.loop-b-test.false
