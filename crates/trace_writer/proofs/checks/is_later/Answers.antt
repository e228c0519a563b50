-- `is_later` meets its contract.
use native.Mathlib.Omega.{arith}
use Rattle.basics.proofs.Deciding.{holds, fails}
use Rattle.trace_writer.proofs.checks.is_later.Goals as goal

pub returns-then-r-eq0 : goal.returns-then-r-eq0
returns-then-r-eq0 c = holds (λ h. absurd (omega (arith, c.if-r-eq0.true)))

pub returns-then-times-r : goal.returns-then-times-r
returns-then-times-r c = holds (λ h. c.if-times-r.true)

pub returns : goal.returns
returns c = fails (λ l. omega (arith, l (omega arith), c.if-times-r.false))
