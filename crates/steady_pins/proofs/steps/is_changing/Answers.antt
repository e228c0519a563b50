-- `steps::is_changing` meets its contract.
use native.Mathlib.Omega.{arith}
use mathlib.Core.Path.{sym}
use Rattle.steady_pins.proofs.StepParts.{changing_high, changing_first, changing_second, changing_both}
use Rattle.steady_pins.proofs.steps.is_changing.Goals as goal

pub returns-then-k-ge81 : goal.returns-then-k-ge81
returns-then-k-ge81 c = sym (changing_high _ c.if-k-ge81.true)

pub returns-then-f-eq0 : goal.returns-then-f-eq0
returns-then-f-eq0 c = sym (changing_first _ (omega (arith, c.if-k-ge81.false)) c.if-f-eq0.true)

pub returns-then-t-eq0 : goal.returns-then-t-eq0
returns-then-t-eq0 c = sym (changing_second _ (omega (arith, c.if-k-ge81.false)) c.if-t-eq0.true)

pub returns : goal.returns
returns c = sym (changing_both _ (omega (arith, c.if-k-ge81.false)) c.if-f-eq0.false c.if-t-eq0.false)
