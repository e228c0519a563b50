use native.Mathlib.Omega.{arith}
use Rattle.trace_texts.proofs.Steps.{yet_first, yet_next, found_here, found_nowhere}
use Rattle.trace_texts.proofs.Behind.{passes_end, passes_all}
use Rattle.trace_texts.proofs.lines.behind_line.Goals as goal

pub loop-i-init : goal.loop-i-init
loop-i-init c = yet_first c.requires

pub returns-then-text-i-eq10 : goal.returns-then-text-i-eq10
returns-then-text-i-eq10 c =
    passes_end _ _ _ (found_here c.loop-i.invariant _ c.if-text-i-eq10.true) c.loop-i-test.true

pub loop-i-preserved : goal.loop-i-preserved
loop-i-preserved c = yet_next c.loop-i.invariant c.loop-i-test.true c.if-text-i-eq10.false

pub returns : goal.returns
returns c = passes_all _ _ _ (found_nowhere c.loop-i.invariant _ c.loop-i-test.false) (omega arith)
