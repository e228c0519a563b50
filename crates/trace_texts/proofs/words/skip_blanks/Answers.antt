use mathlib.Core.Path.{sym, ◌∙◌}
use Rattle.trace_texts.proofs.Steps.{yet_first, yet_next, found_here, found_nowhere, skips}
use Rattle.trace_texts.proofs.words.skip_blanks.Goals as goal

pub loop-i-init : goal.loop-i-init
loop-i-init c = yet_first c.requires

pub returns-then-not-is_blank : goal.returns-then-not-is_blank
returns-then-not-is_blank c =
    skips _ _ _ (found_here c.loop-i.invariant _ (sym c.is_blank.ensures ∙ c.if-not-is_blank.true))

pub loop-i-preserved : goal.loop-i-preserved
loop-i-preserved c =
    yet_next c.loop-i.invariant c.loop-i-test.true (sym c.is_blank.ensures ∙ c.if-not-is_blank.false)

pub returns : goal.returns
returns c = skips _ _ _ (found_nowhere c.loop-i.invariant _ c.loop-i-test.false)
