-- `corrections::rewrite` meets its contract. The loop's invariant is Writing: i answers are rewritten.
use Rattle.alf.specs.Alternatives.{answer_of}
use Rattle.basics.specs.Words.{listed}
use Rattle.basics.proofs.Stores.{Writing}
use Rattle.matcher.specs.Scenes.{state_on, alternatives_on}
use Rattle.correction.proofs.corrections.rewrite.Given as goal

abbrev pub invariant-loop-i : goal.invariant-loop-i
invariant-loop-i l =
    Writing l.initial.answers l.r
    (listed l.r l.m (answer_of (state_on l.scene) (alternatives_on l.scene l.lists))) l.answers l.i
