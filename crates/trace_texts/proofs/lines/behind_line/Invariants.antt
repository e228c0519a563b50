-- `behind_line` meets its contract.
use mathlib.Core.Path.{◌≡◌}
use Rattle.trace_texts.proofs.Steps.{Yet}
use Rattle.trace_texts.proofs.lines.behind_line.Given as goal

abbrev pub invariant-loop-i : goal.invariant-loop-i
invariant-loop-i l = Yet (λ b. b ≡ 10 → ⊥) l.text l.p l.i
