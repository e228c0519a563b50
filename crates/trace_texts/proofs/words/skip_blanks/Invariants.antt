-- `skip_blanks` meets its contract.
use mathlib.Core.Path.{◌≡◌}
use mathlib.Core.Bool.{true}
use Rattle.trace_texts.specs.Words.{is_blank_lem}
use Rattle.trace_texts.proofs.Steps.{Yet}
use Rattle.trace_texts.proofs.words.skip_blanks.Given as goal

abbrev pub invariant-loop-i : goal.invariant-loop-i
invariant-loop-i l = Yet (λ b. is_blank_lem b ≡ true) l.text l.p l.i
