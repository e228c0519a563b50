-- `skip_word` meets its contract.
use mathlib.Core.Path.{◌≡◌}
use mathlib.Core.Bool.{true}
use Rattle.trace_texts.specs.Finding.{is_solid_lem}
use Rattle.trace_texts.proofs.Steps.{Yet}
use Rattle.trace_texts.proofs.words.skip_word.Given as goal

abbrev pub invariant-loop-i : goal.invariant-loop-i
invariant-loop-i l = Yet (λ b. is_solid_lem b ≡ true) l.text l.p l.i
