-- `refuse_bytes` refuses the bytes from a place up to the next blank or the end.
use mathlib.Core.Path.{ap, ◌∙◌}
use Prim.Native.Nat.{ℕ}
use Rattle.basics.specs.Refusing.{refusal_over_lem}
use Rattle.tokens.proofs.refuse_bytes.Goals as goal

pub returns : goal.returns
returns c = c.refusal_over.ensures ∙ ap (λ (k : ℕ). refusal_over_lem 2 c.args.place k) c.to_blank.ensures
