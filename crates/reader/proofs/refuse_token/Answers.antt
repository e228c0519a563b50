-- `refuse_token` refuses the token at a place.
use mathlib.Core.Path.{ap, ◌∙◌}
use Rattle.token_steps.specs.Steps.{Outcome}
use Rattle.basics.specs.Refusing.{refusal_over_lem}
use Rattle.reader.specs.Reads.{size_of}
use Rattle.reader.proofs.refuse_token.Goals as goal

pub returns-in-Ok : goal.returns-in-Ok
returns-in-Ok c =
    c.refusal_over.ensures
    ∙ ap (λ (s : Outcome). refusal_over_lem c.args.number c.args.place (size_of s)) c.in-Ok.ensures

pub returns-in-Err : goal.returns-in-Err
returns-in-Err c =
    c.refusal_over-in-Err.ensures
    ∙ ap (λ (s : Outcome). refusal_over_lem c.args.number c.args.place (size_of s)) c.in-Err.ensures
