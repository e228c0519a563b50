-- `put_wide` meets its contract: one based half behind the other.
use Rattle.basics.proofs.PartByPart.{going_start, going_on, going_end}
use mathlib.Core.Path.{refl}
use mathlib.Core.List.{[], ◌∷◌}
use Rattle.token_steps.specs.Spelling.{based}
use Rattle.spelling.specs.Spelled.{half_byte}
use Rattle.spelling.proofs.halves.put_wide.Goals as goal

pub returns : goal.returns
returns c =
    let g =
    going_start (based (half_byte c.args.f) ∷ based (half_byte c.args.t) ∷ []) refl c.requires.room in
    going_end (going_on (going_on g c.put_based-p.ensures) c.put_based.ensures)
