-- `put_based` meets its contract: a quote, the base and the half.
use Rattle.basics.proofs.PartByPart.{going_start, going_on, going_end}
use mathlib.Core.Path.{refl}
use mathlib.Core.List.{[], ◌∷◌}
use Rattle.spelling.specs.Spelled.{half_byte}
use Rattle.spelling.proofs.halves.put_based.Goals as goal

pub returns : goal.returns
returns c =
    let g =
    going_start ((39 ∷ []) ∷ (98 ∷ []) ∷ (half_byte c.args.h ∷ []) ∷ []) refl c.requires.room in
    going_end
    (going_on (going_on (going_on g c.push-p.ensures) c.push-q.ensures) c.put_half.ensures)
