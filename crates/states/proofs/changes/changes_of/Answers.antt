-- `changes::changes_of` meets its contract: the ones of the mask are the places that differ.
use lib.Count.{ones}
use mathlib.Core.Path.{◌∙◌, ap}
use Rattle.alf.proofs.Masks.{mask_ones}
use Rattle.states.proofs.changes.changes_of.Goals as goal

pub returns : goal.returns
returns c =
    let e = c.mask_of-mask.ensures in
    record { changed = e; number = ap ones e ∙ mask_ones _ _ }
