-- `width_at` meets its contract.
use mathlib.Core.Logic.{inl, inr}
use mathlib.Core.Path.{refl}
use Rattle.trace_format.proofs.MarkBytes.{letter_long, letter_short}
use Rattle.trace_format.proofs.parts.width_at.Goals as goal

pub returns-then-file-at-eq76 : goal.returns-then-file-at-eq76
returns-then-file-at-eq76 c =
    record { is = letter_long _ _ c.requires.row c.if-file-at-eq76.true; kind = inr refl }

pub returns : goal.returns
returns c = record { is = letter_short _ _ c.requires.row c.if-file-at-eq76.false; kind = inl refl }
