-- `is_name_byte`: whether a byte goes on a name, read off its class.
use mathlib.Core.Path.{sym, ap, ◌∙◌}
use mathlib.Core.Logic.{inl, inr}
use Rattle.token_steps.proofs.ByteClasses.{name_byte, name_byte_class, not_name_byte}
use Rattle.token_steps.proofs.classes.is_name_byte.Goals as goal

pub returns-in-Letter : goal.returns-in-Letter
returns-in-Letter c =
    elim c.in-Letter.is [
      | inl e ↦ ap name_byte (sym e) ∙ name_byte_class c.class_of.ensures c.ranges.b.fits
      | inr e ↦ ap name_byte (sym e) ∙ name_byte_class c.class_of.ensures c.ranges.b.fits
    ]

pub returns-in_default : goal.returns-in_default
returns-in_default c =
    not_name_byte c.in_default.not-Letter c.in_default.not-Digit
    ∙ name_byte_class c.class_of.ensures c.ranges.b.fits
