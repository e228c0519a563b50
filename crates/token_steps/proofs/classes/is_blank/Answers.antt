-- `is_blank`: whether a byte is a blank, read off its class.
use mathlib.Core.Path.{◌∙◌}
use Rattle.token_steps.proofs.ByteClasses.{blank_class, not_blank}
use Rattle.token_steps.proofs.classes.is_blank.Goals as goal

pub returns-in-Blank : goal.returns-in-Blank
returns-in-Blank c = blank_class c.in-Blank.ensures c.ranges.b.fits

pub returns-in_default : goal.returns-in_default
returns-in_default c = not_blank c.in_default.not-Blank ∙ blank_class c.class_of.ensures c.ranges.b.fits
