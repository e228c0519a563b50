-- `sizes::part_at` meets its contract.
use mathlib.Core.Path.{refl}
use Rattle.acceptance.specs.Sizes.{from_left, from_right}
use Rattle.acceptance.proofs.sizes.part_at.Goals as goal

pub returns-then-t-n : goal.returns-then-t-n
returns-then-t-n c = from_left c.if-t-n.true refl refl

pub returns : goal.returns
returns c = from_right c.if-t-n.false refl refl
