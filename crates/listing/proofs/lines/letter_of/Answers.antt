-- `letter_of` meets its contract.
use mathlib.Core.Path.{refl}
use Rattle.basics.specs.Text.{bytes}
use Rattle.listing.specs.Listing.{letter}
use Rattle.listing.proofs.lines.letter_of.Goals as goal

pub returns : goal.returns
unfolding letter bytes
returns c = refl
