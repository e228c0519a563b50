-- `place_of` gives a token's place; 0 behind the last.
use borrow.Author.Rules.{rules}
use mathlib.Core.Path.{sym}
use lib.ListN.{get_or-eq_default}
use Rattle.parser.proofs.place_of.Goals as goal

pub returns : goal.returns
returns c = let a = c.args in sym (get_or-eq_default a.places.now 0 {n = a.number} (search rules))
