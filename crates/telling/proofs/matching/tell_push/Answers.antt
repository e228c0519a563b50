-- `tell_push` meets its contract.
use mathlib.Core.Path.{refl}
use Rattle.telling.specs.Matching.{told_push}
use borrow.Author.Rules.{rules}
use Rattle.telling.proofs.matching.tell_push.Goals as goal

pub tell_match-m-requires : goal.tell_match-m-requires
unfolding told_push
tell_match-m-requires c = search rules

pub returns : goal.returns
unfolding told_push
returns c = rw c.tell_match-m.ensures refl
