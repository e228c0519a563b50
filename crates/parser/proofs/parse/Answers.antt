-- `parse` answers with the nodes of the text's one tree, or with the place where it is refused.
use mathlib.Core.Path.{sym}
use lib.Seq.{length-take-le}
use Rattle.parser.proofs.LastState.{evenly, given, full, answer_tree, answer_refused}
use Rattle.parser.proofs.parse.Goals as goal

pub slice_bounds-cs-end : goal.slice_bounds-cs-end
slice_bounds-cs-end c = sym (length-take-le _ _ c.requires.codes_hold)

pub slice_bounds-ps-end : goal.slice_bounds-ps-end
slice_bounds-ps-end c = sym (length-take-le _ _ c.requires.places_hold)

pub read_all-s-requires : goal.read_all-s-requires
read_all-s-requires c = given c.requires

pub accept-requires : goal.accept-requires
accept-requires c = full c.read_all-s.ensures

pub returns-then-s : goal.returns-then-s
returns-then-s c =
    answer_tree _ _ (evenly c.requires) c.read_all-s.ensures c.if-s.true
    c.accept.ensures

pub returns : goal.returns
returns c =
    answer_refused _ _ (evenly c.requires) c.read_all-s.ensures c.if-s.false
    c.place_at.ensures c.refuse.ensures
