-- `same_name` meets its contract: the parts that are compared are the names.
use mathlib.Core.Path.{sym}
use lib.Seq.{length-take-le}
use Rattle.names.proofs.Slots.{same_told}
use Rattle.names.proofs.same_name.Goals as goal

pub slice_bounds-same-end : goal.slice_bounds-same-end
slice_bounds-same-end c = sym (length-take-le _ _ c.name_len-n.ensures.within)

pub slice_bounds-same-end-2 : goal.slice_bounds-same-end-2
slice_bounds-same-end-2 c = sym (length-take-le _ _ c.name_len-m.ensures.within)

pub returns : goal.returns
returns c =
    same_told _ c.same.ensures.0 c.same.ensures.1 c.name_len-n.ensures
    c.name_len-m.ensures
