-- `holds` meets its contract: the part that is compared is the slot's name.
use mathlib.Core.Path.{sym}
use lib.Seq.{length-take-le}
use Rattle.sorting.proofs.SlotNumbers.{holds_told}
use Rattle.sorting.proofs.lookup.holds.Goals as goal

pub slice_bounds-same-end : goal.slice_bounds-same-end
slice_bounds-same-end c = sym (length-take-le _ _ c.name_len-n.ensures.within)

pub returns : goal.returns
returns c = holds_told _ _ _ c.same.ensures.0 c.same.ensures.1 c.name_len-n.ensures
