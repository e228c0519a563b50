-- `put_number` meets its contract.
use Rattle.basics.proofs.PartByPart.{holds_within, holds_count}
use Rattle.alternative_lines.proofs.LineParts.{number_countable, number_put}
use Rattle.alternative_lines.proofs.numbered.put_number.Goals as goal

pub slice_bounds-digits-end : goal.slice_bounds-digits-end
slice_bounds-digits-end c = holds_within c.lay_number-k.ensures

pub slice_bounds-put-end : goal.slice_bounds-put-end
slice_bounds-put-end c = holds_count c.lay_number-k.ensures

pub put-requires : goal.put-requires
put-requires c = number_countable c.requires c.ranges.n c.lay_number-k.ensures

pub returns : goal.returns
returns c = number_put c.requires c.ranges.n c.lay_number-k.ensures c.put.ensures
