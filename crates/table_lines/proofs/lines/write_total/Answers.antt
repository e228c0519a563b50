-- `write_total` meets its contract.
use Rattle.basics.proofs.PartByPart.{holds_within, holds_count}
use mathlib.Core.List.{[]}
use Rattle.table_lines.specs.Table.{total_line}
use Rattle.table_lines.proofs.LineEnds.{laid}
use Rattle.table_lines.proofs.lines.write_total.Goals as goal

pub slice_bounds-list-end : goal.slice_bounds-list-end
unfolding total_line
slice_bounds-list-end c = holds_within c.lay_total-k.ensures

pub slice_bounds-finish-end : goal.slice_bounds-finish-end
unfolding total_line
slice_bounds-finish-end c = holds_count c.lay_total-k.ensures

pub returns : goal.returns
unfolding total_line
returns c = laid [] c.lay_total-k.ensures c.finish.ensures
