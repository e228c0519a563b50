-- `write_line` meets its contract.
use Rattle.basics.proofs.PartByPart.{holds_within, holds_count}
use Rattle.table_lines.specs.Table.{pattern_line}
use Rattle.table_lines.proofs.LineEnds.{laid}
use Rattle.table_lines.proofs.lines.write_line.Goals as goal

pub slice_bounds-list-end : goal.slice_bounds-list-end
unfolding pattern_line
slice_bounds-list-end c = holds_within c.lay_columns-k.ensures

pub slice_bounds-finish-end : goal.slice_bounds-finish-end
unfolding pattern_line
slice_bounds-finish-end c = holds_count c.lay_columns-k.ensures

pub returns : goal.returns
unfolding pattern_line
returns c = laid c.args.pattern.now c.lay_columns-k.ensures c.finish.ensures
