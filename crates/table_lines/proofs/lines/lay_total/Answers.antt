-- `lay_total` meets its contract: the list is long enough.
use native.Mathlib.Omega.{arith}
use Prim.Native.Nat.{◌≤◌}
use lib.ListN.{length}
use Rattle.basics.proofs.PartByPart.{held}
use Rattle.table_lines.specs.Table.{total_columns}
use Rattle.table_lines.proofs.ColumnParts.{total_short}
use Rattle.table_lines.proofs.lines.lay_total.Goals as goal
use Rattle.table_lines.proofs.lines.lay_total.Goals.{Start}

enough : (s : Start) → length (total_columns s.args.yes s.args.unknown s.args.no
    s.args.patterns s.args.events) ≤ 192
enough s =
    total_short s.args.yes s.args.unknown s.args.no s.args.patterns s.args.events
    s.ranges.yes s.ranges.unknown s.ranges.no s.ranges.patterns s.ranges.events

pub put_total-requires : goal.put_total-requires
put_total-requires c = let h = enough (goal.at.put_total-requires c).Start in omega arith

pub returns : goal.returns
returns c = let h = enough (goal.at.returns c).Start in held c.put_total.ensures (omega arith)
