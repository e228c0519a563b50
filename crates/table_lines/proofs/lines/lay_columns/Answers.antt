-- `lay_columns` meets its contract: the list is long enough.
use native.Mathlib.Omega.{arith}
use Prim.Native.Nat.{◌≤◌}
use lib.ListN.{length}
use Rattle.basics.proofs.PartByPart.{held}
use Rattle.table_lines.specs.Table.{columns}
use Rattle.table_lines.proofs.ColumnParts.{columns_short}
use Rattle.table_lines.proofs.lines.lay_columns.Goals as goal
use Rattle.table_lines.proofs.lines.lay_columns.Goals.{Start}

enough : (s : Start) → length (columns s.args.yes s.args.unknown s.args.no s.args.n) ≤ 192
enough s =
    columns_short s.args.yes s.args.unknown s.args.no s.args.n
    s.ranges.yes s.ranges.unknown s.ranges.no s.ranges.n

pub put_columns-requires : goal.put_columns-requires
put_columns-requires c = let h = enough (goal.at.put_columns-requires c).Start in omega arith

pub returns : goal.returns
returns c = let h = enough (goal.at.returns c).Start in held c.put_columns.ensures (omega arith)
