-- `lay_refused` meets its contract: the list is long enough.
use native.Mathlib.Omega.{arith}
use Prim.Native.Nat.{◌≤◌}
use lib.ListN.{length}
use Rattle.basics.proofs.PartByPart.{held}
use Rattle.table_lines.specs.Table.{refused_columns}
use Rattle.table_lines.proofs.ColumnParts.{refused_short}
use Rattle.table_lines.proofs.lines.lay_refused.Goals as goal
use Rattle.table_lines.proofs.lines.lay_refused.Goals.{Start}

enough : (s : Start) → length (refused_columns s.args.number s.args.place) ≤ 192
enough s =
    refused_short s.args.number s.args.place
    s.ranges.number s.ranges.place

pub put_refused-requires : goal.put_refused-requires
put_refused-requires c = let h = enough (goal.at.put_refused-requires c).Start in omega arith

pub returns : goal.returns
returns c = let h = enough (goal.at.returns c).Start in held c.put_refused.ensures (omega arith)
