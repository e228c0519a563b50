-- `put_plain` meets its contract. The loop's invariant is Writing: the first i bytes are shown.
use mathlib.Core.List.{map}
use Rattle.basics.proofs.Stores.{Writing}
use Rattle.table_lines.specs.Table.{plain}
use Rattle.table_lines.proofs.lines.put_plain.Given as goal

abbrev pub invariant-loop-i : goal.invariant-loop-i
invariant-loop-i l = Writing l.initial.out l.at (map plain l.pattern) l.out l.i
