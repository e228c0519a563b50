-- `cuts::sequence` meets its contract. The loop's invariant: `best` is the greatest over the rows passed.
use Prim.Native.Nat.{◌≤◌}
use mathlib.Core.Path.{◌≡◌}
use Rattle.basics.specs.Words.{greatest}
use Rattle.answer_table.specs.Tables.{stored}
use Rattle.answer_table.proofs.Joining.{split}
use Rattle.answer_table.proofs.cuts.sequence.Given as goal

abbrev pub invariant-loop-i : goal.invariant-loop-i
invariant-loop-i l = (l.i ≤ l.n) × (l.best ≡ greatest l.i (split (stored l.table l.p) (stored l.table l.q) l.a l.b))
