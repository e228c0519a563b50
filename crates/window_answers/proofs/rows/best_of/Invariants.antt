-- `rows::best_of` meets its contract. The loop's invariant: `best` is the greatest over the windows passed.
use Prim.Native.Nat.{◌≤◌}
use mathlib.Core.Path.{◌≡◌}
use Rattle.basics.specs.Words.{greatest}
use Rattle.answer_table.specs.Tables.{stored}
use Rattle.window_answers.proofs.rows.best_of.Given as goal

abbrev pub invariant-loop-a : goal.invariant-loop-a
invariant-loop-a l = (l.a ≤ l.n) × (l.best ≡ greatest l.a (λ i. stored l.table l.base i l.n))
