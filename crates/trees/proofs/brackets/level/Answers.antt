-- `trees::brackets::level` meets its contract: the table has the levels.
use native.Mathlib.Omega.{arith}
use Rattle.trees.proofs.Levels.{level_table}
use Rattle.trees.proofs.brackets.level.Goals as goal

pub returns-in-40-to-55 : goal.returns-in-40-to-55
returns-in-40-to-55 c = level_table _ (omega arith) (omega arith)
