-- `put_names` ends, and keeps the length of the list.
use mathlib.Core.Path.{◌≡◌}
use lib.ListN.{length}
use Rattle.texts_runs.proofs.name_lists.put_names.Given as goal

abbrev pub invariant-loop-k : goal.invariant-loop-k
invariant-loop-k l = length l.list ≡ length l.initial.list
