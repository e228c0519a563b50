-- `check_names` meets its contract: the slots passed are good.
use Prim.Native.Nat.{ℕ, ◌≤◌, ◌<◌, ◌-◌}
use Rattle.alf.specs.Names.{GoodSlot}
use Rattle.names.specs.Check.{Slots}
use Rattle.names.proofs.check_names.Given as goal

abbrev pub invariant-loop-i : goal.invariant-loop-i
invariant-loop-i l = (l.i ≤ l.k) × Slots l.names × ((j : ℕ) → j < l.i → GoodSlot l.names j)
