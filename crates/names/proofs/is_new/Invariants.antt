-- `is_new` meets its contract: no slot passed holds the name.
use mathlib.Core.Path.{◌≡◌}
use Prim.Native.Nat.{ℕ, ◌≤◌, ◌<◌, ◌-◌}
use Rattle.alf.specs.Names.{name_at}
use Rattle.names.proofs.is_new.Given as goal

abbrev pub invariant-loop-j : goal.invariant-loop-j
invariant-loop-j l = (l.j ≤ l.k) × ((i : ℕ) → i < l.j → name_at l.names i ≡ name_at l.names l.k → ⊥)
