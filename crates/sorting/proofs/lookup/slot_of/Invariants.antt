-- `slot_of` meets its contract: no slot passed holds the name.
use mathlib.Core.Path.{◌≡◌}
use Prim.Native.Nat.{ℕ, ◌≤◌, ◌<◌}
use Rattle.alf.specs.Names.{name_at}
use Rattle.sorting.specs.Lookup.{word}
use Rattle.sorting.proofs.lookup.slot_of.Given as goal

abbrev pub invariant-loop-k : goal.invariant-loop-k
invariant-loop-k l = (l.k ≤ l.n) × ((j : ℕ) → j < l.k → name_at l.names j ≡ word l.text l.at → ⊥)
