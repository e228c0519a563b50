-- `first_unknown` meets its contract: no token passed is an unknown name.
use mathlib.Core.Path.{◌≡◌}
use mathlib.Core.Bool.{false}
use Prim.Native.Nat.{ℕ, ◌≤◌, ◌<◌}
use lib.ListN.{get_or}
use Rattle.sorting.specs.Lookup.{is_unknown}
use Rattle.sorting.proofs.lookup.first_unknown.Given as goal

abbrev pub invariant-loop-i : goal.invariant-loop-i
invariant-loop-i l =
    (l.i ≤ l.count) × ((j : ℕ) → j < l.i → is_unknown l.names l.text (get_or l.codes j 0) (get_or l.places j 0) ≡ false)
