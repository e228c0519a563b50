-- `counting::pin_count` meets its contract. The loop's invariant: `n` is how many of the entries passed are pins.
use Prim.Native.Nat.{◌≤◌}
use mathlib.Core.Path.{◌≡◌}
use mathlib.Core.Bool.{not}
use lib.Dec.{eqb}
use lib.ListN.{take}
use Rattle.std.specs.List.{count_by}
use Rattle.steady_pins.proofs.counting.pin_count.Given as goal

abbrev pub invariant-loop-pin : goal.invariant-loop-pin
invariant-loop-pin l = (l.n ≡ count_by (λ x. not (eqb x 0)) (take l.pin-index l.pin-items)) × (l.n ≤ l.pin-index)
