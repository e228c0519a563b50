-- `changes::mask_of` meets its contract. The loop's invariant: the mask is that of the places passed.
use Rattle.alf.specs.Traces.{mask as mask_of}
use mathlib.Core.Path.{◌≡◌}
use Prim.Native.Nat.{◌≤◌}
use lib.ListN.{length}
use Rattle.states.specs.Comparing.{compared, differ}
use Rattle.states.proofs.changes.mask_of.Given as goal

abbrev pub invariant-loop-i : goal.invariant-loop-i
invariant-loop-i l =
    (l.i ≤ l.n) × (l.n ≡ compared (length l.old) (length l.new)) × (l.mask ≡ mask_of l.i (differ l.old l.new))
