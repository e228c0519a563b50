-- `copy_states` meets its contract: the codes of the first r rows are written, and q is where row r stands.
use mathlib.Core.Path.{◌≡◌}
use Prim.Native.Nat.{◌≤◌}
use Rattle.basics.specs.Memory.{Put}
use Rattle.trace_format.specs.Records.{place}
use Rattle.record_copies.specs.HeldLists.{states_of}
use Rattle.record_copies.proofs.copies.copy_states.Given as goal

abbrev pub invariant-loop-r : goal.invariant-loop-r
invariant-loop-r l =
    (l.r ≤ l.n) × (l.q ≡ place l.file l.k l.r) × Put l.initial.out 0 (states_of l.file l.k l.r) l.out l.to
