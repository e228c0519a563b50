-- `copy_names` meets its contract: the slots of the first i names are written, and q is behind their records.
use mathlib.Core.Path.{◌≡◌}
use Prim.Native.Nat.{◌≤◌}
use Rattle.basics.specs.Memory.{Put}
use Rattle.trace_format.specs.Records.{name_end}
use Rattle.record_copies.specs.HeldLists.{names_of}
use Rattle.record_copies.proofs.copies.copy_names.Given as goal

abbrev pub invariant-loop-i : goal.invariant-loop-i
invariant-loop-i l =
    (l.i ≤ l.k) × (l.q ≡ name_end l.file l.i) × Put l.initial.out 0 (names_of l.file l.i) l.out l.at
