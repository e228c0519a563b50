-- `put_lines` meets its contract: the lines of the first i rows are written.
use Prim.Native.Nat.{◌≤◌}
use mathlib.Core.List.{[], ◌∷◌}
use lib.ListN.{length, drop}
use Rattle.basics.proofs.PartByPart.{Going}
use Rattle.listing.specs.Listing.{lines}
use Rattle.listing.proofs.lines.put_lines.Given as goal

abbrev pub invariant-loop-i : goal.invariant-loop-i
invariant-loop-i l =
    (l.i ≤ length l.codes) ×
    Going l.initial.out l.at (lines l.column l.times l.codes) (lines l.column (drop l.i l.times) (drop l.i l.codes) ∷ []) l.out l.p
