-- `put_letters` meets its contract: the letters before the i-th are written.
use Prim.Native.Nat.{◌+◌}
use mathlib.Core.List.{[], ◌∷◌}
use lib.ListN.{get_or}
use Rattle.listing.specs.Listing.{letter}
use Rattle.row_lines.proofs.InTurn.{Written}
use Rattle.row_lines.proofs.rows.put_letters.Given as goal

abbrev pub invariant-loop-i : goal.invariant-loop-i
invariant-loop-i l =
    Written (λ j. 32 ∷ letter (get_or l.states (l.from + j) 0) ∷ []) l.k l.initial.out l.at l.i l.out l.p
