-- `notes::note` meets its contract. The loop's invariant: the ends up to `at` are noted.
use Prim.Native.Nat.{◌≤◌}
use Rattle.acceptance.specs.Notes.{Noted}
use Rattle.acceptance.proofs.notes.note.Given as goal

abbrev pub invariant-loop-at : goal.invariant-loop-at
invariant-loop-at l = (l.at ≤ l.end) × Noted l.pins l.notes l.tree l.names l.at
