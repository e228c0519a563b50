-- `numbering::find` meets its contract. Nothing has to be known of the columns that were passed.
use Prim.Native.Nat.{◌≤◌}
use Rattle.blocks.proofs.numbering.find.Given as goal

abbrev pub invariant-loop-c : goal.invariant-loop-c
invariant-loop-c l = l.c ≤ l.many
