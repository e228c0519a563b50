-- `codes::largest_of_four` meets its contract. The loop's invariant is Four: of each part no code so far is above its
-- bound.
use Rattle.states.proofs.BadCodes.{Four}
use Rattle.states.proofs.codes.largest_of_four.Given as goal

abbrev pub invariant-loop-i : goal.invariant-loop-i
invariant-loop-i l = Four l.states l.q l.i l.a l.b l.c l.d
