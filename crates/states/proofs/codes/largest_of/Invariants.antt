-- `codes::largest_of` meets its contract. The loop's invariant: no code before this one is above the largest so far.
use Prim.Native.Nat.{ℕ, ◌<◌, ◌≤◌}
use lib.ListN.{get_or}
use Rattle.states.proofs.codes.largest_of.Given as goal

abbrev pub invariant-loop-s : goal.invariant-loop-s
invariant-loop-s l = (k : ℕ) → k < l.s-index → get_or l.states k 0 ≤ l.most
