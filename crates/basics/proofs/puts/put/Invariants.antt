-- `put` meets its contract. The loop's invariant is Writing: the first i bytes are written.
use Rattle.basics.proofs.Stores.{Writing}
use Rattle.basics.proofs.puts.put.Given as goal

abbrev pub invariant-loop-i : goal.invariant-loop-i
invariant-loop-i l = Writing l.initial.out l.at l.from l.out l.i
