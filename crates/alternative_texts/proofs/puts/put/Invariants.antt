-- `put` meets its contract: the first i bytes are written.
use Prim.Native.Nat.{◌≤◌}
use lib.ListN.{length, take}
use Rattle.basics.specs.Memory.{Put}
use Rattle.alternative_texts.proofs.puts.put.Given as goal

abbrev pub invariant-loop-i : goal.invariant-loop-i
invariant-loop-i l = (l.i ≤ length l.from) × Put l.initial.out l.at (take l.i l.from) l.out l.p
