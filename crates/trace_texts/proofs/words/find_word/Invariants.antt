-- `find_word` meets its contract.
use Prim.Native.Nat.{◌≤◌}
use Rattle.trace_texts.proofs.Found.{Looking}
use Rattle.trace_texts.proofs.words.find_word.Given as goal

abbrev pub invariant-loop-i : goal.invariant-loop-i
invariant-loop-i l = (l.i ≤ l.n) × Looking l.text l.p l.i l.at
