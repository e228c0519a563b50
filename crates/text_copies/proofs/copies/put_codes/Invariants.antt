-- `put_codes` meets its contract.
use Prim.Native.Nat.{◌+◌, ◌≤◌}
use Rattle.basics.proofs.Stores.{Writing}
use Rattle.trace_texts.specs.Finding.{from, Finds}
use Rattle.text_copies.specs.Copies.{codes_at}
use Rattle.text_copies.proofs.copies.put_codes.Given as goal

abbrev pub invariant-loop-i : goal.invariant-loop-i
invariant-loop-i l =
    (l.i ≤ l.k) × Finds l.text l.p (l.i + 1) l.word.start l.word.end
    × Writing l.initial.out l.at (codes_at l.k (from l.text l.p).first) l.out l.i
