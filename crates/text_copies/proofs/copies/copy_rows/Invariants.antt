-- `copy_rows` meets its contract.
use Rattle.text_copies.proofs.CopiedRows.{Filling}
use Rattle.text_copies.proofs.copies.copy_rows.Given as goal

abbrev pub invariant-loop-r : goal.invariant-loop-r
invariant-loop-r l =
    Filling l.text l.p l.k l.n l.r l.line l.to l.initial.times l.times l.initial.states l.states
