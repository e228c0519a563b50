-- `correcting::row_number_lem` meets its contract.
use Rattle.letter_corrections.proofs.Decimals.{Numbering}
use Rattle.letter_corrections.proofs.correcting.row_number.Given as goal

abbrev pub invariant-loop-i : goal.invariant-loop-i
invariant-loop-i l = Numbering l.text l.n l.i
