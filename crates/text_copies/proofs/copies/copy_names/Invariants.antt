-- `copy_names` meets its contract.
use Rattle.text_copies.proofs.Copying.{Copied}
use Rattle.text_copies.proofs.copies.copy_names.Given as goal

abbrev pub invariant-loop-i : goal.invariant-loop-i
invariant-loop-i l = Copied l.text l.p l.k l.i l.word.start l.word.end l.initial.out l.out l.at
