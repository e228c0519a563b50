-- `check_names` meets its contract.
use Rattle.text_heads.proofs.HeadChecks.{Naming}
use Rattle.text_heads.proofs.heads.check_names.Given as goal

abbrev pub invariant-loop-i : goal.invariant-loop-i
invariant-loop-i l = Naming l.text l.p l.k l.i l.word.start l.word.end
