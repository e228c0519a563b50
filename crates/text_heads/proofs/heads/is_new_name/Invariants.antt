-- `is_new_name` meets its contract.
use Rattle.text_heads.specs.Heads.{WordIs}
use Rattle.text_heads.proofs.NewNames.{Newing}
use Rattle.text_heads.proofs.heads.is_new_name.Given as goal

abbrev pub invariant-loop-j : goal.invariant-loop-j
invariant-loop-j l = (w : WordIs l.text l.p l.i l.word.start l.word.end) → Newing w l.j l.earlier.start l.earlier.end
