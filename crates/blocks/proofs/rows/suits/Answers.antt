-- `rows::suits` meets its contract.
use mathlib.Core.Path.{sym, ◌∙◌}
use native.Mathlib.Omega.{arith}
use borrow.Author.Tests.{leb-true}
use Rattle.blocks.proofs.Suiting.{suited}
use Rattle.blocks.proofs.rows.suits.Goals as goal
use Rattle.blocks.proofs.rows.suits.Goals.{then-n-ge64, else-n-ge64}

pub returns-then-lists-le4096 : goal.returns-then-lists-le4096
returns-then-lists-le4096 c =
    elim c.if-n-ge64.branch [
      | then-n-ge64 w ↦
          record {
            is = λ e. suited w.if-n-ge64.true (leb-true _ 4096 (sym w.value-is ∙ c.if-lists-le4096.true))
                (omega (arith, leb-true c.longest.result 16 e, c.longest.ensures));
          }
      | else-n-ge64 w ↦ absurd
          (omega (arith, leb-true 64 c.args.n (sym w.value-is ∙ c.if-lists-le4096.true), w.if-n-ge64.false))
    ]
