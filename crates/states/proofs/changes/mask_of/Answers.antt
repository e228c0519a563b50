use borrow.Author.Rules.{rules}
use Rattle.alf.specs.Traces.{mask as mask_of}
use borrow.Author.Tests.{eq-eqb, ne_eqb}
use mathlib.Core.Path.{◌≡◌, refl, ◌∙◌, ap}
use native.Mathlib.Omega.{arith}
use Prim.Native.Nat.{ℕ}
use lib.ListN.{length}
use Rattle.states.specs.Comparing.{compared, differ}
use Rattle.alf.proofs.Masks.{mask_set, mask_keep}
use Rattle.states.proofs.changes.mask_of.Goals as goal
use Rattle.states.proofs.changes.mask_of.Goals.{then-old-i, else-old-i}

pub loop-i-init : goal.loop-i-init
unfolding mask_of
loop-i-init c = (search rules, c.places-n.ensures, refl)

pub loop-i-preserved : goal.loop-i-preserved
loop-i-preserved c =
    let p = differ c.args.old.now c.args.new.now in
    let i = c.loop-i.i in (
      omega arith,
      c.loop-i.invariant.1,
      elim c.if-old-i.branch [
        | then-old-i w ↦ w.mask-is ∙ mask_set i _ p (omega arith) c.loop-i.invariant.2 (rw (ne_eqb _ _ w.if-old-i.true) refl)
        | else-old-i w ↦ w.mask-is ∙ mask_keep i _ p c.loop-i.invariant.2 (rw (eq-eqb _ _ w.if-old-i.false) refl)
      ],
    )

pub returns : goal.returns
returns c =
    let l = c.loop-i in
    let args = c.args in
    let e : l.i ≡ compared (length args.old.now) (length args.new.now) = omega arith in
    l.invariant.2 ∙ ap (λ (k : ℕ). mask_of k (differ args.old.now args.new.now)) e
