use native.Mathlib.Omega.{arith}
use Rattle.tokens.proofs.Counts.{over_hit, over_more, over_end, size, found_here, found_none}
use Rattle.tokens.specs.Inner.{changed}
use Rattle.tokens.proofs.limits.first_over.Goals as goal

pub loop-i-init : goal.loop-i-init
loop-i-init c = (omega arith, omega arith, omega arith)

pub returns-then-limit-n : goal.returns-then-limit-n
returns-then-limit-n c =
    let here =
    over_hit _ _ _ _ c.requires.there _ _
    c.loop-i.invariant.2 c.loop-i-test.true
    c.after-n.ensures c.if-limit-n.true in
    found_here _ _ _ here (omega (arith, size (changed c.args.brackets) c.args.limit _ _ c.requires.there))

pub loop-i-preserved : goal.loop-i-preserved
loop-i-preserved c = (
  omega arith,
  c.if-limit-n.false,
  over_more _ _ _ _ c.requires.there _ _
      c.loop-i.invariant.2 c.loop-i-test.true
      c.after-n.ensures c.if-limit-n.false,
)

pub returns : goal.returns
returns c =
    let end =
    over_end _ _ _ _ c.requires.there _ _ c.loop-i.invariant.2 c.loop-i-test.false
    c.loop-i.invariant.0 in
    found_none _ _ _ (omega (arith, size (changed c.args.brackets) c.args.limit _ _ c.requires.there))
