use native.Mathlib.Omega.{arith}
use Rattle.figures.proofs.Digits.{width_small, width_more, width_some, width_word}
use Rattle.figures.proofs.numbers.width_of.Goals as goal

pub loop-m-init : goal.loop-m-init
loop-m-init c = (omega arith, omega arith, omega arith)

pub overflow_add-w : goal.overflow_add-w
overflow_add-w c =
    omega (arith, c.loop-m.invariant, width_word c.args.n c.ranges.n, width_some c.loop-m.m)

pub loop-m-preserved : goal.loop-m-preserved
loop-m-preserved c = (
  omega arith,
  omega (arith, c.loop-m.invariant),
  omega (
    arith,
    c.loop-m.invariant,
    width_more c.loop-m.m
        (omega (arith, c.loop-m.invariant, c.ranges.n.fits))
        c.loop-m-test.true,
  ),
)

pub returns : goal.returns
returns c =
    let e = width_small c.loop-m.m c.loop-m-test.false in
    record {
      is = omega (arith, c.loop-m.invariant, e);
      some = omega (arith, c.loop-m.invariant);
      few = omega (arith, c.loop-m.invariant, e, width_word c.args.n c.ranges.n);
    }
