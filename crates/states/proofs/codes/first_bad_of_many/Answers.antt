-- `codes::first_bad_of_many` meets its contract: where the largest code is below 8, none is above 7.
use native.Mathlib.Omega.{arith}
use Rattle.states.proofs.codes.first_bad_of_many.Goals as goal

pub returns-then-largest-lt8 : goal.returns-then-largest-lt8
returns-then-largest-lt8 c =
    record {
      within = omega arith;
      before = λ i l. omega (arith, c.largest.ensures.all i l, c.if-largest-lt8.true);
      there = λ l. absurd (omega arith);
    }
