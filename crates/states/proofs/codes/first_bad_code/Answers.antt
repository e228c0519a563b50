-- `codes::first_bad_code` meets its contract: where the largest code is below 8, none is above 7.
use native.Mathlib.Omega.{arith}
use Rattle.states.proofs.codes.first_bad_code.Goals as goal

pub returns-then-largest_of-lt8 : goal.returns-then-largest_of-lt8
returns-then-largest_of-lt8 c =
    record {
      within = omega arith;
      before = λ i l. omega (arith, c.largest_of.ensures.all i l, c.if-largest_of-lt8.true);
      there = λ l. absurd (omega arith);
    }
