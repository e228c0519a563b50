-- `counting::are_light` meets its contract.
use Rattle.listed_acceptance.proofs.Sums.{Lighting}
use Rattle.listed_acceptance.proofs.counting.are_light.Given as goal

abbrev pub invariant-loop-i : goal.invariant-loop-i
invariant-loop-i l = Lighting l.steps l.tests l.s l.i
