-- `add` meets its contract.
use native.Mathlib.Omega.{arith}
use lib.Dec.{eqb}
use Rattle.basics.proofs.Counts.{one_small}
use Rattle.began_listings.proofs.rows.add.Goals as goal

pub overflow_add-result-2 : goal.overflow_add-result-2
overflow_add-result-2 c = omega (arith, c.requires.yeses, c.same.ensures, one_small (eqb c.args.a 1))

pub overflow_add-result-3 : goal.overflow_add-result-3
overflow_add-result-3 c = omega (arith, c.requires.noes, c.same-2.ensures, one_small (eqb c.args.a 0))

pub overflow_add-result-4 : goal.overflow_add-result-4
overflow_add-result-4 c =
    omega (arith, c.requires.unknowns, c.same-3.ensures, one_small (eqb c.args.a 2))
