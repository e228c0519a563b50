-- `combining::fill` meets its contract.
use native.Mathlib.Omega.{arith}
use Rattle.state_columns.proofs.Overs.{over_filled}
use Rattle.state_columns.proofs.combining.fill.Goals as goal

pub returns : goal.returns
returns c =
    record {
      over = over_filled _ _ _ _ _ _ (c.fill.ensures.after (λ y e. e)) (omega arith) c.requires.n_in_bounds;
      codes = λ i l. c.requires.v_bound;
    }
