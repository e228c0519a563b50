-- Demand 2 of a boolean expression: its value and its state at every row.
--   Demand2Values      one by one, all together, and that it survives writing and reading
use Rattle.std.specs.Prelude.{Ok}
use Rattle.std.specs.Prelude.{ℕ, ◌<◌, ◌≡◌, List, length}
use Rattle.basics.specs.Refusing.{Outcome}
use Rattle.basics.specs.Words.{listed}
use Rattle.row_calls.specs.Written.{RowState, RowValue, AllValues}
use Rattle.demands.specs.Questions.{Formula, names_of, tree_of}
use Rattle.demands.specs.Questions.{value_of, state_of}
use Rattle.demands.specs.Survival.{Survives}

-- A boolean expression: its value and its state at every row.
module _ {file text : List ℕ} (q : Formula file text) where
  pub record Demand2Values : Type 0 where
    pub survives : Survives q
    pub value_at_lem : (i : ℕ) (r : Outcome) → i < q.rows
        → RowValue q.rules (names_of q) q.rows (tree_of q) q.states i r
        → r ≡ Ok (value_of q i)
    pub state_at_lem : (i : ℕ) (r : Outcome) → i < q.rows
        → RowState q.rules (names_of q) q.rows (tree_of q) q.states i r
        → r ≡ Ok (state_of q i)
    pub all_values_lem : (out out' : List ℕ) (r : Outcome) → length out ≡ q.rows
        → AllValues q.rules (names_of q) q.rows (tree_of q) q.states out out' r
        → (r ≡ Ok q.rows) × (out' ≡ listed 0 q.rows (value_of q))
