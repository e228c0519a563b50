-- Demand 2 holds, of a boolean expression. Main name: demand_2_values.
use Rattle.std.specs.Prelude.{Err, Ok}
use Prim.Native.Nat.{ℕ, ◌<◌}
use mathlib.Core.Path.{◌≡◌, ap, ◌∙◌}
use mathlib.Core.List.{List}
use lib.ListN.{length}
use Rattle.basics.specs.Refusing.{Outcome}
use Rattle.basics.specs.Words.{listed}
use Rattle.basics.specs.Memory.{after}
use Rattle.alf.specs.Expressions.{Boolean}
use Rattle.alf.specs.Values.{state_at, value_at}
use Rattle.alf.specs.Refusals.{Comes}
use Rattle.alf.proofs.Outcomes.{refused_passed}
use Rattle.row_calls.specs.Written.{RowState, RowValue, AllValues}
use Rattle.call_laws.proofs.Passing.{row_passed, codes_passed}
use Rattle.demands.specs.Questions.{Formula, names_of, tree_of, value_of, state_of}
use Rattle.demands.specs.Values.{Demand2Values}
use Rattle.demands.proofs.Asked.{lists_fit_lem, codes_good, tree_accepted, formula_is}
use Rattle.demands.proofs.Surviving.{survives}

module _ {file text : List ℕ} (q : Formula file text) where
  abbrev k : ℕ
  k = names_of q

  value_at_lem : (i : ℕ) (r : Outcome) → i < q.rows → RowValue q.rules k q.rows (tree_of q) q.states i r
      → r ≡ Ok (value_of q i)
  unfolding Comes
  value_at_lem i (Ok m) l w =
      ap Ok (w.comes.1 ∙ ap (λ (c : Boolean). value_at q.rules k q.states c i) (formula_is q))
  value_at_lem i (Err e) l w =
      absurd
      (refused_passed _ _ _ (row_passed q.states q.rows i (lists_fit_lem q) (tree_accepted q) (codes_good q) l)
      w.comes.by)

  state_at_lem : (i : ℕ) (r : Outcome) → i < q.rows → RowState q.rules k q.rows (tree_of q) q.states i r
      → r ≡ Ok (state_of q i)
  unfolding Comes
  state_at_lem i (Ok m) l w =
      ap Ok (w.comes.1 ∙ ap (λ (c : Boolean). state_at q.rules k q.states c i) (formula_is q))
  state_at_lem i (Err e) l w =
      absurd
      (refused_passed _ _ _ (row_passed q.states q.rows i (lists_fit_lem q) (tree_accepted q) (codes_good q) l)
      w.comes.by)

  all_values_lem : (out out' : List ℕ) (r : Outcome) → length out ≡ q.rows
      → AllValues q.rules k q.rows (tree_of q) q.states out out' r
      → (r ≡ Ok q.rows) × (out' ≡ listed 0 q.rows (value_of q))
  unfolding Comes after
  all_values_lem out out' (Ok m) e w = (
    ap Ok w.comes.1,
    w.memory ∙ ap (λ (c : Boolean). listed 0 q.rows (value_at q.rules k q.states c)) (formula_is q),
  )
  all_values_lem out out' (Err r) e w =
      absurd
      (refused_passed _ _ _ (codes_passed q.states (e, lists_fit_lem q) (tree_accepted q) (codes_good q))
      w.comes.by)

  pub demand_2_values : Demand2Values q
  demand_2_values =
      record { survives = survives q; value_at_lem = value_at_lem; state_at_lem = state_at_lem; all_values_lem = all_values_lem }
