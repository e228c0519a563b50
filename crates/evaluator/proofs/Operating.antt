-- What an operator's byte, or a test on a state, says of the definitions.
--   operated_by     an operator by its byte; past, only: the last of ten bytes
--   settled_name, settled_other   the value behind a name's byte, and behind any other
--   branches_differ, branches_same, branches_old   the three ways of an unknown choice
--   chosen_unknown, chosen_first, chosen_second   the three ways of a choice
use Prim.Native.Nat.{ℕ, ◌+◌, ◌-◌, ◌<◌, ◌≤◌}
use native.Mathlib.Omega.{arith}
use mathlib.Core.Path.{◌≡◌, refl}
use mathlib.Core.Bool.{true, false}
use borrow.Author.Tests.{lt-ltb, le-ltb, eq-eqb, ne_eqb}
use Rattle.alf.specs.declared.Rules.{Rules}
use Rattle.alf.specs.States.{reduce}
use Rattle.alf.specs.Values.{operate, unresolved, chosen}
use Rattle.alf.specs.Decoder.{binary_at}
use Rattle.evaluator.specs.Rows.{IsState, settled_by}

pub operated_by : {op r : ℕ} (k x y : ℕ) → op ≡ k → (r ≡ operate (binary_at (k - 40)) x y) × (r < 8)
    → IsState (operate (binary_at (op - 40)) x y) r
operated_by k x y e h = rw e (record { is = h.0; code = h.1 })

pub past : {k n : ℕ} → k ≤ n → (n ≡ k → ⊥) → k + 1 ≤ n
past h d = omega arith

pub only : {k n : ℕ} → k ≤ n → n < k + 1 → n ≡ k
only h l = omega arith

pub settled_name : {r : ℕ} (b x : ℕ) → b < 32 → (r ≡ reduce x) × (r < 8) → IsState (settled_by b x) r
settled_name b x h g = rw (lt-ltb _ _ h) (record { is = g.0; code = g.1 })

pub settled_other : (b x : ℕ) → 32 ≤ b → x < 8 → IsState (settled_by b x) x
settled_other b x h g = rw (le-ltb _ _ h) (record { is = refl; code = g })

module _ (ρ : Rules) (x y : ℕ) where
  pub branches_differ : (x ≡ y → ⊥) → IsState (unresolved ρ x y) 2
  unfolding unresolved
  branches_differ n = rw (ne_eqb _ _ n) (record { is = refl; code = omega arith })

  pub branches_same : x ≡ y → ρ.equal_branches ≡ true → x < 8 → IsState (unresolved ρ x y) x
  unfolding unresolved
  branches_same e o l = rw (eq-eqb _ _ e, o) (record { is = refl; code = l })

  pub branches_old : x ≡ y → ρ.equal_branches ≡ false → IsState (unresolved ρ x y) 2
  unfolding unresolved
  branches_old e o = rw (eq-eqb _ _ e, o) (record { is = refl; code = omega arith })

module _ (ρ : Rules) {k : ℕ} (c x y : ℕ) (e : k ≡ reduce c) where
  pub chosen_unknown : {r : ℕ} → k ≡ 2 → IsState (unresolved ρ x y) r → IsState (chosen ρ c x y) r
  unfolding chosen
  chosen_unknown h g = rw (← e, eq-eqb _ _ h) g

  pub chosen_first : (k ≡ 2 → ⊥) → k ≡ 1 → x < 8 → IsState (chosen ρ c x y) x
  unfolding chosen
  chosen_first n h l = rw (← e, ne_eqb _ _ n, eq-eqb _ _ h) (record { is = refl; code = l })

  pub chosen_second : (k ≡ 2 → ⊥) → (k ≡ 1 → ⊥) → y < 8 → IsState (chosen ρ c x y) y
  unfolding chosen
  chosen_second n o l = rw (← e, ne_eqb _ _ n, ne_eqb _ _ o) (record { is = refl; code = l })
