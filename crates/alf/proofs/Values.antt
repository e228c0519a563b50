-- The value and the state of a boolean expression, handier than their definitions say it: by states alone.
--   settled, value_settled                       the value, by the state: only a name's is reduced
--   reduce_twice, reduce_value                   value and state reduce to the same
--   state_negated, state_binary, state_choice    the state of an operator, by the states of its operands
--   value_same, state_same                       rows that agree on the names of an expression agree on it
use Prim.Native.Nat.{ℕ, zero, suc, ◌<◌}
use mathlib.Core.Path.{◌≡◌, refl, ap}
use Rattle.alf.specs.declared.Rules.{Rules}
use Rattle.alf.specs.States.{reduce, not_of_lem}
use Rattle.alf.specs.Expressions.{Boolean, name, literal, negated, binary, choice, Binary, Over}
use Rattle.alf.specs.Values.{operate, chosen, value, recorded_or, state}

-- the value of an expression whose state is s
unfoldable pub settled : Boolean → ℕ → ℕ
settled (name i) s = reduce s
settled (literal l) s = s
settled (negated a) s = s
settled (binary o a b) s = s
settled (choice c a b) s = s

pub reduce_twice : (s : ℕ) → reduce (reduce s) ≡ reduce s
unfolding reduce
reduce_twice zero = refl
reduce_twice (suc zero) = refl
reduce_twice (suc (suc zero)) = refl
reduce_twice (suc (suc (suc zero))) = refl
reduce_twice (suc (suc (suc (suc zero)))) = refl
reduce_twice (suc (suc (suc (suc (suc zero))))) = refl
reduce_twice (suc (suc (suc (suc (suc (suc zero)))))) = refl
reduce_twice (suc (suc (suc (suc (suc (suc (suc zero))))))) = refl
reduce_twice (suc (suc (suc (suc (suc (suc (suc (suc s)))))))) = refl

module _ (row : ℕ → ℕ) where
  pub value_settled : (ρ : Rules) (e : Boolean) → value ρ row e ≡ settled e (state ρ row e)
  unfolding settled value state recorded_or
  value_settled ρ (name i) = refl
  value_settled ρ (literal l) = refl
  value_settled ρ (negated a) = refl
  value_settled ρ (binary o a b) = refl
  value_settled ρ (choice c a b) = refl

  pub reduce_value : (ρ : Rules) (e : Boolean) → reduce (value ρ row e) ≡ reduce (state ρ row e)
  unfolding value state recorded_or
  reduce_value ρ (name i) = reduce_twice (row i)
  reduce_value ρ (literal l) = refl
  reduce_value ρ (negated a) = refl
  reduce_value ρ (binary o a b) = refl
  reduce_value ρ (choice c a b) = refl

  pub state_negated : (ρ : Rules) (a : Boolean) → state ρ row (negated a) ≡ not_of_lem (state ρ row a)
  unfolding state value recorded_or not_of_lem
  state_negated ρ a = rw (reduce_value ρ a) refl

  pub state_binary : (ρ : Rules) (o : Binary) (a b : Boolean)
      → state ρ row (binary o a b) ≡ operate o (state ρ row a) (state ρ row b)
  unfolding state value recorded_or
  state_binary ρ o a b = refl

  pub state_choice : (ρ : Rules) (c a b : Boolean)
      → state ρ row (choice c a b) ≡ chosen ρ (state ρ row c) (value ρ row a) (value ρ row b)
  unfolding state value recorded_or chosen
  state_choice ρ c a b = rw (reduce_value ρ c) refl

-- rows that agree on the first n names
module _ (n : ℕ) (row row' : ℕ → ℕ) (h : (i : ℕ) → i < n → row i ≡ row' i) where
  recorded_same : (c : Boolean) → Over n c → {v w : ℕ} → v ≡ w → recorded_or row c v ≡ recorded_or row' c w
  unfolding recorded_or Over
  recorded_same (name i) o e = h i o
  recorded_same (literal l) o e = e
  recorded_same (negated a) o e = e
  recorded_same (binary k a b) o e = e
  recorded_same (choice c a b) o e = e

  pub value_same : (ρ : Rules) (c : Boolean) → Over n c → value ρ row c ≡ value ρ row' c
  unfolding value Over
  value_same ρ (name i) o = ap reduce (h i o)
  value_same ρ (literal l) o = refl
  value_same ρ (negated a) o = ap not_of_lem (value_same ρ a o)
  value_same ρ (binary k a b) o =
      rw (recorded_same a o.0 (value_same ρ a o.0), recorded_same b o.1 (value_same ρ b o.1)) refl
  value_same ρ (choice c a b) o = rw (value_same ρ c o.0, value_same ρ a o.1, value_same ρ b o.2) refl

  pub state_same : (ρ : Rules) (c : Boolean) → Over n c → state ρ row c ≡ state ρ row' c
  unfolding state
  state_same ρ c o = recorded_same c o (value_same ρ c o)
