-- The state and the value of a boolean expression are codes of states, where the recorded states are: value_code.
use Rattle.std.specs.Prelude.{if◌then◌else◌}
use Prim.Native.Nat.{ℕ, ◌<◌}
use native.Mathlib.Omega.{arith}
use mathlib.Core.Path.{◌≡◌, refl}
use mathlib.Core.Bool.{Bool, true, false, ◌&&◌}
use lib.Dec.{eqb}
use borrow.Author.Tests.{ltb-true}
use Rattle.alf.specs.declared.Rules.{Rules}
use Rattle.alf.specs.States.{reduce, rank, ranked, not_of_lem, and_of, or_of, xor_of, xnor_of, relations, at_least, at_most}
use Rattle.alf.specs.States.{table, among, matches, in_cells, in_lines}
use Rattle.alf.specs.Expressions.{Boolean, name, literal, negated, binary, choice, Over}
use Rattle.alf.specs.Expressions.{Binary, and, or, xor, xnor, equals, differs, above, below, is_at_least, is_at_most}
use Rattle.alf.specs.Values.{operate, unresolved, chosen, value, recorded_or}
use Rattle.basics.proofs.Choices.{every, every_at}
use Rattle.basics.proofs.Tables.{codes}

-- of one state, and of two: one test over all of them
coded : (g : ℕ → ℕ) → codes g ≡ true → (x : ℕ) → x < 8 → g x < 8
unfolding codes
coded g t x h = ltb-true (g x) 8 (every_at 8 _ t x h)

coded_two : (g : ℕ → ℕ → ℕ) → every 8 (λ u. codes (g u)) ≡ true → (x y : ℕ) → x < 8 → y < 8
    → g x y < 8
coded_two g t x y h k = coded (g x) (every_at 8 _ t x h) y k

operators : (o : Binary) → every 8 (λ u. codes (operate o u)) ≡ true
unfolding every codes operate reduce rank ranked and_of or_of xor_of xnor_of relations at_least at_most table among matches
    in_cells in_lines
operators and = refl
operators or = refl
operators xor = refl
operators xnor = refl
operators equals = refl
operators differs = refl
operators above = refl
operators below = refl
operators is_at_least = refl
operators is_at_most = refl

not_code : (s : ℕ) → s < 8 → not_of_lem s < 8
unfolding every codes not_of_lem reduce
not_code = coded not_of_lem refl

reduced_code : (s : ℕ) → s < 8 → reduce s < 8
unfolding every codes reduce
reduced_code = coded reduce refl

unresolved_code : (ρ : Rules) (x y : ℕ) → x < 8 → unresolved ρ x y < 8
unfolding unresolved
unresolved_code ρ x y h = go (eqb x y && ρ.equal_branches)
  where
    go : (p : Bool) → (if p then x else 2) < 8
    go true = h
    go false = omega arith

chosen_code : (ρ : Rules) (c x y : ℕ) → x < 8 → y < 8 → chosen ρ c x y < 8
unfolding chosen
chosen_code ρ c x y h k = go (eqb (reduce c) 2) (eqb (reduce c) 1)
  where
    go : (p q : Bool) → (if p then unresolved ρ x y else if q then x else y) < 8
    go true q = unresolved_code ρ x y h
    go false true = h
    go false false = k

module _ (row : ℕ → ℕ) (names : ℕ) (recorded : (n : ℕ) → row n < 8) where
  -- the recorded state, or the value
  recorded_code : (e : Boolean) {v : ℕ} → v < 8 → recorded_or row e v < 8
  unfolding recorded_or
  recorded_code (name i) h = recorded i
  recorded_code (literal l) h = h
  recorded_code (negated a) h = h
  recorded_code (binary o a b) h = h
  recorded_code (choice c a b) h = h

  pub value_code : (ρ : Rules) (e : Boolean) → Over names e → value ρ row e < 8
  unfolding Over value
  value_code ρ (name i) o = reduced_code _ (recorded i)
  value_code ρ (literal s) o = o
  value_code ρ (negated a) o = not_code _ (value_code ρ a o)
  value_code ρ (binary b x y) o =
      coded_two (operate b) (operators b) _ _ (recorded_code x (value_code ρ x o.0))
      (recorded_code y (value_code ρ y o.1))
  value_code ρ (choice c x y) o = chosen_code ρ (value ρ row c) _ _ (value_code ρ x o.1) (value_code ρ y o.2)
