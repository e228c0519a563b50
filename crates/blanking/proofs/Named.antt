-- The pins that an expression names.
--   state_local                the state of a boolean expression depends on the pins that it names
--   Within                     an operand that names no other pins
--   asked_within, lists_within the operands of an expression, of alternatives
--   names_over                 the pins that an expression over k names names are below k
use Prim.Native.Nat.{ℕ, ◌<◌}
use native.Mathlib.Omega.{arith}
use mathlib.Core.Path.{◌≡◌, refl, ap}
use mathlib.Core.Bool.{Bool, true, false, ◌||◌}
use mathlib.Core.List.{List, [], ◌∷◌}
use borrow.Author.Tests.{eq-eqb, eqb-true}
use Rattle.basics.proofs.Bools.{never}
use Rattle.basics.proofs.AllEntries.{All, none, more}
use Rattle.alf.specs.declared.Rules.{Rules}
use Rattle.alf.specs.Expressions.{Boolean, name, literal, negated, binary, choice, Vector, edge, join, while}
use Rattle.alf.specs.Expressions.{Over, VectorOver}
use Rattle.alf.specs.States.{reduce, not_of_lem}
use Rattle.alf.specs.Values.{value, recorded_or, state}
use Rattle.alf.specs.Alternatives.{test, Step, Alternative}
use Rattle.alf.proofs.Conditions.{Asked, AsksTest, Asks}
use Rattle.named_pins.specs.Pins.{names, names_in, names_in_step, names_in_one, names_of}

pub or_first : (p q : Bool) → p ≡ true → (p || q) ≡ true
or_first true q h = refl
or_first false q h = never h

pub or_second : (p q : Bool) → q ≡ true → (p || q) ≡ true
or_second true q h = refl
or_second false q h = h

pub or_either : {P : Type 0} (p q : Bool) → (p || q) ≡ true → (p ≡ true → P) → (q ≡ true → P) → P
or_either true q h f g = f refl
or_either false q h f g = g h

module _ (ρ : Rules) (r r' : ℕ → ℕ) where
  -- two rows agree on the pins that an expression names
  abbrev Agrees : Boolean → Type 0
  Agrees c = (n : ℕ) → names c n ≡ true → r n ≡ r' n

  recorded_local : (c : Boolean) → Agrees c → {v w : ℕ} → v ≡ w → recorded_or r c v ≡ recorded_or r' c w
  unfolding recorded_or names
  recorded_local (name i) h e = h i (eq-eqb i i refl)
  recorded_local (literal s) h e = e
  recorded_local (negated a) h e = e
  recorded_local (binary o a b) h e = e
  recorded_local (choice c a b) h e = e

  value_local : (c : Boolean) → Agrees c → value ρ r c ≡ value ρ r' c
  unfolding value names
  value_local (name i) h = ap reduce (h i (eq-eqb i i refl))
  value_local (literal s) h = refl
  value_local (negated a) h = ap not_of_lem (value_local a h)
  value_local (binary o a b) h =
      let f : Agrees a = λ n e. h n (or_first (names a n) (names b n) e) in
      let g : Agrees b = λ n e. h n (or_second (names a n) (names b n) e) in
      rw (recorded_local a f (value_local a f), recorded_local b g (value_local b g)) refl
  value_local (choice c a b) h =
      let f : Agrees c = λ n e. h n (or_first (names c n) (names a n || names b n) e) in
      let rest : (n : ℕ) → (names a n || names b n) ≡ true → r n ≡ r' n =
      λ n e. h n (or_second (names c n) (names a n || names b n) e) in
      let g : Agrees a = λ n e. rest n (or_first (names a n) (names b n) e) in
      let k : Agrees b = λ n e. rest n (or_second (names a n) (names b n) e) in
      rw (value_local c f, value_local a g, value_local b k) refl

  pub state_local : (c : Boolean) → Agrees c → state ρ r c ≡ state ρ r' c
  unfolding state
  state_local c h = recorded_local c h (value_local c h)

-- the operands of an expression name no other pins
abbrev pub Within : (ℕ → Bool) → Boolean → Type 0
Within pins c = (n : ℕ) → names c n ≡ true → pins n ≡ true

pub asked_within : (pins : ℕ → Bool) (p : Vector) → ((n : ℕ) → names_in p n ≡ true → pins n ≡ true)
    → Asked (Within pins) p
unfolding names_in
asked_within pins (edge e c) h = h
asked_within pins (join j p q) h = (
  asked_within pins p (λ n e. h n (or_first (names_in p n) (names_in q n) e)),
  asked_within pins q (λ n e. h n (or_second (names_in p n) (names_in q n) e)),
)
asked_within pins (while s p c) h = (
  asked_within pins p (λ n e. h n (or_first (names_in p n) (names c n) e)),
  λ n e. h n (or_second (names_in p n) (names c n) e),
)

module _ (pins : ℕ → Bool) where
  step_within : (s : Step) → ((n : ℕ) → names_in_step s n ≡ true → pins n ≡ true) → All (AsksTest (Within pins)) s
  unfolding names_in_step
  step_within [] h = none
  step_within (test e c ∷ s) h =
      more {x = test e c} (λ n g. h n (or_first (names c n) (names_in_step s n) g))
      (step_within s (λ n g. h n (or_second (names c n) (names_in_step s n) g)))

  one_within : (x : Alternative) → ((n : ℕ) → names_in_one x n ≡ true → pins n ≡ true) → Asks (Within pins) x
  unfolding names_in_one
  one_within [] h = none
  one_within (s ∷ x) h =
      more (step_within s (λ n g. h n (or_first (names_in_step s n) (names_in_one x n) g)))
      (one_within x (λ n g. h n (or_second (names_in_step s n) (names_in_one x n) g)))

  pub lists_within : (xs : List Alternative) → ((n : ℕ) → names_of xs n ≡ true → pins n ≡ true)
      → All (Asks (Within pins)) xs
  unfolding names_of
  lists_within [] h = none
  lists_within (x ∷ xs) h =
      more (one_within x (λ n g. h n (or_first (names_in_one x n) (names_of xs n) g)))
      (lists_within xs (λ n g. h n (or_second (names_in_one x n) (names_of xs n) g)))

module _ (k n : ℕ) where
  operand_over : (c : Boolean) → Over k c → names c n ≡ true → n < k
  unfolding Over names
  operand_over (name i) o h = let e = eqb-true i n h in omega arith
  operand_over (literal s) o h = never h
  operand_over (negated a) o h = operand_over a o h
  operand_over (binary f a b) o h =
      or_either (names a n) (names b n) h (operand_over a o.0) (operand_over b o.1)
  operand_over (choice c a b) o h =
      or_either (names c n) (names a n || names b n) h (operand_over c o.0)
      (λ g. or_either (names a n) (names b n) g (operand_over a o.1) (operand_over b o.2))

  pub names_over : (p : Vector) → VectorOver k p → names_in p n ≡ true → n < k
  unfolding VectorOver names_in
  names_over (edge e c) o h = operand_over c o.1 h
  names_over (join j p q) o h =
      or_either (names_in p n) (names_in q n) h (names_over p o.0) (names_over q o.1)
  names_over (while s p c) o h =
      or_either (names_in p n) (names c n) h (names_over p o.0) (operand_over c o.1)
