-- The sort that an operator makes is told by its byte, whatever its operands are.
--   one_sort, pair_sort, three_sort
use Rattle.std.specs.Prelude.{Some, None}
use Prim.Native.Nat.{ℕ, ◌<◌, ◌≤◌}
use native.Mathlib.Omega.{arith}
use mathlib.Core.Path.{◌≡◌, refl}
use mathlib.Core.Bool.{Bool, true, false}
use lib.Dec.{ltb, eqb}
use borrow.Author.Tests.{lt-ltb, le-ltb, ltb-true, ltb-false, eqb-true, ne_eqb}
use Rattle.basics.proofs.Choices.{if_all}
use Rattle.alf.specs.declared.Sort.{Sort}
use Rattle.alf.specs.declared.Sort.TheVariants as sort
use Rattle.trees.specs.Sorts.{given, one_kind, pair_kind, three_kind, made_sort}

low_made : {b : ℕ} → b < 50 → made_sort b ≡ sort.Boolean
unfolding made_sort
low_made {b} h = simp (lt-ltb _ _ h)

vector_made : {b : ℕ} → 50 ≤ b → (b ≡ 60 → ⊥) → (b ≡ 147 → ⊥) → made_sort b ≡ sort.Vector
unfolding made_sort
vector_made {b} h f g = simp (le-ltb _ _ h, ne_eqb _ _ f, ne_eqb _ _ g)

three_made : made_sort 60 ≡ sort.Boolean
unfolding made_sort
three_made = refl

negation_made : made_sort 147 ≡ sort.Boolean
unfolding made_sort
negation_made = refl

given_made : (b : ℕ) {k s : Sort} (q : Bool) → made_sort b ≡ s → Some k ≡ given q s → k ≡ made_sort b
unfolding given
given_made b true d e = cc
given_made b false d e = cc

nothing_made : (b : ℕ) {k : Sort} → Some k ≡ None → k ≡ made_sort b
nothing_made b e = cc

module _ (b : ℕ) {k : Sort} where
  pub one_sort : (r : Sort) → 64 ≤ b → Some k ≡ one_kind b r → k ≡ made_sort b
  unfolding one_kind
  one_sort r h =
      if_all (λ v. Some k ≡ v → k ≡ made_sort b) (ltb b 147)
      (λ q. let l = ltb-true b 147 q in given_made b _ (vector_made (omega arith) (λ e. omega arith) (λ e. omega arith)))
      (λ p. if_all (λ v. Some k ≡ v → k ≡ made_sort b) (eqb b 147)
      (λ q. given_made b _ (rw (eqb-true b 147 q) negation_made))
      (λ q. nothing_made b))

  pub pair_sort : (l r : Sort) → Some k ≡ pair_kind b l r → k ≡ made_sort b
  unfolding pair_kind
  pair_sort l r =
      if_all (λ v. Some k ≡ v → k ≡ made_sort b) (ltb b 50)
      (λ q. given_made b _ (low_made (ltb-true b 50 q)))
      (λ p. let h = ltb-false b 50 p in
      if_all (λ v. Some k ≡ v → k ≡ made_sort b) (ltb b 56)
      (λ q. let l = ltb-true b 56 q in given_made b _ (vector_made h (λ e. omega arith) (λ e. omega arith)))
      (λ p. if_all (λ v. Some k ≡ v → k ≡ made_sort b) (eqb b 56)
      (λ q. let d = eqb-true b 56 q in given_made b _ (vector_made h (λ e. omega arith) (λ e. omega arith)))
      (λ p. if_all (λ v. Some k ≡ v → k ≡ made_sort b) (eqb b 57)
      (λ q. let d = eqb-true b 57 q in given_made b _ (vector_made h (λ e. omega arith) (λ e. omega arith)))
      (λ q. nothing_made b))))

  pub three_sort : (f l r : Sort) → Some k ≡ three_kind b f l r → k ≡ made_sort b
  unfolding three_kind
  three_sort f l r =
      if_all (λ v. Some k ≡ v → k ≡ made_sort b) (eqb b 60)
      (λ q. given_made b _ (rw (eqb-true b 60 q) three_made))
      (λ q. nothing_made b)
