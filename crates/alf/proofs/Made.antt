-- What a byte makes of a stack of expressions, one case for each kind of byte: laws about bytes go by these cases.
-- Main names: Made, made.
use Prim.Native.Nat.{ℕ, ◌-◌, ◌<◌, ◌≤◌}
use mathlib.Core.Path.{◌≡◌, refl, ap, ◌∙◌}
use mathlib.Core.Bool.{false}
use lib.Dec.{ltb, eqb}
use borrow.Author.Tests.{ltb-true, ltb-false, eqb-true}
use Rattle.alf.specs.Expressions.{Boolean, name, literal, negated, binary, choice, Vector, edge, join, while}
use Rattle.alf.specs.Expressions.{on_right, on_left, Expression, boolean, vector}
use Rattle.alf.specs.Decoder.{Stack, empty, broken, push, Operation, of_one, of_two, of_three, of_vectors}
use Rattle.alf.specs.Decoder.{of_side, wrong, binary_at, join_at, edge_at, leaf_at, pair_at}
use Rattle.alf.specs.Decoder.{three_at, one_at, operation_at}
use Rattle.alf.specs.Decoder.{is_boolean, is_vector, top_boolean, top_vector, under, if_so, run}
use Rattle.basics.proofs.Choices.{if_all}

-- the stack that byte b leaves of the stack s
pub data Made (names b : ℕ) (s : Stack) : Stack → Type 0 where
  a_name : b < 32 → b < names → Made names b s (push (boolean (name b)) s)
  a_literal : 32 ≤ b → b < 40 → Made names b s (push (boolean (literal (b - 32))) s)
  a_negation : {a : Boolean} {r : Stack} → b ≡ 147 → s ≡ push (boolean a) r
      → Made names b s (push (boolean (negated a)) r)
  a_binary : {a c : Boolean} {r : Stack} → 40 ≤ b → b < 50 → s ≡ push (boolean c) (push (boolean a) r)
      → Made names b s (push (boolean (binary (binary_at (b - 40)) a c)) r)
  a_choice : {f a c : Boolean} {r : Stack} → b ≡ 60
      → s ≡ push (boolean c) (push (boolean a) (push (boolean f) r))
      → Made names b s (push (boolean (choice f a c)) r)
  an_edge : {a : Boolean} {r : Stack} → 64 ≤ b → b < 147 → s ≡ push (boolean a) r
      → Made names b s (push (vector (edge (edge_at (b - 64)) a)) r)
  a_join : {p q : Vector} {r : Stack} → 50 ≤ b → b < 56 → s ≡ push (vector q) (push (vector p) r)
      → Made names b s (push (vector (join (join_at (b - 50)) p q)) r)
  a_condition : {p : Vector} {c : Boolean} {r : Stack} → b ≡ 56 → s ≡ push (boolean c) (push (vector p) r)
      → Made names b s (push (vector (while on_right p c)) r)
  a_condition_before : {p : Vector} {c : Boolean} {r : Stack} → b ≡ 57
      → s ≡ push (vector p) (push (boolean c) r)
      → Made names b s (push (vector (while on_left p c)) r)
  nothing : Made names b s broken

-- a stack has a boolean expression on top, or not; a vector expression, or not
by_boolean : {P : Type 0} (s : Stack) → (is_boolean s ≡ false → P)
    → ((a : Boolean) (r : Stack) → s ≡ push (boolean a) r → P) → P
unfolding is_boolean
by_boolean empty other made_of = other refl
by_boolean broken other made_of = other refl
by_boolean (push (boolean a) r) other made_of = made_of a r refl
by_boolean (push (vector p) r) other made_of = other refl

by_vector : {P : Type 0} (s : Stack) → (is_vector s ≡ false → P)
    → ((p : Vector) (r : Stack) → s ≡ push (vector p) r → P) → P
unfolding is_vector
by_vector empty other made_of = other refl
by_vector broken other made_of = other refl
by_vector (push (boolean a) r) other made_of = other refl
by_vector (push (vector p) r) other made_of = made_of p r refl

-- what an operation leaves: broken, or what it makes of its operands
module _ (P : Stack → Type 0) (none : P broken) (s : Stack) where
  run_one : (f : Boolean → Expression)
      → ((a : Boolean) (r : Stack) → s ≡ push (boolean a) r → P (push (f a) r))
      → P (run (of_one f) s)
  unfolding run if_so is_boolean top_boolean under
  run_one f made_of = by_boolean s (λ e. rw e none) (λ a r e. rw e (made_of a r e))

  run_two : (f : Boolean → Boolean → Boolean)
      → ((a c : Boolean) (r : Stack) → s ≡ push (boolean c) (push (boolean a) r) → P (push (boolean (f a c)) r))
      → P (run (of_two f) s)
  unfolding run if_so is_boolean top_boolean under
  run_two f made_of =
      by_boolean s (λ e. rw e none)
      (λ c q e. rw e (by_boolean q (λ d. rw d none) (λ a r d. rw d (made_of a c r (e ∙ ap (push (boolean c)) d)))))

  run_three : (f : Boolean → Boolean → Boolean → Boolean)
      → ((h a c : Boolean) (r : Stack) → s ≡ push (boolean c) (push (boolean a) (push (boolean h) r))
      → P (push (boolean (f h a c)) r))
      → P (run (of_three f) s)
  unfolding run if_so is_boolean top_boolean under
  run_three f made_of =
      by_boolean s (λ e. rw e none)
      (λ c q e. rw e (by_boolean q (λ d. rw d none)
      (λ a o d. rw d (by_boolean o (λ g. rw g none)
      (λ h r g. rw g (made_of h a c r (e ∙ ap (push (boolean c)) (d ∙ ap (push (boolean a)) g))))))))

  run_vectors : (f : Vector → Vector → Vector)
      → ((p q : Vector) (r : Stack) → s ≡ push (vector q) (push (vector p) r) → P (push (vector (f p q)) r))
      → P (run (of_vectors f) s)
  unfolding run if_so is_vector top_vector under
  run_vectors f made_of =
      by_vector s (λ e. rw e none)
      (λ q o e. rw e (by_vector o (λ d. rw d none) (λ p r d. rw d (made_of p q r (e ∙ ap (push (vector q)) d)))))

  run_right : ((p : Vector) (c : Boolean) (r : Stack) → s ≡ push (boolean c) (push (vector p) r)
      → P (push (vector (while on_right p c)) r))
      → P (run (of_side on_right) s)
  unfolding run if_so is_boolean is_vector top_boolean top_vector under
  run_right made_of =
      by_boolean s (λ e. rw e none)
      (λ c o e. rw e (by_vector o (λ d. rw d none) (λ p r d. rw d (made_of p c r (e ∙ ap (push (boolean c)) d)))))

  run_left : ((p : Vector) (c : Boolean) (r : Stack) → s ≡ push (vector p) (push (boolean c) r)
      → P (push (vector (while on_left p c)) r))
      → P (run (of_side on_left) s)
  unfolding run if_so is_boolean is_vector top_boolean top_vector under
  run_left made_of =
      by_vector s (λ e. rw e none)
      (λ p o e. rw e (by_boolean o (λ d. rw d none) (λ c r d. rw d (made_of p c r (e ∙ ap (push (vector p)) d)))))

module _ (names b : ℕ) (s : Stack) where
  abbrev Left : Stack → Type 0
  Left s' = Made names b s s'

  abbrev By : Operation → Type 0
  By o = Left (run o s)

  by_wrong : By wrong
  unfolding run
  by_wrong = nothing

  by_leaf : b < 40 → By (leaf_at names b)
  unfolding leaf_at run
  by_leaf l =
      if_all By (ltb b 32)
      (λ e. if_all By (ltb b names) (λ d. a_name (ltb-true b 32 e) (ltb-true b names d)) (λ d. nothing))
      (λ e. a_literal (ltb-false b 32 e) l)

  by_pair : 40 ≤ b → By (pair_at b)
  unfolding pair_at
  by_pair l =
      if_all By (ltb b 50)
      (λ e. run_two Left nothing s _ (λ a c r d. a_binary l (ltb-true b 50 e) d))
      (λ e. if_all By (ltb b 56)
      (λ f. run_vectors Left nothing s _ (λ p q r d. a_join (ltb-false b 50 e) (ltb-true b 56 f) d))
      (λ f. if_all By (eqb b 56)
      (λ g. run_right Left nothing s (λ p c r d. a_condition (eqb-true b 56 g) d))
      (λ g. if_all By (eqb b 57)
      (λ h. run_left Left nothing s (λ p c r d. a_condition_before (eqb-true b 57 h) d))
      (λ h. by_wrong))))

  by_three : By (three_at b)
  unfolding three_at
  by_three =
      if_all By (eqb b 60) (λ e. run_three Left nothing s _ (λ f a c r d. a_choice (eqb-true b 60 e) d))
      (λ e. by_wrong)

  by_one : 64 ≤ b → By (one_at b)
  unfolding one_at
  by_one l =
      if_all By (ltb b 147)
      (λ e. run_one Left nothing s _ (λ a r d. an_edge l (ltb-true b 147 e) d))
      (λ e. if_all By (eqb b 147)
      (λ f. run_one Left nothing s _ (λ a r d. a_negation (eqb-true b 147 f) d))
      (λ f. by_wrong))

  pub made : Made names b s (run (operation_at names b) s)
  unfolding operation_at
  made =
      if_all By (ltb b 40) (λ e. by_leaf (ltb-true b 40 e))
      (λ e. if_all By (ltb b 60) (λ f. by_pair (ltb-false b 40 e))
      (λ f. if_all By (ltb b 64) (λ g. by_three) (λ g. by_one (ltb-false b 64 g))))
