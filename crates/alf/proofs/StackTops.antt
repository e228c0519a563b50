-- What stands on top of the stack behind each class of byte, and what its operands were.
-- Main names: name_top, literal_top, negation_top, binary_top, choice_top; edge_top, join_top, condition_top,
-- condition_before_top, vector_class. Each says what the top is, and that its operands are of their sort.
use Prim.Native.Nat.{ℕ, ◌-◌, ◌<◌, ◌≤◌}
use native.Mathlib.Omega.{arith}
use mathlib.Core.Path.{◌≡◌, refl}
use mathlib.Core.Bool.{true}
use Rattle.alf.specs.Expressions.{name, literal, negated, binary, choice, edge, join, while}
use Rattle.alf.specs.Expressions.{on_right, on_left}
use Rattle.alf.specs.Decoder.{Stack, binary_at, join_at, edge_at, is_boolean, is_vector, top_boolean, top_vector, under}
use Rattle.basics.proofs.Bools.{never}
use Rattle.alf.proofs.Made.{Made, a_name, a_literal, a_negation, a_binary, a_choice, an_edge, a_join}
use Rattle.alf.proofs.Made.{a_condition, a_condition_before, nothing}

-- behind byte b the stack s is s'
pub record NameTop (names b : ℕ) (s' : Stack) : Type 0 where
  pub known : b < names
  pub is : top_boolean s' ≡ name b

pub record NegationTop (s s' : Stack) : Type 0 where
  pub is : top_boolean s' ≡ negated (top_boolean s)
  pub right : is_boolean s ≡ true

pub record BinaryTop (b : ℕ) (s s' : Stack) : Type 0 where
  pub small : b < 50
  pub is : top_boolean s' ≡ binary (binary_at (b - 40)) (top_boolean (under s)) (top_boolean s)
  pub right : is_boolean s ≡ true
  pub left : is_boolean (under s) ≡ true

pub record ChoiceTop (s s' : Stack) : Type 0 where
  pub is : top_boolean s' ≡ choice (top_boolean (under (under s))) (top_boolean (under s)) (top_boolean s)
  pub right : is_boolean s ≡ true
  pub left : is_boolean (under s) ≡ true
  pub first : is_boolean (under (under s)) ≡ true

pub record EdgeTop (b : ℕ) (s s' : Stack) : Type 0 where
  pub small : b < 147
  pub is : top_vector s' ≡ edge (edge_at (b - 64)) (top_boolean s)
  pub right : is_boolean s ≡ true

pub record JoinTop (b : ℕ) (s s' : Stack) : Type 0 where
  pub large : 50 ≤ b
  pub is : top_vector s' ≡ join (join_at (b - 50)) (top_vector (under s)) (top_vector s)
  pub right : is_vector s ≡ true
  pub left : is_vector (under s) ≡ true

pub record ConditionTop (s s' : Stack) : Type 0 where
  pub is : top_vector s' ≡ while on_right (top_vector (under s)) (top_boolean s)
  pub right : is_boolean s ≡ true
  pub left : is_vector (under s) ≡ true

pub record ConditionBeforeTop (s s' : Stack) : Type 0 where
  pub is : top_vector s' ≡ while on_left (top_vector s) (top_boolean (under s))
  pub right : is_vector s ≡ true
  pub left : is_boolean (under s) ≡ true

pub name_top : (names b : ℕ) {s s' : Stack} → Made names b s s' → is_boolean s' ≡ true → b < 32
    → NameTop names b s'
unfolding is_boolean is_vector top_boolean top_vector under
name_top names b (a_name l u) h v = record { known = u; is = refl }
name_top names b (a_literal l u) h v = absurd (omega arith)
name_top names b (a_negation k e) h v = absurd (omega arith)
name_top names b (a_binary l u e) h v = absurd (omega arith)
name_top names b (a_choice k e) h v = absurd (omega arith)
name_top names b (an_edge l u e) h v = never h
name_top names b (a_join l u e) h v = never h
name_top names b (a_condition k e) h v = never h
name_top names b (a_condition_before k e) h v = never h
name_top names b nothing h v = never h

pub literal_top : (names b : ℕ) {s s' : Stack} → Made names b s s' → is_boolean s' ≡ true → 32 ≤ b
    → b < 40
    → top_boolean s' ≡ literal (b - 32)
unfolding is_boolean is_vector top_boolean top_vector under
literal_top names b (a_name l u) h v w = absurd (omega arith)
literal_top names b (a_literal l u) h v w = refl
literal_top names b (a_negation k e) h v w = absurd (omega arith)
literal_top names b (a_binary l u e) h v w = absurd (omega arith)
literal_top names b (a_choice k e) h v w = absurd (omega arith)
literal_top names b (an_edge l u e) h v w = never h
literal_top names b (a_join l u e) h v w = never h
literal_top names b (a_condition k e) h v w = never h
literal_top names b (a_condition_before k e) h v w = never h
literal_top names b nothing h v w = never h

pub negation_top : (names b : ℕ) {s s' : Stack} → Made names b s s' → is_boolean s' ≡ true → 64 ≤ b
    → NegationTop s s'
unfolding is_boolean is_vector top_boolean top_vector under
negation_top names b (a_name l u) h v = absurd (omega arith)
negation_top names b (a_literal l u) h v = absurd (omega arith)
negation_top names b (a_negation k e) h v = rw e (record { is = refl; right = refl })
negation_top names b (a_binary l u e) h v = absurd (omega arith)
negation_top names b (a_choice k e) h v = absurd (omega arith)
negation_top names b (an_edge l u e) h v = never h
negation_top names b (a_join l u e) h v = never h
negation_top names b (a_condition k e) h v = never h
negation_top names b (a_condition_before k e) h v = never h
negation_top names b nothing h v = never h

pub binary_top : (names b : ℕ) {s s' : Stack} → Made names b s s' → is_boolean s' ≡ true → 40 ≤ b
    → b < 60
    → BinaryTop b s s'
unfolding is_boolean is_vector top_boolean top_vector under
binary_top names b (a_name l u) h v w = absurd (omega arith)
binary_top names b (a_literal l u) h v w = absurd (omega arith)
binary_top names b (a_negation k e) h v w = absurd (omega arith)
binary_top names b (a_binary l u e) h v w = rw e (record { small = u; is = refl; right = refl; left = refl })
binary_top names b (a_choice k e) h v w = absurd (omega arith)
binary_top names b (an_edge l u e) h v w = never h
binary_top names b (a_join l u e) h v w = never h
binary_top names b (a_condition k e) h v w = never h
binary_top names b (a_condition_before k e) h v w = never h
binary_top names b nothing h v w = never h

pub choice_top : (names b : ℕ) {s s' : Stack} → Made names b s s' → is_boolean s' ≡ true → 60 ≤ b
    → b < 64
    → ChoiceTop s s'
unfolding is_boolean is_vector top_boolean top_vector under
choice_top names b (a_name l u) h v w = absurd (omega arith)
choice_top names b (a_literal l u) h v w = absurd (omega arith)
choice_top names b (a_negation k e) h v w = absurd (omega arith)
choice_top names b (a_binary l u e) h v w = absurd (omega arith)
choice_top names b (a_choice k e) h v w = rw e (record { is = refl; right = refl; left = refl; first = refl })
choice_top names b (an_edge l u e) h v w = never h
choice_top names b (a_join l u e) h v w = never h
choice_top names b (a_condition k e) h v w = never h
choice_top names b (a_condition_before k e) h v w = never h
choice_top names b nothing h v w = never h

pub edge_top : (names b : ℕ) {s s' : Stack} → Made names b s s' → is_vector s' ≡ true → 64 ≤ b
    → EdgeTop b s s'
unfolding is_boolean is_vector top_boolean top_vector under
edge_top names b (a_name l u) h v = never h
edge_top names b (a_literal l u) h v = never h
edge_top names b (a_negation k e) h v = never h
edge_top names b (a_binary l u e) h v = never h
edge_top names b (a_choice k e) h v = never h
edge_top names b (an_edge l u e) h v = rw e (record { small = u; is = refl; right = refl })
edge_top names b (a_join l u e) h v = absurd (omega arith)
edge_top names b (a_condition k e) h v = absurd (omega arith)
edge_top names b (a_condition_before k e) h v = absurd (omega arith)
edge_top names b nothing h v = never h

pub join_top : (names b : ℕ) {s s' : Stack} → Made names b s s' → is_vector s' ≡ true → b < 56
    → JoinTop b s s'
unfolding is_boolean is_vector top_boolean top_vector under
join_top names b (a_name l u) h v = never h
join_top names b (a_literal l u) h v = never h
join_top names b (a_negation k e) h v = never h
join_top names b (a_binary l u e) h v = never h
join_top names b (a_choice k e) h v = never h
join_top names b (an_edge l u e) h v = absurd (omega arith)
join_top names b (a_join l u e) h v = rw e (record { large = l; is = refl; right = refl; left = refl })
join_top names b (a_condition k e) h v = absurd (omega arith)
join_top names b (a_condition_before k e) h v = absurd (omega arith)
join_top names b nothing h v = never h

pub condition_top : (names b : ℕ) {s s' : Stack} → Made names b s s' → is_vector s' ≡ true → b ≡ 56
    → ConditionTop s s'
unfolding is_boolean is_vector top_boolean top_vector under
condition_top names b (a_name l u) h v = never h
condition_top names b (a_literal l u) h v = never h
condition_top names b (a_negation k e) h v = never h
condition_top names b (a_binary l u e) h v = never h
condition_top names b (a_choice k e) h v = never h
condition_top names b (an_edge l u e) h v = absurd (omega arith)
condition_top names b (a_join l u e) h v = absurd (omega arith)
condition_top names b (a_condition k e) h v = rw e (record { is = refl; right = refl; left = refl })
condition_top names b (a_condition_before k e) h v = absurd (omega arith)
condition_top names b nothing h v = never h

pub condition_before_top : (names b : ℕ) {s s' : Stack} → Made names b s s' → is_vector s' ≡ true
    → b ≡ 57
    → ConditionBeforeTop s s'
unfolding is_boolean is_vector top_boolean top_vector under
condition_before_top names b (a_name l u) h v = never h
condition_before_top names b (a_literal l u) h v = never h
condition_before_top names b (a_negation k e) h v = never h
condition_before_top names b (a_binary l u e) h v = never h
condition_before_top names b (a_choice k e) h v = never h
condition_before_top names b (an_edge l u e) h v = absurd (omega arith)
condition_before_top names b (a_join l u e) h v = absurd (omega arith)
condition_before_top names b (a_condition k e) h v = absurd (omega arith)
condition_before_top names b (a_condition_before k e) h v = rw e (record { is = refl; right = refl; left = refl })
condition_before_top names b nothing h v = never h

-- the last byte of a vector expression is a join's, a condition's or an edge's
pub vector_class : (names b : ℕ) {s s' : Stack} → Made names b s s' → is_vector s' ≡ true → b < 64
    → (50 ≤ b) × (b < 58)
unfolding is_vector
vector_class names b (a_name l u) h v = never h
vector_class names b (a_literal l u) h v = never h
vector_class names b (a_negation k e) h v = never h
vector_class names b (a_binary l u e) h v = never h
vector_class names b (a_choice k e) h v = never h
vector_class names b (an_edge l u e) h v = absurd (omega arith)
vector_class names b (a_join l u e) h v = (l, omega arith)
vector_class names b (a_condition k e) h v = (omega arith, omega arith)
vector_class names b (a_condition_before k e) h v = (omega arith, omega arith)
vector_class names b nothing h v = never h
