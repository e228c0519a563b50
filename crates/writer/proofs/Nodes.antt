-- The tree of the expression on top of a stack, from the byte that made it.
--   leaf_node, one_node, two_node, three_node   by how many operands the byte takes
use Prim.Native.Nat.{ℕ, ◌-◌, ◌<◌, ◌≤◌}
use native.Mathlib.Omega.{arith}
use mathlib.Core.Path.{◌≡◌, refl, sym, ap, ◌∙◌}
use mathlib.Core.Bool.{true}
use mathlib.Core.Logic.{◌⊎◌, inl, inr}
use lib.Dec.{eqb}
use borrow.Author.Tests.{eqb-true, lt-ltb}
use Rattle.alf.specs.Bytes.{binary_byte}
use Rattle.alf.specs.Decoder.{Stack, under, join_at, binary_at}
use Rattle.basics.proofs.Bools.{never}
use Rattle.alf.proofs.OperatorBytes.{binary_byte_lem, edge_byte}
use Rattle.alf.proofs.Made.{Made, a_name, a_literal, a_negation, a_binary, a_choice, an_edge, a_join}
use Rattle.alf.proofs.Made.{a_condition, a_condition_before, nothing}
use Rattle.grammar.specs.Grammar.{leaf, one, two, three}
use Rattle.grammar.specs.Written.{made}
use Rattle.basics.proofs.Ranges.{all_from_law}
use Rattle.trees.specs.Parts.{is_whole, top}
use Rattle.writer.specs.Trees.{named, join_code, boolean_tree, vector_tree, tree_of}
use Rattle.writer.specs.Layout.{code_at}

pub record OneNode (b : ℕ) (s s' : Stack) : Type 0 where
  pub is : tree_of (top s') ≡ one (made b) (tree_of (top s))
  pub right : is_whole s ≡ true

pub record TwoNode (b : ℕ) (s s' : Stack) : Type 0 where
  pub is : tree_of (top s') ≡ two (made (code_at b)) (tree_of (top (under s))) (tree_of (top s))
  pub right : is_whole s ≡ true
  pub left : is_whole (under s) ≡ true

pub record ThreeNode (s s' : Stack) : Type 0 where
  pub is : tree_of (top s')
      ≡ three (made 60) (tree_of (top (under (under s)))) (tree_of (top (under s))) (tree_of (top s))
  pub right : is_whole s ≡ true
  pub left : is_whole (under s) ≡ true
  pub first : is_whole (under (under s)) ≡ true

joined_code : (b : ℕ) → 50 ≤ b → b < 56 → join_code (join_at (b - 50)) ≡ code_at b
unfolding join_code join_at code_at
joined_code b l u =
    eqb-true _ _ (all_from_law (λ c. eqb (join_code (join_at (c - 50))) (code_at c)) 50 6 b refl l (omega arith))

binary_code : (b : ℕ) → 40 ≤ b → b < 50 → binary_byte (binary_at (b - 40)) ≡ code_at b
unfolding code_at
binary_code b l u = let k : b < 54 = omega arith in binary_byte_lem l u ∙ rw (lt-ltb b 54 k)

right_code : (b : ℕ) → b ≡ 56 → 40 ≡ code_at b
unfolding code_at
right_code b e = rw e

left_code : (b : ℕ) → b ≡ 57 → 40 ≡ code_at b
unfolding code_at
left_code b e = rw e

pub leaf_node : (names b : ℕ) {s s' : Stack} → Made names b s s' → is_whole s' ≡ true → b < 40
    → (tree_of (top s') ≡ leaf (named b)) ⊎ ((32 ≤ b) × (tree_of (top s') ≡ leaf (made b)))
unfolding is_whole top tree_of boolean_tree
leaf_node names b (a_name l u) h k = inl refl
leaf_node names b (a_literal l u) h k = inr (l, ap (λ (n : ℕ). leaf (made n)) (omega arith))
leaf_node names b (a_negation e f) h k = absurd (omega arith)
leaf_node names b (a_binary l u f) h k = absurd (omega arith)
leaf_node names b (a_choice e f) h k = absurd (omega arith)
leaf_node names b (an_edge l u f) h k = absurd (omega arith)
leaf_node names b (a_join l u f) h k = absurd (omega arith)
leaf_node names b (a_condition e f) h k = absurd (omega arith)
leaf_node names b (a_condition_before e f) h k = absurd (omega arith)
leaf_node names b nothing h k = never h

pub one_node : (names b : ℕ) {s s' : Stack} → Made names b s s' → is_whole s' ≡ true → 64 ≤ b
    → OneNode b s s'
unfolding is_whole top tree_of boolean_tree vector_tree
one_node names b (a_name l u) h k = absurd (omega arith)
one_node names b (a_literal l u) h k = absurd (omega arith)
one_node names b (a_negation {a = a} e f) h k =
    rw f (record { is = ap (λ (n : ℕ). one (made n) (boolean_tree a)) (sym e); right = refl })
one_node names b (a_binary l u f) h k = absurd (omega arith)
one_node names b (a_choice e f) h k = absurd (omega arith)
one_node names b (an_edge {a = a} l u f) h k =
    rw f (record { is = ap (λ (n : ℕ). one (made n) (boolean_tree a)) (edge_byte l u); right = refl })
one_node names b (a_join l u f) h k = absurd (omega arith)
one_node names b (a_condition e f) h k = absurd (omega arith)
one_node names b (a_condition_before e f) h k = absurd (omega arith)
one_node names b nothing h k = never h

pub two_node : (names b : ℕ) {s s' : Stack} → Made names b s s' → is_whole s' ≡ true → 40 ≤ b
    → b < 60 → TwoNode b s s'
unfolding is_whole top under tree_of boolean_tree vector_tree
two_node names b (a_name l u) h k i = absurd (omega arith)
two_node names b (a_literal l u) h k i = absurd (omega arith)
two_node names b (a_negation e f) h k i = absurd (omega arith)
two_node names b (a_binary {a = a} {c = c} l u f) h k i =
    rw f
    (record {
      is = ap (λ (n : ℕ). two (made n) (boolean_tree a) (boolean_tree c)) (binary_code b l u);
      right = refl;
      left = refl;
    })
two_node names b (a_choice e f) h k i = absurd (omega arith)
two_node names b (an_edge l u f) h k i = absurd (omega arith)
two_node names b (a_join {p = p} {q = q} l u f) h k i =
    rw f
    (record {
      is = ap (λ (n : ℕ). two (made n) (vector_tree p) (vector_tree q)) (joined_code b l u);
      right = refl;
      left = refl;
    })
two_node names b (a_condition {p = p} {c = c} e f) h k i =
    rw f
    (record {
      is = ap (λ (n : ℕ). two (made n) (vector_tree p) (boolean_tree c)) (right_code b e);
      right = refl;
      left = refl;
    })
two_node names b (a_condition_before {p = p} {c = c} e f) h k i =
    rw f
    (record {
      is = ap (λ (n : ℕ). two (made n) (boolean_tree c) (vector_tree p)) (left_code b e);
      right = refl;
      left = refl;
    })
two_node names b nothing h k i = never h

pub three_node : (names b : ℕ) {s s' : Stack} → Made names b s s' → is_whole s' ≡ true → 60 ≤ b
    → b < 64 → ThreeNode s s'
unfolding is_whole top under tree_of boolean_tree
three_node names b (a_name l u) h k i = absurd (omega arith)
three_node names b (a_literal l u) h k i = absurd (omega arith)
three_node names b (a_negation e f) h k i = absurd (omega arith)
three_node names b (a_binary l u f) h k i = absurd (omega arith)
three_node names b (a_choice e f) h k i = rw f (record { is = refl; right = refl; left = refl; first = refl })
three_node names b (an_edge l u f) h k i = absurd (omega arith)
three_node names b (a_join l u f) h k i = absurd (omega arith)
three_node names b (a_condition e f) h k i = absurd (omega arith)
three_node names b (a_condition_before e f) h k i = absurd (omega arith)
three_node names b nothing h k i = never h
