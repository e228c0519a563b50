-- The tree of a text and the tree of the expression that it is sorted as have the same tokens, places aside.
--   sorted_bare      a tree that is sorted as an expression is bare that expression's tree
--   same_depth, same_size      what does not hang on places: how deep brackets nest, how many nodes there are
use Rattle.std.specs.Prelude.{if◌then◌else◌}
use Prim.Native.Nat.{ℕ, ◌+◌, ◌-◌, ◌<◌, ◌≤◌}
use native.Mathlib.Omega.{arith}
use mathlib.Core.Path.{◌≡◌, refl, sym, ap, ap₂, ◌∙◌}
use mathlib.Core.Bool.{Bool, true, false, ◌&&◌}
use lib.Dec.{eqb, ltb, leb}
use lib.ListN.{length, length-map}
use borrow.Author.Tests.{eqb-true, eqb-false, ltb-true, ltb-false, leb-true, le-leb}
use Rattle.alf.specs.Expressions.{name, literal, negated, binary, edge, join, while}
use Rattle.alf.specs.Expressions.{with, or_else, on_right, on_left, Expression, boolean, vector}
use Rattle.alf.specs.Decoder.{binary_at, join_at, edge_at}
use Rattle.basics.proofs.Choices.{every, every_at}
use Rattle.alf.proofs.OperatorBytes.{binary_byte_lem, edge_byte}
use Rattle.grammar.specs.declared.Token.{Token}
use Rattle.grammar.specs.Grammar.{Tree, leaf, one, two, three, nodes}
use Rattle.grammar.specs.Written as grammar
use Rattle.grammar.specs.Written.{made, Formed, leaf_is, one_is, two_is, three_is}
use Rattle.writer.specs.Trees.{join_code, boolean_tree, vector_tree, tree_of}
use Rattle.sorting.specs.Sorts.{Sorted, is, faulty, atom, of_one, of_two, of_three, given, sorted}
use Rattle.sorting.specs.Passes.{is_node}
use Rattle.sorting.proofs.NodeCodes.{Coded, operand_code, prefix_code, question_code, binary_code}
use Rattle.sorting.proofs.NodeCodes.{node_leaf, node_two, node_one}
use Rattle.text_laws.proofs.Renumbering.{placed_by, tree_by, nowhere, bare, nodes_by, depth_by}

-- what does not hang on places
bare_size : (e : Tree) → length (nodes (bare e)) ≡ length (nodes e)
bare_size e = ap length (nodes_by nowhere e) ∙ length-map (nodes e) (placed_by nowhere)

module _ (e f : Tree) (same : bare e ≡ bare f) where
  pub same_depth : (l : ℕ) → grammar.depth_of l e ≡ grammar.depth_of l f
  same_depth l = sym (depth_by nowhere e l) ∙ ap (grammar.depth_of l) same ∙ depth_by nowhere f l

  pub same_size : length (nodes e) ≡ length (nodes f)
  same_size = sym (bare_size e) ∙ ap (λ (x : Tree). length (nodes x)) same ∙ bare_size f

-- the codes of nodes, exactly
question_is : (c : ℕ) → is_node c ≡ true → 60 ≤ c → c < 64 → c ≡ 60
unfolding every is_node
question_is c n l u =
    eqb-true c 60
    (rw (n, le-leb 60 c l) at (every_at 64 (λ k. if is_node k && leb 60 k then eqb k 60 else true) refl c u))

join_code_lem : (c : ℕ) → 50 ≤ c → c < 54 → join_code (join_at (c - 50)) ≡ c
unfolding every join_code join_at
join_code_lem c l u =
    eqb-true _ c
    (rw (le-leb 50 c l) at (every_at 54 (λ k. if leb 50 k then eqb (join_code (join_at (k - 50))) k else true) refl c u))

-- a tree sorted as an expression has that expression's tokens
unfoldable As : Sorted → Tree → Type 0
As (is x) e = bare e ≡ bare (tree_of x)
As (faulty p) e = Unit {0}

given_as :
    (q : Sorted) (f : Expression → Sorted) (a e : Tree) →
    As q a →
    ((x : Expression) → bare a ≡ bare (tree_of x) → As (f x) e) →
    As (given q f) e
unfolding As given
given_as (is x) f a e h k = k x h
given_as (faulty p) f a e h k = tt

if_as : (b : Bool) (q r : Sorted) (e : Tree) → (b ≡ true → As q e) → (b ≡ false → As r e)
    → As (if b then q else r) e
if_as true q r e h k = h refl
if_as false q r e h k = k refl

leaf_as : (number : ℕ → ℕ) (t : Token) → Coded t.code 0 40 → As (is (boolean (atom number t))) (leaf t)
unfolding As atom tree_of boolean_tree tree_by placed_by
leaf_as number t k = go (eqb t.code 0) refl
  where
    literal_code : eqb t.code 0 ≡ false → 32 + (t.code - 32) ≡ t.code
    literal_code e =
        let l : 32 ≤ t.code = leb-true 32 t.code (rw e at (node_leaf t.code k.node k.high)) in
        omega arith

    go :
        (b : Bool) →
        eqb t.code 0 ≡ b →
        leaf (made t.code) ≡
        bare (tree_of (boolean (if b then name (number t.place) else literal (t.code - 32))))
    go true e = ap (λ (c : ℕ). leaf (made c)) (eqb-true _ _ e)
    go false e = ap (λ (c : ℕ). leaf (made c)) (sym (literal_code e))

one_as : (t : Token) (a : Tree) → 64 ≤ t.code → t.code < 148 → (x : Expression) → bare a ≡ bare (tree_of x)
    → As (of_one t x) (one t a)
unfolding As of_one tree_of boolean_tree vector_tree tree_by placed_by
one_as t a l h (boolean c) e =
    if_as (eqb t.code 147) (is (boolean (negated c))) (is (vector (edge (edge_at (t.code - 64)) c))) (one t a)
    (λ b. ap₂ (λ (n : ℕ) (y : Tree). one (made n) y) (eqb-true _ _ b) e)
    (λ b. let u : t.code < 147 = omega (arith, eqb-false t.code 147 b) in
    ap₂ (λ (n : ℕ) (y : Tree). one (made n) y) (sym (edge_byte l u)) e)
one_as t a l h (vector p) e = tt

module _ (t : Token) (a b : Tree) (l : 40 ≤ t.code) (h : t.code < 54) where
  pair : {x y : Tree} {c : ℕ} → t.code ≡ c → bare a ≡ x → bare b ≡ y
      → bare (two t a b) ≡ two (made c) x y
  unfolding tree_by placed_by
  pair k e f = λ i. two (made (k i)) (e i) (f i)

  two_as : (x y : Expression) → bare a ≡ bare (tree_of x) → bare b ≡ bare (tree_of y)
      → As (of_two t x y) (two t a b)
  unfolding As of_two tree_of boolean_tree vector_tree tree_by placed_by join_code
  two_as (boolean c) (boolean d) e f =
      if_as (ltb t.code 50) (is (boolean (binary (binary_at (t.code - 40)) c d))) (faulty t.place) (two t a b)
      (λ k. pair (sym (binary_byte_lem l (ltb-true _ _ k))) e f) (λ k. tt)
  two_as (boolean c) (vector q) e f =
      if_as (eqb t.code 40) (is (vector (while on_left q c))) (faulty t.place) (two t a b)
      (λ k. pair (eqb-true _ _ k) e f) (λ k. tt)
  two_as (vector p) (boolean d) e f =
      if_as (eqb t.code 40) (is (vector (while on_right p d))) (faulty t.place) (two t a b)
      (λ k. pair (eqb-true _ _ k) e f) (λ k. tt)
  two_as (vector p) (vector q) e f =
      if_as (eqb t.code 40) (is (vector (join with p q))) _ (two t a b) (λ k. pair (eqb-true _ _ k) e f)
      (λ k. if_as (eqb t.code 41) (is (vector (join or_else p q))) _ (two t a b)
      (λ k. pair (eqb-true _ _ k) e f)
      (λ k. if_as (ltb t.code 50) (faulty t.place) (is (vector (join (join_at (t.code - 50)) p q))) (two t a b)
      (λ k. tt) (λ k. pair (sym (join_code_lem _ (ltb-false _ _ k) h)) e f)))

three_as :
    (t : Token) (c a b : Tree) →
    t.code ≡ 60 →
    (z x y : Expression) →
    bare c ≡ bare (tree_of z) →
    bare a ≡ bare (tree_of x) →
    bare b ≡ bare (tree_of y) →
    As (of_three t z x y) (three t c a b)
unfolding As of_three tree_of boolean_tree tree_by placed_by
three_as t c a b k (boolean z) (boolean x) (boolean y) e f g = λ i. three (made (k i)) (e i) (f i) (g i)
three_as t c a b k (boolean z) (boolean x) (vector y) e f g = tt
three_as t c a b k (boolean z) (vector x) y e f g = tt
three_as t c a b k (vector z) x y e f g = tt

tree_as : (number : ℕ → ℕ) {e : Tree} → Formed e → As (sorted number e) e
unfolding sorted
tree_as number (leaf_is {t = t} k) = leaf_as number t (operand_code _ k)
tree_as number (one_is {t = t} {a = a} k p) =
    let c = prefix_code _ k in
    given_as (sorted number a) (of_one t) a (one t a) (tree_as number p) (one_as t a c.1 (node_one _ c.0))
tree_as number (two_is {t = t} {a = a} {b = b} k p q) =
    let c = binary_code _ _ k in
    given_as (sorted number a) _ a (two t a b) (tree_as number p)
    (λ x e. given_as (sorted number b) (of_two t x) b (two t a b) (tree_as number q)
    (λ y f. two_as t a b c.low (node_two _ c.node c.high) x y e f))
tree_as number (three_is {t = t} {c = c} {a = a} {b = b} k o p q) =
    let d = question_code _ k in
    given_as (sorted number c) _ c (three t c a b) (tree_as number o)
    (λ z e. given_as (sorted number a) _ a (three t c a b) (tree_as number p)
    (λ x f. given_as (sorted number b) (of_three t z x) b (three t c a b) (tree_as number q)
    (λ y g. three_as t c a b (question_is _ d.node d.low d.high) z x y e f g)))

pub sorted_bare : (number : ℕ → ℕ) {e : Tree} {x : Expression} → Formed e → sorted number e ≡ is x
    → bare e ≡ bare (tree_of x)
unfolding As
sorted_bare number {e} f s = rw s at (tree_as number f)
