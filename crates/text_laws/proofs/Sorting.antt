-- The sort pass goes by the codes of tokens and the numbers of names: an expression's tree is sorted as it.
--   Agree, sorted_renumbered   with numbers for places the sort pass says the same, but for the places of faults
--   tree_sorted                the tree of an expression is sorted as the expression
--   matched_sorted             and so is every tree that is the same up to places
use Rattle.std.specs.Prelude.{if◌then◌else◌}
use Prim.Native.Nat.{ℕ, ◌+◌, ◌-◌, ◌<◌}
use native.Mathlib.Omega.{arith}
use mathlib.Core.Path.{◌≡◌, refl, sym, ap, ◌∙◌}
use mathlib.Core.Bool.{Bool, true, false}
use mathlib.Core.List.{List}
use lib.Dec.{eqb, ltb}
use borrow.Author.Tests.{ne_eqb, lt-ltb}
use Rattle.alf.specs.Expressions.{Boolean, name, literal, negated, binary, choice, Vector, edge, join, while}
use Rattle.alf.specs.Expressions.{Binary, and, or, xor, xnor, equals, differs, above, below, is_at_least, is_at_most}
use Rattle.alf.specs.Expressions.{Join, followed_by_join, either_order, with_or_then, any_order, with, or_else}
use Rattle.alf.specs.Expressions.{Edge, EdgeKnown, Over, VectorOver, ExpressionOver}
use Rattle.alf.specs.Expressions.{on_right, on_left, Expression, boolean, vector}
use Rattle.alf.specs.Bytes.{binary_byte, edge_number}
use Rattle.alf.specs.Decoder.{binary_at, join_at, edge_at, Operation, one_at}
use Rattle.alf.specs.Decoder.{empty, push, run, if_so, is_boolean, top_boolean, top_vector, under}
use Rattle.alf.proofs.OperatorBytes.{one_class, edge_operation}
use Rattle.grammar.specs.declared.Token.{Token}
use Rattle.grammar.specs.Grammar.{Tree, leaf, one, two, three}
use Rattle.grammar.specs.Written.{made}
use Rattle.sorting.specs.Sorts.{Sorted, is, faulty, atom, of_one, of_two, of_three, given, sorted}
use Rattle.writer.specs.Trees.{join_code, boolean_tree, vector_tree, tree_of}
use Rattle.writer.proofs.Known.{edge_small}
use Rattle.text_laws.proofs.Renumbering.{placed_by, renumbered, tree_by, renumbered_tree, Matched}

-- two results of the sort pass are the same, but for the place of a fault
pub data Agree : Sorted → Sorted → Type 0 where
  both_is : {x : Expression} → Agree (is x) (is x)
  both_faulty : {p q : ℕ} → Agree (faulty p) (faulty q)

agree_refl : (s : Sorted) → Agree s s
agree_refl (is x) = both_is
agree_refl (faulty p) = both_faulty

agree_if : (b : Bool) {q r q' r' : Sorted} → Agree q r → Agree q' r'
    → Agree (if b then q else q') (if b then r else r')
agree_if true a a' = a
agree_if false a a' = a'

agree_given : {q r : Sorted} (f g : Expression → Sorted) → Agree q r → ((x : Expression) → Agree (f x) (g x))
    → Agree (given q f) (given r g)
unfolding given
agree_given f g both_is h = h _
agree_given f g both_faulty h = both_faulty

pub agree_is : {q r : Sorted} {x : Expression} → Agree q r → r ≡ is x → q ≡ is x
agree_is both_is e = e
agree_is both_faulty e = let z : ◌≡◌ {A = ℕ} 0 1 = cc in absurd (omega arith)

pub agree_back : {q r : Sorted} {x : Expression} → Agree q r → q ≡ is x → r ≡ is x
agree_back both_is e = e
agree_back both_faulty e = let z : ◌≡◌ {A = ℕ} 0 1 = cc in absurd (omega arith)

module _ (number : ℕ → ℕ) (t : Token) where
  atom_renumbered : atom number t ≡ atom (λ k. k) (renumbered number t)
  unfolding atom placed_by
  atom_renumbered = go (eqb t.code 0)
    where
      go : (b : Bool) → (if b then name (number t.place) else literal (t.code - 32))
          ≡ (if b then name (if b then number t.place else 0) else literal (t.code - 32))
      go true = refl
      go false = refl

  one_renumbered : (x : Expression) → Agree (of_one t x) (of_one (renumbered number t) x)
  unfolding of_one placed_by
  one_renumbered (boolean c) = agree_refl _
  one_renumbered (vector p) = both_faulty

  two_renumbered : (x y : Expression) → Agree (of_two t x y) (of_two (renumbered number t) x y)
  unfolding of_two placed_by
  two_renumbered (boolean a) (boolean b) = agree_if (ltb t.code 50) both_is both_faulty
  two_renumbered (boolean c) (vector p) = agree_if (eqb t.code 40) both_is both_faulty
  two_renumbered (vector p) (boolean c) = agree_if (eqb t.code 40) both_is both_faulty
  two_renumbered (vector p) (vector q) =
      agree_if (eqb t.code 40) both_is
      (agree_if (eqb t.code 41) both_is (agree_if (ltb t.code 50) both_faulty both_is))

  three_renumbered : (z x y : Expression) → Agree (of_three t z x y) (of_three (renumbered number t) z x y)
  unfolding of_three
  three_renumbered (boolean c) (boolean a) (boolean b) = both_is
  three_renumbered (boolean c) (boolean a) (vector q) = both_faulty
  three_renumbered (boolean c) (vector p) y = both_faulty
  three_renumbered (vector r) x y = both_faulty

pub sorted_renumbered : (number : ℕ → ℕ) (e : Tree)
    → Agree (sorted number e) (sorted (λ k. k) (renumbered_tree number e))
unfolding sorted tree_by
sorted_renumbered number (leaf t) = rw (atom_renumbered number t) both_is
sorted_renumbered number (one t a) =
    agree_given (of_one t) (of_one (renumbered number t)) (sorted_renumbered number a) (one_renumbered number t)
sorted_renumbered number (two t a b) =
    agree_given _ _ (sorted_renumbered number a)
    (λ x. agree_given _ _ (sorted_renumbered number b) (two_renumbered number t x))
sorted_renumbered number (three t c a b) =
    agree_given _ _ (sorted_renumbered number c)
    (λ z. agree_given _ _ (sorted_renumbered number a)
    (λ x. agree_given _ _ (sorted_renumbered number b) (three_renumbered number t z x)))

-- the operators of an expression take its operands
of_binary : (o : Binary) (a b : Boolean)
    → of_two (made (binary_byte o)) (boolean a) (boolean b) ≡ is (boolean (binary o a b))
unfolding of_two binary_byte binary_at
of_binary and a b = refl
of_binary or a b = refl
of_binary xor a b = refl
of_binary xnor a b = refl
of_binary equals a b = refl
of_binary differs a b = refl
of_binary above a b = refl
of_binary below a b = refl
of_binary is_at_least a b = refl
of_binary is_at_most a b = refl

of_join : (j : Join) (p q : Vector) → of_two (made (join_code j)) (vector p) (vector q) ≡ is (vector (join j p q))
unfolding of_two join_code join_at
of_join followed_by_join p q = refl
of_join either_order p q = refl
of_join with_or_then p q = refl
of_join any_order p q = refl
of_join with p q = refl
of_join or_else p q = refl

literal_atom : (s : ℕ) → atom (λ k. k) (made (32 + s)) ≡ literal s
unfolding atom
literal_atom s =
    let d : 32 + s - 32 ≡ s = omega arith in rw (ne_eqb (32 + s) 0 (λ e. omega arith)) (ap literal d)

-- the edge at an edge's number, as the bytes of an edge are decoded
edge_at_lem : (e : Edge) (c : Boolean) → EdgeKnown e → edge (edge_at (64 + edge_number e - 64)) c ≡ edge e c
unfolding one_at run if_so is_boolean top_boolean top_vector under
edge_at_lem e c k =
    let u : 64 + edge_number e < 147 = omega (arith, edge_small e k) in
    let o = sym (one_class 0 (64 + edge_number e) (omega arith)) ∙ edge_operation 0 e k in
    ap (λ (f : Operation). top_vector (run f (push (boolean c) empty))) (rw (lt-ltb _ _ u) at o)

of_edge : (e : Edge) (c : Boolean) → EdgeKnown e
    → of_one (made (64 + edge_number e)) (boolean c) ≡ is (vector (edge e c))
unfolding of_one
of_edge e c k =
    rw (ne_eqb (64 + edge_number e) 147 (λ d. omega (arith, edge_small e k)))
    (ap (λ (p : Vector). is (vector p)) (edge_at_lem e c k))

module _ (n : ℕ) where
  boolean_sorted : (c : Boolean) → Over n c → sorted (λ k. k) (boolean_tree c) ≡ is (boolean c)
  unfolding sorted boolean_tree Over given atom of_one of_three
  boolean_sorted (name i) h = refl
  boolean_sorted (literal s) h = ap (λ (c : Boolean). is (boolean c)) (literal_atom s)
  boolean_sorted (negated a) h = rw (boolean_sorted a h) refl
  boolean_sorted (binary o a b) h = rw (boolean_sorted a h.0, boolean_sorted b h.1) (of_binary o a b)
  boolean_sorted (choice c a b) h =
      rw (boolean_sorted c h.0, boolean_sorted a h.1, boolean_sorted b h.2) refl

  vector_sorted : (p : Vector) → VectorOver n p → sorted (λ k. k) (vector_tree p) ≡ is (vector p)
  unfolding sorted vector_tree VectorOver given of_two
  vector_sorted (edge e c) h = rw (boolean_sorted c h.1) (of_edge e c h.0)
  vector_sorted (join j p q) h = rw (vector_sorted p h.0, vector_sorted q h.1) (of_join j p q)
  vector_sorted (while on_right p c) h = rw (vector_sorted p h.0, boolean_sorted c h.1) refl
  vector_sorted (while on_left p c) h = rw (boolean_sorted c h.1, vector_sorted p h.0) refl

  pub tree_sorted : (x : Expression) → ExpressionOver n x → sorted (λ k. k) (tree_of x) ≡ is x
  unfolding tree_of ExpressionOver
  tree_sorted (boolean c) h = boolean_sorted c h
  tree_sorted (vector p) h = vector_sorted p h

  pub matched_sorted : (number : ℕ → ℕ) {us : List Token} (x : Expression) → ExpressionOver n x
      → (m : Matched number (λ k. k) us (tree_of x)) → sorted number m.tree ≡ is x
  matched_sorted number x h m =
      agree_is (sorted_renumbered number m.tree)
      (ap (sorted (λ k. k)) m.same
      ∙ agree_back (sorted_renumbered (λ k. k) (tree_of x)) (tree_sorted x h))
