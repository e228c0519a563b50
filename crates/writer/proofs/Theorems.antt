-- The statements that the writer stands for.
--   writes_unique    outcome and buffer afterwards follow from the input
--   text_tokens      the written text reads as the tokens that were written, with their places
--   text_parses      these tokens are the expression's tree
--   text_fewest      no tokens of that tree have fewer brackets, so one written pair less gives another tree or none
use Prim.Native.Nat.{ℕ, ◌+◌, ◌/◌, ◌≤◌}
use native.Mathlib.Omega.{arith}
use mathlib.Core.Path.{◌≡◌, refl, sym, ◌∙◌}
use mathlib.Core.List.{List, []}
use lib.ListN.{length}
use Rattle.alf.specs.declared.Sort.{Sort}
use Rattle.basics.specs.Refusing.{Outcome}
use Rattle.alf.specs.Expressions.{Boolean, name, literal, negated, binary, choice, Vector, edge, join, while}
use Rattle.alf.specs.Expressions.{Binary, and, or, xor, xnor, equals, differs, above, below, is_at_least, is_at_most}
use Rattle.alf.specs.Expressions.{Join, followed_by_join, either_order, with_or_then, any_order, with, or_else}
use Rattle.alf.specs.Expressions.{Edge, EdgeKnown, Over, VectorOver, ExpressionOver}
use Rattle.alf.specs.Expressions.{on_right, on_left, Expression, boolean, vector}
use Rattle.alf.specs.Bytes.{binary_byte, edge_number}
use Rattle.alf.proofs.Outcomes.{AllFixed, at_fixed, first_fixed, comes_unique}
use Rattle.tokens.specs.Texts.{Reads}
use Rattle.grammar.specs.declared.Token.{Token}
use Rattle.grammar.specs.Tokens.{prefix, table, kind_in, kind}
use Rattle.grammar.specs.Grammar.{Tree, leaf, two, three}
use Rattle.grammar.specs.Grammar as tree
use Rattle.grammar.specs.Written.{made, written, brackets, Formed, leaf_is, one_is, two_is, three_is}
use Rattle.grammar.proofs.Written.{written_expression}
use Rattle.grammar.proofs.Fewest.{written_fewest}
use Rattle.writer.specs.Trees.{named, join_code, boolean_tree, vector_tree, tree_of}
use Rattle.writer.specs.Trees.{text}
use Rattle.spelling.specs.TokenPlaces.{tokens_from}
use Rattle.writer.specs.Writing.{order, Writes, Named}
use Rattle.spelling.proofs.Reading.{text_reads}
use Rattle.writer.proofs.Known.{written_known, tree_known, edge_small}
use Rattle.writer.proofs.TokenKinds.{literal_kind, prefix_kind}
use Rattle.writer.proofs.Calls.{names_named}
use Rattle.basics.proofs.Memory.{after_unique}

-- outcome and buffer
pub writes_unique : {names tree : List ℕ} {sort : Sort} {out a b : List ℕ} {r s : Outcome}
    → Writes names tree sort out a r → Writes names tree sort out b s → (r ≡ s) × (a ≡ b)
unfolding order
writes_unique {names} {tree} {sort} {out} {r = r} {s = s} w v =
    let fixed : AllFixed (order names tree sort (length out)) =
    (at_fixed _ _, (first_fixed _, (at_fixed _ _, (at_fixed _ _, (at_fixed _ _, tt))))) in
    let e : r ≡ s =
    comes_unique (order names tree sort (length out)) _ fixed (λ k l p q. p ∙ sym q) r s w.outcome v.outcome in
    (e, after_unique _ out e w.memory v.memory)

-- an expression's tree has tokens of as many operands
edge_kind : (e : Edge) → EdgeKnown e → kind (64 + edge_number e) ≡ prefix
edge_kind e k = let u = edge_small e k in prefix_kind _ (omega arith) (omega arith)

two_binary : (o : Binary) {a b : Tree} → Formed a → Formed b → Formed (two (made (binary_byte o)) a b)
unfolding binary_byte kind kind_in table
two_binary and f g = two_is refl f g
two_binary or f g = two_is refl f g
two_binary xor f g = two_is refl f g
two_binary xnor f g = two_is refl f g
two_binary equals f g = two_is refl f g
two_binary differs f g = two_is refl f g
two_binary above f g = two_is refl f g
two_binary below f g = two_is refl f g
two_binary is_at_least f g = two_is refl f g
two_binary is_at_most f g = two_is refl f g

two_join : (j : Join) {a b : Tree} → Formed a → Formed b → Formed (two (made (join_code j)) a b)
unfolding join_code kind kind_in table
two_join followed_by_join f g = two_is refl f g
two_join either_order f g = two_is refl f g
two_join with_or_then f g = two_is refl f g
two_join any_order f g = two_is refl f g
two_join with f g = two_is refl f g
two_join or_else f g = two_is refl f g

three_choice : {a b c : Tree} → Formed a → Formed b → Formed c → Formed (three (made 60) a b c)
unfolding kind kind_in table
three_choice f g h = three_is refl f g h

name_formed : (i : ℕ) → Formed (leaf (named i))
unfolding kind kind_in table
name_formed i = leaf_is refl

boolean_formed : (n : ℕ) (c : Boolean) → Over n c → Formed (boolean_tree c)
unfolding boolean_tree Over
boolean_formed n (name i) h = name_formed i
boolean_formed n (literal s) h = leaf_is (literal_kind s h)
boolean_formed n (negated a) h = one_is (prefix_kind 147 (omega arith) (omega arith)) (boolean_formed n a h)
boolean_formed n (binary o a b) h = two_binary o (boolean_formed n a h.0) (boolean_formed n b h.1)
boolean_formed n (choice c a b) h =
    three_choice (boolean_formed n c h.0) (boolean_formed n a h.1) (boolean_formed n b h.2)

vector_formed : (n : ℕ) (p : Vector) → VectorOver n p → Formed (vector_tree p)
unfolding vector_tree VectorOver join_code
vector_formed n (edge e c) h = one_is (edge_kind e h.0) (boolean_formed n c h.1)
vector_formed n (join j p q) h = two_join j (vector_formed n p h.0) (vector_formed n q h.1)
vector_formed n (while on_right p c) h = two_join with (vector_formed n p h.0) (boolean_formed n c h.1)
vector_formed n (while on_left p c) h = two_join with (boolean_formed n c h.1) (vector_formed n p h.0)

tree_formed : (n : ℕ) (e : Expression) → ExpressionOver n e → Formed (tree_of e)
unfolding tree_of ExpressionOver
tree_formed n (boolean c) h = boolean_formed n c h
tree_formed n (vector p) h = vector_formed n p h

-- for every expression over checked names, of whatever length its text is
module _ {names : List ℕ} (h : Named names) (e : Expression) (o : ExpressionOver (length names / 32) e) where
  pub text_tokens : Reads 0 (text names e) (tokens_from names 0 (written 6 (tree_of e)))
  unfolding text
  text_tokens = text_reads (written_known 6 (tree_known (names_named h) e o))

  pub text_parses : tree.Expression (written 6 (tree_of e)) (tree_of e)
  text_parses = written_expression (tree_formed (length names / 32) e o)

  pub text_fewest : (ts : List Token) → tree.Expression ts (tree_of e)
      → brackets (written 6 (tree_of e)) + brackets [] ≤ brackets ts
  text_fewest ts p = written_fewest p
