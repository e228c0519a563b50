-- How deep brackets open in an expression's text: what its bytes say (trees' depth_of) is what the grammar says of its
-- tree.
--   tree_depth    the grammar's depth of an expression's tree is the depth of the expression
use Rattle.std.specs.Prelude.{if◌then◌else◌}
use Prim.Native.Nat.{ℕ, suc, ◌+◌, ◌-◌, ◌<◌, ◌≤◌, max}
use native.Mathlib.Omega.{arith}
use native.Mathlib.Numerals.{sub-one}
use mathlib.Core.Path.{◌≡◌, refl, sym, ◌∙◌}
use mathlib.Core.Logic.{◌⊎◌, inl, inr}
use lib.Dec.{leb, ltb, lit≤}
use borrow.Author.Tests.{lt-ltb, le-ltb, le-leb, lt-leb}
use Rattle.alf.specs.Expressions.{Boolean, name, literal, negated, binary, choice, Vector, edge, join, while}
use Rattle.alf.specs.Expressions.{Binary, and, or, xor, xnor, equals, differs, above, below, is_at_least, is_at_most}
use Rattle.alf.specs.Expressions.{Join, followed_by_join, either_order, with_or_then, any_order, with, or_else}
use Rattle.alf.specs.Expressions.{on_right, on_left, Expression, boolean, vector}
use Rattle.alf.specs.Bytes.{binary_byte}
use Rattle.basics.proofs.Bools.{below?}
use Rattle.grammar.specs.Tokens.{table, kind_in, kind}
use Rattle.grammar.specs.Grammar.{Tree, two}
use Rattle.grammar.specs.Written.{made, deepened}
use Rattle.grammar.specs.Written as text
use Rattle.trees.specs.Brackets.{binary_level, join_level, level_of, bracketed, boolean_depth, vector_depth, depth_of}
use Rattle.writer.specs.Trees.{join_code, boolean_tree, vector_tree, tree_of}

-- one pair more where the level asked for is stronger
deepened_is : (l m n : ℕ) → deepened l m n ≡ (if ltb l m then 1 + n else n)
unfolding deepened
deepened_is l m n = go (below? l m)
  where
    go : (l < m) ⊎ (m ≤ l) → (if leb m l then n else suc n) ≡ (if ltb l m then 1 + n else n)
    go (inl h) = rw (lt-leb m l h, lt-ltb l m h) (omega arith)
    go (inr h) = rw (le-leb m l h, le-ltb l m h) refl

bracketed_more : (l : ℕ) (e : Expression) (d : ℕ) → deepened l (level_of e) d ≡ bracketed l e d
unfolding bracketed
bracketed_more l e d = deepened_is l (level_of e) d

bracketed_none : (l : ℕ) (e : Expression) (d : ℕ) → level_of e ≤ l → bracketed l e d ≡ d
unfolding bracketed
bracketed_none l e d h = rw (le-ltb l (level_of e) h) refl

-- levels
binary_level_lem : (o : Binary) → text.level_of (kind (binary_byte o)) ≡ binary_level o
unfolding kind kind_in table binary_byte binary_level
binary_level_lem and = refl
binary_level_lem or = refl
binary_level_lem xor = refl
binary_level_lem xnor = refl
binary_level_lem equals = refl
binary_level_lem differs = refl
binary_level_lem above = refl
binary_level_lem below = refl
binary_level_lem is_at_least = refl
binary_level_lem is_at_most = refl

join_level_lem : (j : Join) → text.level_of (kind (join_code j)) ≡ join_level j
unfolding kind kind_in table join_code join_level
join_level_lem followed_by_join = refl
join_level_lem either_order = refl
join_level_lem with_or_then = refl
join_level_lem any_order = refl
join_level_lem with = refl
join_level_lem or_else = refl

binary_between : (o : Binary) → (2 ≤ binary_level o) × (binary_level o ≤ 6)
unfolding binary_level
binary_between and = (lit≤ tt, lit≤ tt)
binary_between or = (lit≤ tt, lit≤ tt)
binary_between xor = (lit≤ tt, lit≤ tt)
binary_between xnor = (lit≤ tt, lit≤ tt)
binary_between equals = (lit≤ tt, lit≤ tt)
binary_between differs = (lit≤ tt, lit≤ tt)
binary_between above = (lit≤ tt, lit≤ tt)
binary_between below = (lit≤ tt, lit≤ tt)
binary_between is_at_least = (lit≤ tt, lit≤ tt)
binary_between is_at_most = (lit≤ tt, lit≤ tt)

join_between : (j : Join) → (2 ≤ join_level j) × (join_level j ≤ 6)
unfolding join_level
join_between followed_by_join = (lit≤ tt, lit≤ tt)
join_between either_order = (lit≤ tt, lit≤ tt)
join_between with_or_then = (lit≤ tt, lit≤ tt)
join_between any_order = (lit≤ tt, lit≤ tt)
join_between with = (lit≤ tt, lit≤ tt)
join_between or_else = (lit≤ tt, lit≤ tt)

level_most : (e : Expression) → level_of e ≤ 6
unfolding level_of
level_most (boolean (name i)) = lit≤ tt
level_most (boolean (literal s)) = lit≤ tt
level_most (boolean (negated a)) = lit≤ tt
level_most (boolean (binary o a b)) = (binary_between o).1
level_most (boolean (choice c a b)) = lit≤ tt
level_most (vector (edge e c)) = lit≤ tt
level_most (vector (join j p q)) = (join_between j).1
level_most (vector (while s p c)) = lit≤ tt

-- an operator between two operands of which each opens so deep in its place
two_depth : (l m c : ℕ) (a b : Tree) (e : Expression) {x y : ℕ} → text.level_of (kind c) ≡ m → level_of e ≡ m
    → text.depth_of m a ≡ x → text.depth_of (m - 1) b ≡ y
    → text.depth_of l (two (made c) a b) ≡ bracketed l e (max x y)
unfolding text.depth_of
two_depth l m c a b e k v f g =
    rw (k, ← sub-one m, f, g, ← v) (bracketed_more l e _)

boolean_depth_lem : (c : Boolean) (l : ℕ) → 1 ≤ l
    → text.depth_of l (boolean_tree c) ≡ bracketed l (boolean c) (boolean_depth c)
unfolding text.depth_of boolean_tree boolean_depth level_of
boolean_depth_lem (name i) l h = sym (bracketed_none l (boolean (name i)) 0 (omega arith))
boolean_depth_lem (literal s) l h = sym (bracketed_none l (boolean (literal s)) 0 (omega arith))
boolean_depth_lem (negated a) l h = boolean_depth_lem a 1 (lit≤ tt) ∙ sym (bracketed_none l (boolean (negated a)) _ h)
boolean_depth_lem (binary o a b) l h =
    let k = (binary_between o).0 in
    two_depth l (binary_level o) (binary_byte o) (boolean_tree a) (boolean_tree b) (boolean (binary o a b))
    (binary_level_lem o) refl (boolean_depth_lem a _ (omega arith)) (boolean_depth_lem b _ (omega arith))
boolean_depth_lem (choice c a b) l h =
    rw (
      boolean_depth_lem c 5 (lit≤ tt),
      boolean_depth_lem a 6 (lit≤ tt),
      boolean_depth_lem b 6 (lit≤ tt),
      bracketed_none 6 (boolean a) (boolean_depth a) (level_most (boolean a)),
      bracketed_none 6 (boolean b) (boolean_depth b) (level_most (boolean b)),
    )
    (bracketed_more l (boolean (choice c a b)) _)

vector_depth_lem : (p : Vector) (l : ℕ) → 1 ≤ l
    → text.depth_of l (vector_tree p) ≡ bracketed l (vector p) (vector_depth p)
unfolding text.depth_of vector_tree vector_depth level_of join_code join_level
vector_depth_lem (edge e c) l h = boolean_depth_lem c 1 (lit≤ tt) ∙ sym (bracketed_none l (vector (edge e c)) _ h)
vector_depth_lem (join j p q) l h =
    let k = (join_between j).0 in
    two_depth l (join_level j) (join_code j) (vector_tree p) (vector_tree q) (vector (join j p q)) (join_level_lem j)
    refl (vector_depth_lem p _ (omega arith)) (vector_depth_lem q _ (omega arith))
vector_depth_lem (while on_right p c) l h =
    two_depth l 3 40 (vector_tree p) (boolean_tree c) (vector (while on_right p c)) (join_level_lem with)
    refl (vector_depth_lem p 3 (lit≤ tt)) (boolean_depth_lem c 2 (lit≤ tt))
vector_depth_lem (while on_left p c) l h =
    two_depth l 3 40 (boolean_tree c) (vector_tree p) (vector (while on_left p c)) (join_level_lem with)
    refl (boolean_depth_lem c 3 (lit≤ tt)) (vector_depth_lem p 2 (lit≤ tt))

pub tree_depth : (e : Expression) → text.depth_of 6 (tree_of e) ≡ depth_of e
unfolding tree_of depth_of
tree_depth (boolean c) = boolean_depth_lem c 6 (lit≤ tt) ∙ bracketed_none 6 (boolean c) _ (level_most (boolean c))
tree_depth (vector p) = vector_depth_lem p 6 (lit≤ tt) ∙ bracketed_none 6 (vector p) _ (level_most (vector p))
