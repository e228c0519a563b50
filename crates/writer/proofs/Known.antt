-- The tokens that are written for an expression over the names are names of the list and signs, and few.
--   TreeKnown, tree_known, written_known   tokens that can be written: a tree, an expression, what is written of it
--   written_short, nodes_bytes             at most four tokens for each node, and as many nodes as bytes
use Rattle.std.specs.Prelude.{if◌then◌else◌}
use Prim.Native.Nat.{ℕ, pred, ◌+◌, ◌*◌, ◌/◌, ◌<◌, ◌≤◌}
use native.Mathlib.Omega.{arith}
use mathlib.Core.Path.{◌≡◌, refl}
use mathlib.Core.Bool.{Bool, true, false}
use mathlib.Core.List.{List, [], ◌∷◌, ◌++◌}
use lib.Dec.{leb, lit≤}
use lib.ListN.{length, length-append}
use Rattle.alf.specs.Names.{is_name, name_at}
use Rattle.alf.specs.Expressions.{Boolean, name, literal, negated, binary, choice, Vector, edge, join, while}
use Rattle.alf.specs.Expressions.{Binary, and, or, xor, xnor, equals, differs, above, below, is_at_least, is_at_most}
use Rattle.alf.specs.Expressions.{Join, followed_by_join, either_order, with_or_then, any_order, with, or_else}
use Rattle.alf.specs.Expressions.{Half, any, the, Edge, pair, changes, stays}
use Rattle.alf.specs.Expressions.{on_right, on_left, Expression, boolean, vector}
use Rattle.alf.specs.Expressions.{Over, HalfKnown, EdgeKnown, VectorOver, ExpressionOver}
use Rattle.alf.specs.Bytes.{binary_byte, half_number, edge_number, boolean_bytes, vector_bytes, bytes_of}
use Rattle.grammar.specs.declared.Token.{Token}
use Rattle.grammar.specs.Tokens.{kind_of}
use Rattle.grammar.specs.Grammar.{Tree, leaf, one, two, three, nodes}
use Rattle.grammar.specs.Written.{made, level_of, fitted, written}
use Rattle.writer.specs.Trees.{join_code, boolean_tree, vector_tree, tree_of}
use Rattle.spelling.proofs.LongestSigns.{Sign, low, high}
use Rattle.spelling.proofs.LongestWords.{Known, a_name, a_sign}
use Rattle.spelling.proofs.Reading.{AllKnown, none, more}

-- a tree of tokens that can be written
pub data TreeKnown (names : List ℕ) : Tree → Type 0 where
  k_leaf : {t : Token} → Known names t → TreeKnown names (leaf t)
  k_one : {t : Token} {a : Tree} → Known names t → TreeKnown names a → TreeKnown names (one t a)
  k_two : {t : Token} {a b : Tree} → Known names t → TreeKnown names a → TreeKnown names b
      → TreeKnown names (two t a b)
  k_three : {t : Token} {c a b : Tree} → Known names t → TreeKnown names c → TreeKnown names a
      → TreeKnown names b
      → TreeKnown names (three t c a b)

module _ {names : List ℕ} where
  pub known_append : {ts us : List Token} → AllKnown names ts → AllKnown names us → AllKnown names (ts ++ us)
  known_append none b = b
  known_append (more k a) b = more k (known_append a b)

  made_known : (c : ℕ) → Sign c → Known names (made c)
  made_known c s = a_sign s

  fitted_known : (l m : ℕ) {ts : List Token} → AllKnown names ts → AllKnown names (fitted l m ts)
  unfolding fitted
  fitted_known l m {ts} a = go (leb m l)
    where
      go : (b : Bool) → AllKnown names (if b then ts else made 62 ∷ (ts ++ (made 63 ∷ [])))
      go true = a
      go false =
          more (made_known 62 (high (lit≤ tt) (lit≤ tt)))
          (known_append a (more (made_known 63 (high (lit≤ tt) (lit≤ tt))) none))

  pub written_known : (l : ℕ) {e : Tree} → TreeKnown names e → AllKnown names (written l e)
  unfolding written
  written_known l (k_leaf k) = more k none
  written_known l (k_one k a) = more k (written_known 1 a)
  written_known l (k_two {t = t} k a b) =
      fitted_known l (level_of (kind_of t))
      (known_append (written_known (level_of (kind_of t)) a) (more k (written_known (pred (level_of (kind_of t))) b)))
  written_known l (k_three k c a b) =
      fitted_known l 6
      (known_append (written_known 5 c)
      (more k
      (known_append (written_known 6 a) (more (made_known 61 (high (lit≤ tt) (lit≤ tt))) (written_known 6 b)))))

-- an operator's code is a sign
binary_sign : (o : Binary) → Sign (binary_byte o)
unfolding binary_byte
binary_sign and = low (lit≤ tt) (lit≤ tt)
binary_sign or = low (lit≤ tt) (lit≤ tt)
binary_sign xor = low (lit≤ tt) (lit≤ tt)
binary_sign xnor = low (lit≤ tt) (lit≤ tt)
binary_sign equals = low (lit≤ tt) (lit≤ tt)
binary_sign differs = low (lit≤ tt) (lit≤ tt)
binary_sign above = low (lit≤ tt) (lit≤ tt)
binary_sign below = low (lit≤ tt) (lit≤ tt)
binary_sign is_at_least = low (lit≤ tt) (lit≤ tt)
binary_sign is_at_most = low (lit≤ tt) (lit≤ tt)

join_sign : (j : Join) → Sign (join_code j)
unfolding join_code
join_sign followed_by_join = low (lit≤ tt) (lit≤ tt)
join_sign either_order = low (lit≤ tt) (lit≤ tt)
join_sign with_or_then = low (lit≤ tt) (lit≤ tt)
join_sign any_order = low (lit≤ tt) (lit≤ tt)
join_sign with = low (lit≤ tt) (lit≤ tt)
join_sign or_else = low (lit≤ tt) (lit≤ tt)

half_small : (h : Half) → HalfKnown h → half_number h ≤ 8
unfolding HalfKnown half_number
half_small any k = omega arith
half_small (the s) k = omega arith

pub edge_small : (e : Edge) → EdgeKnown e → edge_number e ≤ 82
unfolding EdgeKnown edge_number
edge_small (pair f t) k = let a = half_small f k.0 in let b = half_small t k.1 in omega arith
edge_small changes k = lit≤ tt
edge_small stays k = lit≤ tt

edge_sign : (e : Edge) → EdgeKnown e → Sign (64 + edge_number e)
edge_sign e k = let u = edge_small e k in high {c = 64 + edge_number e} (omega arith) (omega arith)

-- where the list holds names
module _ {names : List ℕ} (good : (i : ℕ) → i < length names / 32 → is_name (name_at names i) ≡ true) where
  boolean_known : (c : Boolean) → Over (length names / 32) c → TreeKnown names (boolean_tree c)
  unfolding boolean_tree Over
  boolean_known (name i) h = k_leaf (a_name refl h (good i h))
  boolean_known (literal s) h = k_leaf (a_sign (low {c = 32 + s} (omega arith) (omega arith)))
  boolean_known (negated a) h = k_one (a_sign (high (lit≤ tt) (lit≤ tt))) (boolean_known a h)
  boolean_known (binary o a b) h = k_two (a_sign (binary_sign o)) (boolean_known a h.0) (boolean_known b h.1)
  boolean_known (choice c a b) h =
      k_three (a_sign (high (lit≤ tt) (lit≤ tt))) (boolean_known c h.0) (boolean_known a h.1)
      (boolean_known b h.2)

  vector_known : (p : Vector) → VectorOver (length names / 32) p → TreeKnown names (vector_tree p)
  unfolding vector_tree VectorOver
  vector_known (edge e c) h = k_one (a_sign (edge_sign e h.0)) (boolean_known c h.1)
  vector_known (join j p q) h = k_two (a_sign (join_sign j)) (vector_known p h.0) (vector_known q h.1)
  vector_known (while on_right p c) h =
      k_two (a_sign (low (lit≤ tt) (lit≤ tt))) (vector_known p h.0) (boolean_known c h.1)
  vector_known (while on_left p c) h =
      k_two (a_sign (low (lit≤ tt) (lit≤ tt))) (boolean_known c h.1) (vector_known p h.0)

  pub tree_known : (e : Expression) → ExpressionOver (length names / 32) e → TreeKnown names (tree_of e)
  unfolding tree_of ExpressionOver
  tree_known (boolean c) h = boolean_known c h
  tree_known (vector p) h = vector_known p h

-- how many tokens are written: at most four for each node
fitted_short : (l m : ℕ) (ts : List Token) → length (fitted l m ts) ≤ length ts + 2
unfolding fitted
fitted_short l m ts = go (leb m l)
  where
    go : (b : Bool) → length (if b then ts else made 62 ∷ (ts ++ (made 63 ∷ []))) ≤ length ts + 2
    go true = omega arith
    go false = simp length-append (omega arith)

pub written_short : (e : Tree) (l : ℕ) → length (written l e) ≤ 4 * length (nodes e)
unfolding written nodes
written_short (leaf t) l = omega arith
written_short (one t a) l = simp length-append (omega (arith, written_short a 1))
written_short (two t a b) l =
    let m = level_of (kind_of t) in
    let f = fitted_short l m (written m a ++ (t ∷ written (pred m) b)) in
    let g = length-append (written m a) (t ∷ written (pred m) b) in
    simp length-append (omega (arith, written_short a m, written_short b (pred m)))
written_short (three t c a b) l =
    let f = fitted_short l 6 (written 5 c ++ (t ∷ (written 6 a ++ (made 61 ∷ written 6 b)))) in
    let g = length-append (written 5 c) (t ∷ (written 6 a ++ (made 61 ∷ written 6 b))) in
    let i = length-append (written 6 a) (made 61 ∷ written 6 b) in
    simp length-append (omega (arith, written_short c 5, written_short a 6, written_short b 6))

-- a tree has as many nodes as bytes
boolean_nodes : (c : Boolean) → length (nodes (boolean_tree c)) ≡ length (boolean_bytes c)
unfolding boolean_tree nodes boolean_bytes
boolean_nodes (name i) = refl
boolean_nodes (literal s) = refl
boolean_nodes (negated a) = simp length-append (omega (arith, boolean_nodes a))
boolean_nodes (binary o a b) = simp length-append (omega (arith, boolean_nodes a, boolean_nodes b))
boolean_nodes (choice c a b) = simp length-append (omega (arith, boolean_nodes c, boolean_nodes a, boolean_nodes b))

vector_nodes : (p : Vector) → length (nodes (vector_tree p)) ≡ length (vector_bytes p)
unfolding vector_tree nodes vector_bytes
vector_nodes (edge e c) = simp length-append (omega (arith, boolean_nodes c))
vector_nodes (join j p q) = simp length-append (omega (arith, vector_nodes p, vector_nodes q))
vector_nodes (while on_right p c) = simp length-append (omega (arith, vector_nodes p, boolean_nodes c))
vector_nodes (while on_left p c) = simp length-append (omega (arith, vector_nodes p, boolean_nodes c))

pub nodes_bytes : (e : Expression) → length (nodes (tree_of e)) ≡ length (bytes_of e)
unfolding tree_of bytes_of
nodes_bytes (boolean c) = boolean_nodes c
nodes_bytes (vector p) = vector_nodes p
