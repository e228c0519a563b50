-- Tokens at other places, and trees of such tokens: what the grammar says goes by the codes, and these stay.
--   placed_by, tree_by             tokens and trees at places told by code and place
--   renumbered, renumbered_tree   a name's token has the number of its name
--   bare                         a tree without the places of its tokens
--   parses_by, codes_by, nodes_by, formed_by, depth_by   what parses at one place parses at another, and so on
--   Matched, matched             tokens that are the same up to places are the same tree up to places
use Rattle.std.specs.Prelude.{if◌then◌else◌}
use Prim.Native.Nat.{ℕ, pred, max}
use native.Mathlib.Omega.{arith}
use mathlib.Core.Path.{◌≡◌, refl, sym, ap, ap₂, ◌∙◌}
use mathlib.Core.List.{List, [], ◌∷◌, map, map-append}
use lib.Dec.{eqb}
use lib.ListN.{length}
use Rattle.grammar.specs.declared.Token.{Token}
use Rattle.grammar.specs.Tokens.{kind_of}
use Rattle.grammar.specs.Grammar.{Tree, leaf, one, two, three, nodes, Expression}
use Rattle.grammar.specs.Grammar.{Parses, alone, applied, bracketed, up, joined, chosen}
use Rattle.grammar.specs.Written.{level_of, deepened, depth_of, Formed, leaf_is, one_is, two_is, three_is}
use Rattle.grammar.specs.Answers.{codes_of}
use Rattle.grammar.proofs.Unique.{parses_unique}
use Rattle.grammar.proofs.SameCodes.{Alike, alike}

-- a token at another place, told by its code and its place; and a tree
unfoldable pub placed_by : (ℕ → ℕ → ℕ) → Token → Token
placed_by place t = record { code = t.code; place = place t.code t.place }

unfoldable pub tree_by : (ℕ → ℕ → ℕ) → Tree → Tree
tree_by place (leaf t) = leaf (placed_by place t)
tree_by place (one t a) = one (placed_by place t) (tree_by place a)
tree_by place (two t a b) = two (placed_by place t) (tree_by place a) (tree_by place b)
tree_by place (three t c a b) = three (placed_by place t) (tree_by place c) (tree_by place a) (tree_by place b)

-- a name's token has its name's number for its place, any other 0; or all have 0
abbrev pub numbers : (ℕ → ℕ) → ℕ → ℕ → ℕ
numbers number c p = if eqb c 0 then number p else 0

abbrev pub nowhere : ℕ → ℕ → ℕ
nowhere c p = 0

abbrev pub renumbered : (ℕ → ℕ) → Token → Token
renumbered number t = placed_by (numbers number) t

abbrev pub renumbered_tree : (ℕ → ℕ) → Tree → Tree
renumbered_tree number e = tree_by (numbers number) e

abbrev pub bare : Tree → Tree
bare e = tree_by nowhere e

-- the grammar goes by the codes, and these stay
module _ (place : ℕ → ℕ → ℕ) where
  pub parses_by : {l : ℕ} {ts rest : List Token} {e : Tree} → Parses l ts e rest
      → Parses l (map (placed_by place) ts) (tree_by place e) (map (placed_by place) rest)
  unfolding placed_by tree_by
  parses_by (alone k) = alone k
  parses_by (applied k p) = applied k (parses_by p)
  parses_by (bracketed k p k') = bracketed k (parses_by p) k'
  parses_by (up p) = up (parses_by p)
  parses_by (joined p k q) = joined (parses_by p) k (parses_by q)
  parses_by (chosen p k q k' r) = chosen (parses_by p) k (parses_by q) k' (parses_by r)

  pub codes_by : (ts : List Token) → codes_of (map (placed_by place) ts) ≡ codes_of ts
  unfolding placed_by
  codes_by [] = refl
  codes_by (t ∷ ts) = ap (λ (cs : List ℕ). t.code ∷ cs) (codes_by ts)

  pub nodes_by : (e : Tree) → nodes (tree_by place e) ≡ map (placed_by place) (nodes e)
  unfolding nodes tree_by
  nodes_by (leaf t) = refl
  nodes_by (one t a) = rw (map-append, nodes_by a) refl
  nodes_by (two t a b) = rw (map-append, map-append, nodes_by a, nodes_by b) refl
  nodes_by (three t c a b) = rw (map-append, map-append, map-append, nodes_by c, nodes_by a, nodes_by b) refl

  pub formed_by : {e : Tree} → Formed e → Formed (tree_by place e)
  unfolding placed_by tree_by
  formed_by (leaf_is k) = leaf_is k
  formed_by (one_is k f) = one_is k (formed_by f)
  formed_by (two_is k f g) = two_is k (formed_by f) (formed_by g)
  formed_by (three_is k f g h) = three_is k (formed_by f) (formed_by g) (formed_by h)

  pub depth_by : (e : Tree) (l : ℕ) → depth_of l (tree_by place e) ≡ depth_of l e
  unfolding depth_of placed_by tree_by
  depth_by (leaf t) l = refl
  depth_by (one t a) l = depth_by a 1
  depth_by (two t a b) l =
      let m = level_of (kind_of t) in
      ap (deepened l m) (ap₂ max (depth_by a m) (depth_by b (pred m)))
  depth_by (three t c a b) l =
      ap (deepened l 6) (ap₂ max (depth_by c 5) (ap₂ max (depth_by a 6) (depth_by b 6)))

-- a tree of the tokens us, which is e up to places
pub record Matched (number number' : ℕ → ℕ) (us : List Token) (e : Tree) : Type 0 where
  pub tree : Tree
  pub whole : Expression us tree
  pub same : renumbered_tree number tree ≡ renumbered_tree number' e

pub matched : (number number' : ℕ → ℕ) {us ts : List Token} {e : Tree}
    → map (renumbered number) us ≡ map (renumbered number') ts → Expression ts e
    → Matched number number' us e
matched number number' {us} {ts} {e} h p = go a.tree a.after a.parses a.rest_codes
  where
    codes : codes_of us ≡ codes_of ts
    codes = sym (codes_by (numbers number) us) ∙ ap codes_of h ∙ codes_by (numbers number') ts

    a : Alike 6 us e []
    a = alike p us codes

    go : (x : Tree) (ws : List Token) → Parses 6 us x ws → codes_of ws ≡ [] → Matched number number' us e
    go x [] q f =
        record {
          tree = x;
          whole = q;
          same = parses_unique (rw h at (parses_by (numbers number) q)) (parses_by (numbers number') p);
        }
    go x (w ∷ ws) q f = absurd (omega (arith, ap length f))
