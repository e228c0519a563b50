-- The brackets of a written text are needed: with a pair left out its tokens are another tree, or none.
--   bare_written         a tree is written by the codes of its tokens
--   fewer_other          tokens with fewer brackets are not that tree, whatever their places
--   pair_left_out        nor are the written tokens with an opening and a closing bracket left out
use Rattle.std.specs.Prelude.{if◌then◌else◌}
use Prim.Native.Nat.{ℕ, pred, ◌+◌, ◌<◌}
use native.Mathlib.Omega.{arith}
use mathlib.Core.Path.{◌≡◌, refl, sym, ap, ◌∙◌}
use mathlib.Core.Bool.{Bool, true, false}
use mathlib.Core.List.{List, [], ◌∷◌, ◌++◌, map, map-append, append_assoc}
use lib.Dec.{leb}
use lib.ListN.{length}
use Rattle.grammar.specs.declared.Token.{Token}
use Rattle.grammar.specs.Tokens.{opening, closing, kind_of}
use Rattle.grammar.specs.Grammar.{Tree, leaf, one, two, three, nodes, Expression}
use Rattle.grammar.specs.Answers.{codes_of}
use Rattle.grammar.specs.Written.{made, level_of, fitted, written, opens, brackets}
use Rattle.grammar.specs.Written.{Formed}
use Rattle.grammar.proofs.Nodes.{nodes_unique}
use Rattle.grammar.proofs.Written.{expression_formed}
use Rattle.grammar.proofs.Fewest.{written_fewest}
use Rattle.text_laws.proofs.Renumbering.{placed_by, tree_by, nowhere, bare, nodes_by, formed_by}

-- all places taken away
abbrev bare_token : Token → Token
bare_token t = placed_by nowhere t

bare_same : (ts us : List Token) → codes_of ts ≡ codes_of us → map bare_token ts ≡ map bare_token us
unfolding placed_by
bare_same [] [] h = refl
bare_same [] (u ∷ us) h = absurd (omega (arith, ap length h))
bare_same (t ∷ ts) [] h = absurd (omega (arith, ap length h))
bare_same (t ∷ ts) (u ∷ us) h =
    let c : t.code ≡ u.code = cc in
    let d : codes_of ts ≡ codes_of us = cc in
    let e : bare_token t ≡ bare_token u = ap made c in
    let f = bare_same ts us d in cc

bare_opens : (ts : List Token) → brackets (map bare_token ts) ≡ brackets ts
unfolding brackets placed_by
bare_opens [] = refl
bare_opens (t ∷ ts) = ap (λ (n : ℕ). opens (kind_of t) + n) (bare_opens ts)

bare_fitted : (l m : ℕ) (ts : List Token) → fitted l m (map bare_token ts) ≡ map bare_token (fitted l m ts)
unfolding fitted placed_by
bare_fitted l m ts = go (leb m l)
  where
    go : (b : Bool)
        → (if b then map bare_token ts else made 62 ∷ (map bare_token ts ++ (made 63 ∷ [])))
        ≡ map bare_token (if b then ts else made 62 ∷ (ts ++ (made 63 ∷ [])))
    go true = refl
    go false = ap (λ (us : List Token). made 62 ∷ us) (sym (map-append bare_token ts (made 63 ∷ [])))

bare_seam : (ts us : List Token) (t : Token) {ts' us' : List Token} → ts' ≡ map bare_token ts
    → us' ≡ map bare_token us → ts' ++ (bare_token t ∷ us') ≡ map bare_token (ts ++ (t ∷ us))
bare_seam ts us t a b = rw (a, b) (sym (map-append bare_token ts (t ∷ us)))

bare_written : (e : Tree) (l : ℕ) → written l (bare e) ≡ map bare_token (written l e)
unfolding written placed_by tree_by
bare_written (leaf t) l = refl
bare_written (one t a) l = ap (λ (ts : List Token). bare_token t ∷ ts) (bare_written a 1)
bare_written (two t a b) l =
    let m = level_of (kind_of t) in
    ap (fitted l m)
    (bare_seam (written m a) (written (pred m) b) t (bare_written a m) (bare_written b (pred m)))
    ∙ bare_fitted l m (written m a ++ (t ∷ written (pred m) b))
bare_written (three t c a b) l =
    let ts = written 6 a ++ (made 61 ∷ written 6 b) in
    ap (fitted l 6)
    (bare_seam (written 5 c) ts t (bare_written c 5)
    (bare_seam (written 6 a) (written 6 b) (made 61) (bare_written a 6) (bare_written b 6)))
    ∙ bare_fitted l 6 (written 5 c ++ (t ∷ ts))

-- trees whose nodes have the same codes are written with as many brackets
bare_brackets : (e : Tree) → brackets (written 6 (bare e)) ≡ brackets (written 6 e)
bare_brackets e = ap brackets (bare_written e 6) ∙ bare_opens (written 6 e)

same_brackets : {e e' : Tree} → Formed e → Formed e' → codes_of (nodes e) ≡ codes_of (nodes e')
    → brackets (written 6 e) ≡ brackets (written 6 e')
same_brackets {e} {e'} f g h =
    let n = nodes_by nowhere e ∙ bare_same (nodes e) (nodes e') h ∙ sym (nodes_by nowhere e') in
    let s = nodes_unique (formed_by nowhere f) (formed_by nowhere g) n in
    sym (bare_brackets e) ∙ ap (λ (x : Tree). brackets (written 6 x)) s ∙ bare_brackets e'

-- tokens with fewer brackets are no such tree
pub fewer_other : {e e' : Tree} (us : List Token) → Formed e → brackets us < brackets (written 6 e)
    → Expression us e' → codes_of (nodes e') ≡ codes_of (nodes e) → ⊥
unfolding brackets
fewer_other us f l p h = omega (arith, written_fewest p, same_brackets (expression_formed p) f h)

-- a token left out
left_out : (before : List Token) (t : Token) (ts : List Token)
    → brackets (before ++ (t ∷ ts)) ≡ opens (kind_of t) + brackets (before ++ ts)
unfolding brackets
left_out [] t ts = refl
left_out (b ∷ before) t ts = omega (arith, left_out before t ts)

brackets_codes : (ts us : List Token) → codes_of ts ≡ codes_of us → brackets ts ≡ brackets us
brackets_codes ts us h = sym (bare_opens ts) ∙ ap brackets (bare_same ts us h) ∙ bare_opens us

-- ts are the tokens of a written text, at whatever places, t and u a bracket that opens and one that closes
pub pair_left_out : {e : Tree} → Formed e → (ts before inside behind : List Token) (t u : Token)
    → codes_of ts ≡ codes_of (written 6 e) → ts ≡ before ++ (t ∷ (inside ++ (u ∷ behind)))
    → kind_of t ≡ opening → kind_of u ≡ closing
    → (e' : Tree) → Expression (before ++ (inside ++ behind)) e' → codes_of (nodes e') ≡ codes_of (nodes e)
    → ⊥
pair_left_out {e} f ts before inside behind t u c s k l e' p =
    let a = left_out before t (inside ++ (u ∷ behind)) in
    let b = left_out (before ++ inside) u behind in
    let b' = rw (append_assoc before inside (u ∷ behind), append_assoc before inside behind) at b in
    fewer_other (before ++ (inside ++ behind)) f
    (omega (arith, brackets_codes ts (written 6 e) c, ap brackets s, a, b', ap opens k, ap opens l)) p
