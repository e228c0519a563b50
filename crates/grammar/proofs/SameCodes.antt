-- The grammar goes by the codes alone: of two texts with the same codes, at whatever places, the one is an expression
-- where the other is (alike), and their trees have the same codes (same_tree).
use Prim.Native.Nat.{ℕ, suc}
use native.Mathlib.Omega.{arith}
use mathlib.Core.Path.{◌≡◌, refl, sym, ap, ◌∙◌}
use mathlib.Core.List.{List, [], ◌∷◌, ◌++◌, map-append}
use lib.ListN.{length}
use Rattle.grammar.specs.declared.Token.{Token}
use Rattle.grammar.specs.Tokens.{Kind, question, colon, binary, kind, kind_of}
use Rattle.grammar.specs.Grammar.{Tree, leaf, one, two, three, nodes, Expression}
use Rattle.grammar.specs.Grammar.{Parses, alone, applied, bracketed, up, joined, chosen}
use Rattle.grammar.specs.Answers.{codes_of}
use Rattle.grammar.proofs.Unique.{parses_unique}

-- the first token of a text with such codes
record First (us : List Token) (t : Token) (ts : List Token) : Type 0 where
  token : Token
  after : List Token
  split : us ≡ token ∷ after
  code : token.code ≡ t.code
  codes : codes_of after ≡ codes_of ts

first : (us : List Token) (t : Token) (ts : List Token) → codes_of us ≡ t.code ∷ codes_of ts → First us t ts
first [] t ts e = absurd (omega (arith, ap length e))
first (u ∷ us) t ts e = record { token = u; after = us; split = refl; code = cc; codes = cc }

-- a tree of a text with such codes
pub record Alike (l : ℕ) (us : List Token) (e : Tree) (rest : List Token) : Type 0 where
  pub tree : Tree
  pub after : List Token
  pub parses : Parses l us tree after
  pub codes : codes_of (nodes tree) ≡ codes_of (nodes e)
  pub rest_codes : codes_of after ≡ codes_of rest

codes_join :
    (a b c d : List Token) → codes_of a ≡ codes_of c → codes_of b ≡ codes_of d →
    codes_of (a ++ b) ≡ codes_of (c ++ d)
codes_join a b c d e f = let s = map-append (λ (t : Token). t.code) in s a b ∙ (cc) ∙ sym (s c d)

codes_snoc :
    (a b : List Token) (t u : Token) →
    codes_of a ≡ codes_of b →
    t.code ≡ u.code →
    codes_of (a ++ (t ∷ [])) ≡ codes_of (b ++ (u ∷ []))
codes_snoc a b t u e f = codes_join a (t ∷ []) b (u ∷ []) e (ap (λ (c : ℕ). c ∷ []) f)

like : {c d : ℕ} {k : Kind} → c ≡ d → kind d ≡ k → kind c ≡ k
like e q = ap kind e ∙ q

from : {l : ℕ} {us vs rest : List Token} {e : Tree} → us ≡ vs → Parses l vs e rest → Parses l us e rest
from q p = rw q p

into : {l : ℕ} {ts us vs : List Token} {e : Tree} → us ≡ vs → Parses l ts e us → Parses l ts e vs
into q p = rw q at p

-- each rule on texts with such codes
joined_alike :
    {l : ℕ} {t : Token} {us vs rest : List Token} {a b : Tree} →
    kind_of t ≡ binary (suc l) →
    (g : Alike (suc l) us a (t ∷ vs)) (f : First g.after t vs) →
    Alike l f.after b rest →
    Alike (suc l) us (two t a b) rest
unfolding nodes
joined_alike {t = t} {a = a} {b = b} k g f i =
    record {
      tree = two f.token g.tree i.tree;
      after = i.after;
      parses = joined (into f.split g.parses) (like f.code k) i.parses;
      codes =
          codes_snoc (nodes g.tree ++ nodes i.tree) (nodes a ++ nodes b) f.token t
          (codes_join (nodes g.tree) (nodes i.tree) (nodes a) (nodes b) g.codes i.codes) f.code;
      rest_codes = i.rest_codes;
    }

chosen_alike :
    {t u : Token} {us vs ws rest : List Token} {c a b : Tree} →
    kind_of t ≡ question →
    kind_of u ≡ colon →
    (g : Alike 5 us c (t ∷ vs)) (f : First g.after t vs) →
    (i : Alike 6 f.after a (u ∷ ws)) (f' : First i.after u ws) →
    Alike 6 f'.after b rest →
    Alike 6 us (three t c a b) rest
unfolding nodes
chosen_alike {t = t} {c = c} {a = a} {b = b} k k' g f i f' j =
    record {
      tree = three f.token g.tree i.tree j.tree;
      after = j.after;
      parses =
          chosen (into f.split g.parses) (like f.code k) (into f'.split i.parses)
          (like f'.code k')
          j.parses;
      codes =
          codes_snoc ((nodes g.tree ++ nodes i.tree) ++ nodes j.tree) ((nodes c ++ nodes a) ++ nodes b)
          f.token t
          (codes_join (nodes g.tree ++ nodes i.tree) (nodes j.tree) (nodes c ++ nodes a) (nodes b)
          (codes_join (nodes g.tree) (nodes i.tree) (nodes c) (nodes a) g.codes i.codes) j.codes)
          f.code;
      rest_codes = j.rest_codes;
    }

pub alike :
    {l : ℕ} {ts rest : List Token} {e : Tree} →
    Parses l ts e rest →
    (us : List Token) →
    codes_of us ≡ codes_of ts →
    Alike l us e rest
unfolding nodes
alike (alone {t = t} {ts = ts} k) us h =
    let f = first us t ts h in
    record {
      tree = leaf f.token;
      after = f.after;
      parses = from f.split (alone (like f.code k));
      codes = codes_snoc [] [] f.token t refl f.code;
      rest_codes = f.codes;
    }
alike (applied {t = t} {ts = ts} {a = a} k p) us h =
    let f = first us t ts h in
    let g = alike p f.after f.codes in
    record {
      tree = one f.token g.tree;
      after = g.after;
      parses = from f.split (applied (like f.code k) g.parses);
      codes = codes_snoc (nodes g.tree) (nodes a) f.token t g.codes f.code;
      rest_codes = g.rest_codes;
    }
alike (bracketed {t = t} {u = u} {ts = ts} {rest = rest} k p k') us h =
    let f = first us t ts h in
    let g = alike p f.after f.codes in
    let f' = first g.after u rest g.rest_codes in
    record {
      tree = g.tree;
      after = f'.after;
      parses = from f.split (bracketed (like f.code k) (into f'.split g.parses) (like f'.code k'));
      codes = g.codes;
      rest_codes = f'.codes;
    }
alike (up p) us h =
    let g = alike p us h in
    record {
      tree = g.tree;
      after = g.after;
      parses = up g.parses;
      codes = g.codes;
      rest_codes = g.rest_codes;
    }
alike (joined {t = t} {us = vs} p k q) us h =
    let g = alike p us h in
    let f = first g.after t vs g.rest_codes in
    joined_alike k g f (alike q f.after f.codes)
alike (chosen {t = t} {u = u} {us = vs} {vs = ws} p k q k' r) us h =
    let g = alike p us h in
    let f = first g.after t vs g.rest_codes in
    let i = alike q f.after f.codes in
    let f' = first i.after u ws i.rest_codes in
    chosen_alike k k' g f i f' (alike r f'.after f'.codes)

-- of whole texts
pub same_tree :
    {ts us : List Token} {e e' : Tree} →
    codes_of us ≡ codes_of ts →
    Expression ts e →
    Expression us e' →
    codes_of (nodes e') ≡ codes_of (nodes e)
same_tree {us = us} {e = e} {e' = e'} h p q = go (alike p us h)
  where
    whole : (x : Tree) (ws : List Token) → Parses 6 us x ws → codes_of ws ≡ [] → x ≡ e'
    whole x [] r f = parses_unique r q
    whole x (w ∷ ws) r f = absurd (omega (arith, ap length f))

    go : Alike 6 us e [] → codes_of (nodes e') ≡ codes_of (nodes e)
    go a =
        let w = whole a.tree a.after a.parses a.rest_codes in
        ap (λ (x : Tree). codes_of (nodes x)) (sym w) ∙ a.codes
