-- What was read before a stop goes on to an expression. Main names: cut (what an expression takes can be set before
-- anything), via (where reading stops, something may follow).
use Prim.Native.Nat.{ℕ}
use mathlib.Core.Path.{◌≡◌, refl, sym, ap, ◌∙◌}
use mathlib.Core.List.{List, [], ◌∷◌, ◌++◌, append_assoc}
use Rattle.grammar.specs.declared.Token.{Token}
use Rattle.grammar.specs.Tokens.{operand, colon, closing, table, kind_in, kind, kind_of}
use Rattle.grammar.specs.Grammar.{Tree, leaf, one, two, three}
use Rattle.grammar.specs.Grammar.{Parses, alone, applied, bracketed, up, joined, chosen}
use Rattle.grammar.specs.Stops.{Stops, here, in_operand, in_bracket, unclosed, s_up, in_right}
use Rattle.grammar.specs.Stops.{in_middle, no_colon, in_last}

-- some name, `:` and `)`
abbrev some : ℕ → Token
some c = record { code = c; place = 0 }

abbrev some_name : Token
some_name = some 0

abbrev some_colon : Token
some_colon = some 61

abbrev some_closing : Token
some_closing = some 63

is_name_lem : kind_of some_name ≡ operand
unfolding kind kind_in table
is_name_lem = refl

is_colon : kind_of some_colon ≡ colon
unfolding kind kind_in table
is_colon = refl

is_closing : kind_of some_closing ≡ closing
unfolding kind kind_in table
is_closing = refl

some_operand : {s : List Token} → Parses 6 (some_name ∷ s) (leaf some_name) s
some_operand = up (up (up (up (up (alone is_name_lem)))))

-- lists put together
seam : (a b c ts us : List Token) (o : Token) → ts ≡ a ++ (o ∷ us) → us ≡ b ++ c
    → ts ≡ (a ++ (o ∷ b)) ++ c
seam a b c ts us o e f = simp (e, f, append_assoc)

first_seam : (a b ts : List Token) (o : Token) → ts ≡ a ++ b → o ∷ ts ≡ (o ∷ a) ++ b
first_seam a b ts o e = ap (λ (x : List Token). o ∷ x) e

glue :
    {l : ℕ} {e : Tree} {r : List Token} (a b s : List Token) (o : Token) →
    Parses l (a ++ (o ∷ (b ++ s))) e r →
    Parses l ((a ++ (o ∷ b)) ++ s) e r
glue a b s o p = rw append_assoc p

glue_after :
    {l : ℕ} {e : Tree} {r : List Token} (a b c s : List Token) →
    Parses l (a ++ (b ++ (c ++ s))) e r →
    Parses l (a ++ ((b ++ c) ++ s)) e r
glue_after a b c s p = rw (append_assoc b c s) p

-- what an expression takes can be cut out and set before anything
pub record Cut (l : ℕ) (ts : List Token) (e : Tree) (rest : List Token) : Type 0 where
  pub pre : List Token
  pub split : ts ≡ pre ++ rest
  pub again : (s : List Token) → Parses l (pre ++ s) e s

pub cut : {l : ℕ} {ts rest : List Token} {e : Tree} → Parses l ts e rest → Cut l ts e rest
cut (alone {t = t} k) = record { pre = t ∷ []; split = refl; again = λ s. alone k }
cut (applied {t = t} {ts = ts} {rest = rest} k p) =
    let c = cut p in
    record {
      pre = t ∷ c.pre;
      split = first_seam c.pre rest ts t c.split;
      again = λ s. applied k (c.again s);
    }
cut (bracketed {t = t} {u = u} {ts = ts} {rest = rest} k p k') =
    let c = cut p in
    record {
      pre = t ∷ (c.pre ++ (u ∷ []));
      split = first_seam (c.pre ++ (u ∷ [])) rest ts t (c.split ∙ sym (append_assoc c.pre (u ∷ []) rest));
      again = λ s. bracketed k (glue c.pre [] s u (c.again (u ∷ s))) k';
    }
cut (up p) = let c = cut p in record { pre = c.pre; split = c.split; again = λ s. up (c.again s) }
cut (joined {t = t} {ts = ts} {us = us} {rest = rest} p k q) =
    let c = cut p in
    let d = cut q in
    record {
      pre = c.pre ++ (t ∷ d.pre);
      split = seam c.pre d.pre rest ts us t c.split d.split;
      again = λ s. glue c.pre d.pre s t (joined (c.again (t ∷ (d.pre ++ s))) k (d.again s));
    }
cut (chosen {t = t} {u = u} {ts = ts} {us = us} {vs = vs} {rest = rest} p k q k' r) =
    let c = cut p in
    let d = cut q in
    let f = cut r in
    let m = d.pre ++ (u ∷ f.pre) in
    record {
      pre = c.pre ++ (t ∷ m);
      split = seam c.pre m rest ts us t c.split (seam d.pre f.pre rest us vs u d.split f.split);
      again = λ s.
          glue c.pre m s t
          (chosen (c.again (t ∷ (m ++ s))) k
          (glue d.pre f.pre s u (d.again (u ∷ (f.pre ++ s)))) k' (f.again s));
    }

-- where it stops, what was read goes on
pub record Via (l : ℕ) (ts rest : List Token) : Type 0 where
  pub pre : List Token
  pub split : ts ≡ pre ++ rest
  pub more : List Token
  pub tree : Tree
  pub goes : (s : List Token) → Parses l (pre ++ (more ++ s)) tree s

pub via : {l : ℕ} {ts rest : List Token} → Stops l ts rest → Via l ts rest
via (here e) =
    record { pre = []; split = refl; more = some_name ∷ []; tree = leaf some_name; goes = λ s. alone is_name_lem }
via (in_operand {t = t} {ts = ts} {rest = rest} k s) =
    let c = via s in
    record {
      pre = t ∷ c.pre;
      split = first_seam c.pre rest ts t c.split;
      more = c.more;
      tree = one t c.tree;
      goes = λ s. applied k (c.goes s);
    }
via (in_bracket {t = t} {ts = ts} {rest = rest} k s) =
    let c = via s in
    record {
      pre = t ∷ c.pre;
      split = first_seam c.pre rest ts t c.split;
      more = c.more ++ (some_closing ∷ []);
      tree = c.tree;
      goes = λ s.
          bracketed k (glue_after c.pre c.more (some_closing ∷ []) s (c.goes (some_closing ∷ s))) is_closing;
    }
via (unclosed {t = t} {ts = ts} {rest = rest} {e = e} k p h n) =
    let c = cut p in
    record {
      pre = t ∷ c.pre;
      split = first_seam c.pre rest ts t c.split;
      more = some_closing ∷ [];
      tree = e;
      goes = λ s. bracketed k (c.again (some_closing ∷ s)) is_closing;
    }
via (s_up s) =
    let c = via s in
    record { pre = c.pre; split = c.split; more = c.more; tree = c.tree; goes = λ s. up (c.goes s) }
via (in_right {t = t} {ts = ts} {us = us} {rest = rest} {a = a} p k s) =
    let c = cut p in
    let d = via s in
    record {
      pre = c.pre ++ (t ∷ d.pre);
      split = seam c.pre d.pre rest ts us t c.split d.split;
      more = d.more;
      tree = two t a d.tree;
      goes = λ s.
          glue c.pre d.pre (d.more ++ s) t
          (joined (c.again (t ∷ (d.pre ++ (d.more ++ s)))) k (d.goes s));
    }
via (in_middle {t = t} {ts = ts} {us = us} {rest = rest} {c = c₁} p k s) =
    let c = cut p in
    let d = via s in
    let w = some_colon ∷ (some_name ∷ []) in
    record {
      pre = c.pre ++ (t ∷ d.pre);
      split = seam c.pre d.pre rest ts us t c.split d.split;
      more = d.more ++ w;
      tree = three t c₁ d.tree (leaf some_name);
      goes = λ s.
          glue_after (c.pre ++ (t ∷ d.pre)) d.more w s
          (glue c.pre d.pre (d.more ++ (w ++ s)) t
          (chosen (c.again (t ∷ (d.pre ++ (d.more ++ (w ++ s))))) k (d.goes (w ++ s)) is_colon some_operand));
    }
via (no_colon {t = t} {ts = ts} {us = us} {rest = rest} {c = c₁} {a = a} p k q h n) =
    let c = cut p in
    let d = cut q in
    let w = some_colon ∷ (some_name ∷ []) in
    record {
      pre = c.pre ++ (t ∷ d.pre);
      split = seam c.pre d.pre rest ts us t c.split d.split;
      more = w;
      tree = three t c₁ a (leaf some_name);
      goes = λ s.
          glue c.pre d.pre (w ++ s) t
          (chosen (c.again (t ∷ (d.pre ++ (w ++ s)))) k (d.again (w ++ s)) is_colon some_operand);
    }
via (in_last {t = t} {u = u} {ts = ts} {us = us} {vs = vs} {rest = rest} {c = c₁} {a = a} p k q k' s) =
    let c = cut p in
    let d = cut q in
    let f = via s in
    let m = d.pre ++ (u ∷ f.pre) in
    record {
      pre = c.pre ++ (t ∷ m);
      split = seam c.pre m rest ts us t c.split (seam d.pre f.pre rest us vs u d.split f.split);
      more = f.more;
      tree = three t c₁ a f.tree;
      goes = λ s.
          let z = f.more ++ s in
          glue c.pre m z t
          (chosen (c.again (t ∷ (m ++ z))) k
          (glue d.pre f.pre z u (d.again (u ∷ (f.pre ++ z)))) k' (f.goes s));
    }
