-- A tree's text has the fewest brackets of all its texts (written_fewest), so leaving out a pair gives another tree or
-- none; and its counted tokens are its nodes (counted_nodes).
use Rattle.std.specs.Prelude.{if◌then◌else◌}
use Prim.Native.Nat.{ℕ, suc, ◌+◌, ◌≤◌}
use native.Mathlib.Omega.{arith}
use mathlib.Core.Path.{◌≡◌, refl, ap, ◌∙◌}
use mathlib.Core.Bool.{Bool, true, false}
use mathlib.Core.List.{List, [], ◌∷◌, ◌++◌}
use lib.Dec.{leb}
use lib.ListN.{length, length-append}
use Rattle.grammar.specs.declared.Token.{Token}
use Rattle.grammar.specs.Tokens.{kind_of, weight, counted}
use Rattle.grammar.specs.Grammar.{Tree, leaf, one, two, three, nodes}
use Rattle.grammar.specs.Grammar.{Parses, alone, applied, bracketed, up, joined, chosen}
use Rattle.grammar.specs.Written.{made, level_of, fitted, written, opens, brackets, deepened}
use Rattle.grammar.proofs.Fitting.{deepened_open, deepened_more, deepened_plain, deepened_less}
use Rattle.grammar.proofs.Written.{made_colon, made_opening, made_closing}
use Rattle.grammar.proofs.Written.{written_leaf, written_one, written_two, written_three}

brackets_append : (ts us : List Token) → brackets (ts ++ us) ≡ brackets ts + brackets us
unfolding brackets
brackets_append [] us = omega arith
brackets_append (t ∷ ts) us = omega (arith, brackets_append ts us)

brackets_next : (t : Token) (ts : List Token) → brackets (t ∷ ts) ≡ opens (kind_of t) + brackets ts
unfolding brackets
brackets_next t ts = refl

brackets_none : brackets [] ≡ 0
unfolding brackets
brackets_none = refl

-- brackets put around, or not
around : (ts : List Token) → brackets (made 62 ∷ (ts ++ (made 63 ∷ []))) ≡ suc (brackets ts)
around ts =
    omega (
      arith,
      brackets_next (made 62) (ts ++ (made 63 ∷ [])),
      brackets_append ts (made 63 ∷ []),
      brackets_next (made 63) [],
      brackets_none,
      ap opens made_opening,
      ap opens made_closing,
    )

fitted_brackets : (l m : ℕ) (ts : List Token) → brackets (fitted l m ts) ≡ deepened l m (brackets ts)
unfolding fitted deepened
fitted_brackets l m ts = go (leb m l)
  where
    go :
        (b : Bool) →
        brackets (if b then ts else made 62 ∷ (ts ++ (made 63 ∷ []))) ≡
        (if b then brackets ts else suc (brackets ts))
    go true = refl
    go false = around ts

-- a weaker level asks for no more brackets, the strongest for one pair more than the weakest
fitted_less : (l m : ℕ) (ts : List Token) → brackets (fitted (suc l) m ts) ≤ brackets (fitted l m ts)
fitted_less l m ts = rw (fitted_brackets (suc l) m ts, fitted_brackets l m ts) (deepened_less l m (brackets ts))

fitted_open : (l k m : ℕ) (ts : List Token) → brackets (fitted l m ts) ≤ suc (brackets (fitted k m ts))
fitted_open l k m ts =
    let n = brackets ts in
    rw (fitted_brackets l m ts, fitted_brackets k m ts) (omega (arith, deepened_open l m n, deepened_more k m n))

written_less : (e : Tree) (l : ℕ) → brackets (written (suc l) e) ≤ brackets (written l e)
unfolding written
written_less (leaf t) l = omega arith
written_less (one t a) l = omega arith
written_less (two t a b) l = fitted_less l (level_of (kind_of t)) _
written_less (three t c a b) l = fitted_less l 6 _

written_open : (e : Tree) (l : ℕ) → brackets (written l e) ≤ suc (brackets (written 6 e))
unfolding written
written_open (leaf t) l = omega arith
written_open (one t a) l = omega arith
written_open (two t a b) l = fitted_open l 6 (level_of (kind_of t)) _
written_open (three t c a b) l = fitted_open l 6 6 _

fitted_plain : (m : ℕ) (ts : List Token) → brackets (fitted m m ts) ≡ brackets ts
fitted_plain m ts = fitted_brackets m m ts ∙ deepened_plain m m (brackets ts) (omega arith)

-- the brackets of an operator between its operands, and of a choice
two_brackets : (ts us : List Token) (t : Token) →
    brackets (ts ++ (t ∷ us)) ≡ brackets ts + (opens (kind_of t) + brackets us)
two_brackets ts us t = omega (arith, brackets_append ts (t ∷ us), brackets_next t us)

pub written_fewest :
    {l : ℕ} {ts rest : List Token} {e : Tree} →
    Parses l ts e rest →
    brackets (written l e) + brackets rest ≤ brackets ts
written_fewest (alone {t = t} {ts = ts} k) =
    rw (written_leaf 1 t) (omega (arith, brackets_next t [], brackets_next t ts, brackets_none))
written_fewest (applied {t = t} {ts = ts} {a = a} k p) =
    rw (written_one 1 t a) (omega (arith, brackets_next t (written 1 a), brackets_next t ts, written_fewest p))
written_fewest (bracketed {t = t} {u = u} {ts = ts} {rest = rest} {e = e} k p k') =
    omega (
      arith,
      brackets_next t ts,
      brackets_next u rest,
      ap opens k,
      ap opens k',
      written_fewest p,
      written_open e 1,
    )
written_fewest (up {l = l} {e = e} p) = omega (arith, written_less e l, written_fewest p)
written_fewest (joined {l = l} {t = t} {us = us} {a = a} {b = b} p k q) =
    let w = ap brackets (written_two (suc l) l t a b k) ∙ fitted_plain (suc l) _ in
    omega (
      arith,
      w,
      two_brackets (written (suc l) a) (written l b) t,
      brackets_next t us,
      written_fewest p,
      written_fewest q,
    )
written_fewest (chosen {t = t} {u = u} {us = us} {vs = vs} {c = c} {a = a} {b = b} p k q k' r) =
    let w = ap brackets (written_three 6 t c a b) ∙ fitted_plain 6 _ in
    omega (
      arith,
      w,
      two_brackets (written 5 c) (written 6 a ++ (made 61 ∷ written 6 b)) t,
      two_brackets (written 6 a) (written 6 b) (made 61),
      brackets_next t us,
      brackets_next u vs,
      ap opens made_colon,
      written_fewest p,
      written_fewest q,
      written_fewest r,
    )

-- counted tokens are nodes
pub counted_nodes :
    {l : ℕ} {ts rest : List Token} {e : Tree} → Parses l ts e rest →
    counted ts ≡ length (nodes e) + counted rest
unfolding nodes counted weight
counted_nodes (alone k) = rw k (omega arith)
counted_nodes (applied {t = t} {a = a} k p) = rw k (omega (arith, counted_nodes p, length-append (nodes a) (t ∷ [])))
counted_nodes (bracketed k p k') = rw k (omega (arith, rw k' at (counted_nodes p)))
counted_nodes (up p) = counted_nodes p
counted_nodes (joined {t = t} {a = a} {b = b} p k q) =
    omega (
      arith,
      rw k at (counted_nodes p),
      counted_nodes q,
      length-append (nodes a ++ nodes b) (t ∷ []),
      length-append (nodes a) (nodes b),
    )
counted_nodes (chosen {t = t} {c = c} {a = a} {b = b} p k q k' r) =
    omega (
      arith,
      rw k at (counted_nodes p),
      rw k' at (counted_nodes q),
      counted_nodes r,
      length-append ((nodes c ++ nodes a) ++ nodes b) (t ∷ []),
      length-append (nodes c ++ nodes a) (nodes b),
      length-append (nodes c) (nodes a),
    )
