-- A tree's text parses back to the tree, and texts give no other trees. Main names: written_parses, written_expression,
-- expression_formed.
use Rattle.std.specs.Prelude.{if◌then◌else◌}
use Prim.Native.Nat.{ℕ, zero, suc, pred, ◌≤◌}
use native.Mathlib.Omega.{arith}
use mathlib.Core.Path.{◌≡◌, refl, ap, subst}
use mathlib.Core.Bool.{Bool, true, false}
use mathlib.Core.List.{List, [], ◌∷◌, ◌++◌, append_assoc, append-nil}
use lib.Dec.{leb, lit≤}
use borrow.Author.Tests.{leb-true, leb-false}
use Rattle.grammar.specs.declared.Token.{Token}
use Rattle.grammar.specs.Tokens.{Kind, question, colon, opening, closing, binary}
use Rattle.grammar.specs.Tokens.{table, kind_in, kind, kind_of}
use Rattle.grammar.specs.Grammar.{Tree, leaf, one, two, three, Expression}
use Rattle.grammar.specs.Grammar.{Parses, alone, applied, bracketed, up, joined, chosen}
use Rattle.grammar.specs.Written.{made, level_of, fitted, written, Formed, leaf_is, one_is, two_is, three_is}
use Rattle.grammar.proofs.Table.{binary_level_lem}

-- the tokens put in
pub made_colon : kind_of (made 61) ≡ colon
unfolding kind kind_in table
made_colon = refl

pub made_opening : kind_of (made 62) ≡ opening
unfolding kind kind_in table
made_opening = refl

pub made_closing : kind_of (made 63) ≡ closing
unfolding kind kind_in table
made_closing = refl

-- a weaker level holds the stronger ones
lift : {ts rest : List Token} {e : Tree} (m l : ℕ) → m ≤ l → Parses m ts e rest → Parses l ts e rest
lift {ts} {rest} {e} m zero h p = subst (λ (n : ℕ). Parses n ts e rest) (omega arith) p
lift {ts} {rest} {e} m (suc l) h p = go (leb m l) refl (λ k. up (lift m l k p))
  where
    go : (b : Bool) → leb m l ≡ b → (m ≤ l → Parses (suc l) ts e rest) → Parses (suc l) ts e rest
    go true q ih = ih (leb-true m l q)
    go false q ih = let k = leb-false m l q in subst (λ (n : ℕ). Parses n ts e rest) (omega arith) p

-- what is of level m, asked for at level l
fitted_parses :
    {e : Tree} (l m : ℕ) (ts rest : List Token) →
    1 ≤ l →
    m ≤ 6 →
    ((r : List Token) → Parses m (ts ++ r) e r) →
    Parses l (fitted l m ts ++ rest) e rest
unfolding fitted
fitted_parses {e} l m ts rest h k p = go (leb m l) refl
  where
    go :
        (b : Bool) →
        leb m l ≡ b →
        Parses l ((if b then ts else made 62 ∷ (ts ++ (made 63 ∷ []))) ++ rest) e rest
    go true q = lift m l (leb-true m l q) (p rest)
    go false q =
        lift 1 l h
        (bracketed {u = made 63} made_opening
        (lift m 6 k (rw (append_assoc ts (made 63 ∷ []) rest) (p (made 63 ∷ rest)))) made_closing)

-- the text of an operator between its operands, and of a choice
pub written_two :
    (l m : ℕ) (t : Token) (a b : Tree) →
    kind_of t ≡ binary (suc m) →
    written l (two t a b) ≡ fitted l (suc m) (written (suc m) a ++ (t ∷ written m b))
unfolding written
written_two l m t a b k =
    ap (λ (x : Kind). fitted l (level_of x) (written (level_of x) a ++ (t ∷ written (pred (level_of x)) b))) k

pub written_three :
    (l : ℕ) (t : Token) (c a b : Tree) →
    written l (three t c a b) ≡ fitted l 6 (written 5 c ++ (t ∷ (written 6 a ++ (made 61 ∷ written 6 b))))
unfolding written
written_three l t c a b = refl

pub written_one : (l : ℕ) (t : Token) (a : Tree) → written l (one t a) ≡ t ∷ written 1 a
unfolding written
written_one l t a = refl

pub written_leaf : (l : ℕ) (t : Token) → written l (leaf t) ≡ t ∷ []
unfolding written
written_leaf l t = refl

two_parses :
    {m : ℕ} {t : Token} {a b : Tree} (ts us rest : List Token) →
    kind_of t ≡ binary (suc m) →
    ((r : List Token) → Parses (suc m) (ts ++ r) a r) →
    ((r : List Token) → Parses m (us ++ r) b r) →
    Parses (suc m) ((ts ++ (t ∷ us)) ++ rest) (two t a b) rest
two_parses {t = t} ts us rest k p q =
    rw (append_assoc ts (t ∷ us) rest) (joined (p (t ∷ (us ++ rest))) k (q rest))

three_parses :
    {t : Token} {c a b : Tree} (ts us vs rest : List Token) →
    kind_of t ≡ question →
    ((r : List Token) → Parses 5 (ts ++ r) c r) →
    ((r : List Token) → Parses 6 (us ++ r) a r) →
    ((r : List Token) → Parses 6 (vs ++ r) b r) →
    Parses 6 ((ts ++ (t ∷ (us ++ (made 61 ∷ vs)))) ++ rest) (three t c a b) rest
three_parses {t = t} ts us vs rest k p q r =
    rw (append_assoc ts (t ∷ (us ++ (made 61 ∷ vs))) rest, append_assoc us (made 61 ∷ vs) rest)
    (chosen (p (t ∷ (us ++ (made 61 ∷ (vs ++ rest))))) k (q (made 61 ∷ (vs ++ rest))) made_colon (r rest))

pub written_parses :
    {e : Tree} → Formed e → (l : ℕ) → 1 ≤ l → (rest : List Token) → Parses l (written l e ++ rest) e rest
written_parses (leaf_is {t = t} k) l h rest = rw (written_leaf l t) (lift 1 l h (alone k))
written_parses (one_is {t = t} {a = a} k f) l h rest =
    rw (written_one l t a) (lift 1 l h (applied k (written_parses f 1 (lit≤ tt) rest)))
written_parses (two_is {l = m} {t = t} {a = a} {b = b} k f g) l h rest =
    let w = binary_level_lem t.code (suc m) k in
    rw (written_two l m t a b k)
    (fitted_parses l (suc m) _ rest h (omega arith)
    (λ r.
    two_parses (written (suc m) a) (written m b) r k (written_parses f (suc m) (omega arith))
    (written_parses g m (omega arith))))
written_parses (three_is {t = t} {c = c} {a = a} {b = b} k f g i) l h rest =
    rw (written_three l t c a b)
    (fitted_parses l 6 _ rest h (lit≤ tt)
    (λ r.
    three_parses (written 5 c) (written 6 a) (written 6 b) r k (written_parses f 5 (lit≤ tt))
    (written_parses g 6 (lit≤ tt)) (written_parses i 6 (lit≤ tt))))

-- read after write
pub written_expression : {e : Tree} → Formed e → Expression (written 6 e) e
written_expression {e} f = rw append-nil at (written_parses f 6 (lit≤ tt) [])

-- a text gives no other trees
pub expression_formed : {l : ℕ} {ts rest : List Token} {e : Tree} → Parses l ts e rest → Formed e
expression_formed (alone k) = leaf_is k
expression_formed (applied k p) = one_is k (expression_formed p)
expression_formed (bracketed k p k') = expression_formed p
expression_formed (up p) = expression_formed p
expression_formed (joined p k q) = two_is k (expression_formed p) (expression_formed q)
expression_formed (chosen p k q k' r) =
    three_is k (expression_formed p) (expression_formed q) (expression_formed r)
