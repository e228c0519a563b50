-- A tree's text opens brackets as deep as `depth_of` says (written_depth), and no text of the tree less deep
-- (written_shallowest).
use Rattle.std.specs.Prelude.{if◌then◌else◌}
use Prim.Native.Nat.{ℕ, suc, pred, ◌+◌, ◌≤◌, max}
use native.Mathlib.Omega.{arith}
use mathlib.Core.Path.{◌≡◌, refl, ap}
use mathlib.Core.Bool.{Bool, true, false}
use mathlib.Core.List.{List, [], ◌∷◌, ◌++◌, append_assoc, append-nil}
use lib.Dec.{leb}
use Rattle.grammar.specs.declared.Token.{Token}
use Rattle.grammar.specs.Tokens.{Kind, binary, kind_of}
use Rattle.grammar.specs.Grammar.{Tree, leaf, one, two, three, Expression}
use Rattle.grammar.specs.Grammar.{Parses, alone, applied, bracketed, up, joined, chosen}
use Rattle.grammar.specs.Written.{made, level_of, fitted, written, Formed, leaf_is, one_is, two_is, three_is}
use Rattle.grammar.specs.Written.{opened, depth, deepened, depth_of}
use Rattle.grammar.proofs.Fitting.{deepened_open, deepened_more, deepened_plain, deepened_less}
use Rattle.grammar.proofs.Written.{made_colon, made_opening, made_closing, expression_formed}
use Rattle.grammar.proofs.Written.{written_leaf, written_one, written_two, written_three}

-- a token on the way
next :
    (d : ℕ) (t : Token) (ts : List Token) {k : Kind} → kind_of t ≡ k →
    depth d (t ∷ ts) ≡ max d (depth (opened k d) ts)
unfolding depth
next d t ts e = ap (λ (x : Kind). max d (depth (opened x d) ts)) e

none : (d : ℕ) → depth d [] ≡ d
unfolding depth
none d = refl

-- a tree's depth, rule by rule
depth_two :
    (l m : ℕ) (t : Token) (a b : Tree) →
    kind_of t ≡ binary (suc m) →
    depth_of l (two t a b) ≡ deepened l (suc m) (max (depth_of (suc m) a) (depth_of m b))
unfolding depth_of
depth_two l m t a b k =
    ap (λ (x : Kind). deepened l (level_of x) (max (depth_of (level_of x) a) (depth_of (pred (level_of x)) b))) k

depth_three :
    (l : ℕ) (t : Token) (c a b : Tree) →
    depth_of l (three t c a b) ≡ deepened l 6 (max (depth_of 5 c) (max (depth_of 6 a) (depth_of 6 b)))
unfolding depth_of
depth_three l t c a b = refl

depth_one : (l : ℕ) (t : Token) (a : Tree) → depth_of l (one t a) ≡ depth_of 1 a
unfolding depth_of
depth_one l t a = refl

depth_leaf : (l : ℕ) (t : Token) → depth_of l (leaf t) ≡ 0
unfolding depth_of
depth_leaf l t = refl

-- what opens n deep and closes again
abbrev Opens : ℕ → List Token → Type 0
Opens n ts = (d : ℕ) (rest : List Token) → depth d (ts ++ rest) ≡ max (d + n) (depth d rest)

fitted_opens : (l m n : ℕ) (ts : List Token) → Opens n ts → Opens (deepened l m n) (fitted l m ts)
unfolding fitted deepened
fitted_opens l m n ts h d rest = go (leb m l)
  where
    go :
        (b : Bool) →
        depth d ((if b then ts else made 62 ∷ (ts ++ (made 63 ∷ []))) ++ rest) ≡
        max (d + (if b then n else suc n)) (depth d rest)
    go true = h d rest
    go false =
        rw (append_assoc ts (made 63 ∷ []) rest)
        (omega (
          arith,
          next d (made 62) (ts ++ (made 63 ∷ rest)) made_opening,
          h (suc d) (made 63 ∷ rest),
          next (suc d) (made 63) rest made_closing,
        ))

leaf_opens : (t : Token) {k : Kind} → kind_of t ≡ k → ((d : ℕ) → opened k d ≡ d) → Opens 0 (t ∷ [])
leaf_opens t k same d rest = omega (arith, next d t rest k, ap (λ (x : ℕ). depth x rest) (same d))

-- one after the other, with a token between
seam_opens :
    (m n : ℕ) (ts us : List Token) (t : Token) {k : Kind} →
    kind_of t ≡ k →
    ((d : ℕ) → opened k d ≡ d) →
    Opens m ts →
    Opens n us →
    Opens (max m n) (ts ++ (t ∷ us))
seam_opens m n ts us t k same h i d rest =
    rw (append_assoc ts (t ∷ us) rest)
    (omega (
      arith,
      h d (t ∷ (us ++ rest)),
      next d t (us ++ rest) k,
      ap (λ (x : ℕ). depth x (us ++ rest)) (same d),
      i d rest,
    ))

written_opens : {e : Tree} → Formed e → (l : ℕ) → Opens (depth_of l e) (written l e)
written_opens (leaf_is {t = t} k) l d rest =
    rw (written_leaf l t, depth_leaf l t) (leaf_opens t k (λ d. refl) d rest)
written_opens (one_is {t = t} {a = a} k f) l d rest =
    rw (written_one l t a, depth_one l t a)
    (omega (arith, next d t (written 1 a ++ rest) k, written_opens f 1 d rest))
written_opens (two_is {l = m} {t = t} {a = a} {b = b} k f g) l d rest =
    rw (written_two l m t a b k, depth_two l m t a b k)
    (fitted_opens l (suc m) (max (depth_of (suc m) a) (depth_of m b)) (written (suc m) a ++ (t ∷ written m b))
    (seam_opens (depth_of (suc m) a) (depth_of m b) (written (suc m) a) (written m b) t k (λ d. refl)
    (written_opens f (suc m)) (written_opens g m)) d rest)
written_opens (three_is {t = t} {c = c} {a = a} {b = b} k f g h) l d rest =
    let ts = written 6 a ++ (made 61 ∷ written 6 b) in
    let n = max (depth_of 6 a) (depth_of 6 b) in
    rw (written_three l t c a b, depth_three l t c a b)
    (fitted_opens l 6 (max (depth_of 5 c) n) (written 5 c ++ (t ∷ ts))
    (seam_opens (depth_of 5 c) n (written 5 c) ts t k (λ d. refl) (written_opens f 5)
    (seam_opens (depth_of 6 a) (depth_of 6 b) (written 6 a) (written 6 b) (made 61) made_colon (λ d. refl)
    (written_opens g 6) (written_opens h 6))) d rest)

pub written_depth : {e : Tree} → Formed e → depth 0 (written 6 e) ≡ depth_of 6 e
written_depth {e} f =
    let w : depth 0 (written 6 e ++ []) ≡ depth 0 (written 6 e) = rw append-nil in
    omega (arith, written_opens f 6 0 [], none 0)

-- a weaker level asks for no deeper brackets, the strongest for one pair more than the weakest
depth_less : (e : Tree) (l : ℕ) → depth_of (suc l) e ≤ depth_of l e
unfolding depth_of
depth_less (leaf t) l = omega arith
depth_less (one t a) l = omega arith
depth_less (two t a b) l = deepened_less l (level_of (kind_of t)) _
depth_less (three t c a b) l = deepened_less l 6 _

depth_open : (e : Tree) (l : ℕ) → depth_of l e ≤ suc (depth_of 6 e)
unfolding depth_of
depth_open (leaf t) l = omega arith
depth_open (one t a) l = omega arith
depth_open (two t a b) l =
    let m = level_of (kind_of t) in
    let n = max (depth_of m a) (depth_of (pred m) b) in
    omega (arith, deepened_open l m n, deepened_more 6 m n)
depth_open (three t c a b) l =
    let n = max (depth_of 5 c) (max (depth_of 6 a) (depth_of 6 b)) in
    omega (arith, deepened_open l 6 n, deepened_more 6 6 n)

-- behind a token that opens or closes nothing
behind :
    (d : ℕ) (t : Token) (ts : List Token) {k : Kind} →
    kind_of t ≡ k →
    ((d : ℕ) → opened k d ≡ d) →
    depth d ts ≤ depth d (t ∷ ts)
behind d t ts k same = omega (arith, next d t ts k, ap (λ (x : ℕ). depth x ts) (same d))

-- a text opens at least as deep as its tree asks for
parses_depth :
    {l : ℕ} {ts rest : List Token} {e : Tree} →
    Parses l ts e rest →
    (d : ℕ) →
    (d + depth_of l e ≤ depth d ts) × (depth d rest ≤ depth d ts)
parses_depth (alone {t = t} {ts = ts} k) d = rw (depth_leaf 1 t) (omega (arith, next d t ts k))
parses_depth (applied {t = t} {ts = ts} {a = a} k p) d =
    rw (depth_one 1 t a) (omega (arith, behind d t ts k (λ d. refl), parses_depth p d))
parses_depth (bracketed {t = t} {u = u} {ts = ts} {rest = rest} {e = e} k p k') d =
    omega (arith, next d t ts k, parses_depth p (suc d), next (suc d) u rest k', depth_open e 1)
parses_depth (up {l = l} {e = e} p) d = omega (arith, depth_less e l, parses_depth p d)
parses_depth (joined {l = l} {t = t} {us = us} {a = a} {b = b} p k q) d =
    let n = max (depth_of (suc l) a) (depth_of l b) in
    omega (
      arith,
      depth_two (suc l) l t a b k,
      deepened_plain (suc l) (suc l) n (omega arith),
      parses_depth p d,
      behind d t us k (λ d. refl),
      parses_depth q d,
    )
parses_depth (chosen {t = t} {u = u} {us = us} {vs = vs} {c = c} {a = a} {b = b} p k q k' r) d =
    let n = max (depth_of 5 c) (max (depth_of 6 a) (depth_of 6 b)) in
    omega (
      arith,
      depth_three 6 t c a b,
      deepened_plain 6 6 n (omega arith),
      parses_depth p d,
      behind d t us k (λ d. refl),
      parses_depth q d,
      behind d u vs k' (λ d. refl),
      parses_depth r d,
    )

pub written_shallowest : {ts : List Token} {e : Tree} → Expression ts e → depth 0 (written 6 e) ≤ depth 0 ts
written_shallowest p = omega (arith, written_depth (expression_formed p), parses_depth p 0)
