-- A machine that reads tokens from the left and keeps what is begun on a stack. It is a function, so the tree that an
-- expression leads it to is the only one. Main name: one_tree.
use Rattle.std.specs.Prelude.{if◌then◌else◌}
use Prim.Native.Nat.{ℕ, suc, ◌≤◌, ◌<◌}
use native.Mathlib.Omega.{arith}
use mathlib.Core.Path.{◌≡◌, refl, sym, ap, ◌∙◌}
use mathlib.Core.List.{List, [], ◌∷◌}
use lib.Dec.{leb, lit<, lit≤}
use borrow.Author.Tests.{le-leb, lt-leb}
use Rattle.grammar.specs.declared.Token.{Token}
use Rattle.grammar.specs.Tokens.{Kind, operand, prefix, question, colon, opening, closing, other, binary}
use Rattle.grammar.specs.Tokens.{kind_of, ahead}
use Rattle.grammar.specs.Grammar.{Tree, leaf, one, two, three}
use Rattle.grammar.specs.Grammar.{Parses, alone, applied, bracketed, up, joined, chosen}
use Rattle.grammar.proofs.Table.{binary_level_lem}

-- what is begun: a prefix operator, a bracket, an operator and its left operand, c ?, c ? a :
data Frame : Type 0 where
  f_one : Token → Frame
  f_par : Frame
  f_two : Token → ℕ → Tree → Frame
  f_mid : Token → Tree → Frame
  f_last : Token → Tree → Tree → Frame

data Held : Type 0 where
  held : Tree → List Frame → Held

-- what is begun and binds at least as strongly as level m takes e
abbrev reduce : ℕ → Tree → List Frame → Held
reduce m e [] = held e []
reduce m e (f_one t ∷ S) = reduce m (one t e) S
reduce m e (f_par ∷ S) = held e (f_par ∷ S)
reduce m e (f_two t l a ∷ S) = if leb l m then reduce m (two t a e) S else held e (f_two t l a ∷ S)
reduce m e (f_mid t c ∷ S) = held e (f_mid t c ∷ S)
reduce m e (f_last t c a ∷ S) = if leb 6 m then reduce m (three t c a e) S else held e (f_last t c a ∷ S)

data State : Type 0 where
  want : List Frame → State
  have : Tree → List Frame → State

data Next : Type 0 where
  bad : Next
  to : State → Next

-- how far a token reduces
abbrev force : Kind → ℕ
force operand = 99
force prefix = 99
force question = 5
force colon = 99
force opening = 99
force closing = 99
force other = 99
force (binary l) = l

abbrev close : Held → Next
close (held e []) = bad
close (held e (f_one t ∷ S)) = bad
close (held e (f_par ∷ S)) = to (have e S)
close (held e (f_two t l a ∷ S)) = bad
close (held e (f_mid t c ∷ S)) = bad
close (held e (f_last t c a ∷ S)) = bad

abbrev part : Held → Next
part (held e []) = bad
part (held e (f_one t ∷ S)) = bad
part (held e (f_par ∷ S)) = bad
part (held e (f_two t l a ∷ S)) = bad
part (held e (f_mid t c ∷ S)) = to (want (f_last t c e ∷ S))
part (held e (f_last t c a ∷ S)) = bad

abbrev begin : Token → ℕ → Held → Next
begin t l (held e S) = to (want (f_two t l e ∷ S))

abbrev ask : Token → Held → Next
ask t (held e S) = to (want (f_mid t e ∷ S))

-- a token after an operand
abbrev act : Kind → Token → Held → Next
act operand t h = bad
act prefix t h = bad
act question t h = ask t h
act colon t h = part h
act opening t h = bad
act closing t h = close h
act other t h = bad
act (binary l) t h = begin t l h

-- a token where an operand is wanted
abbrev start : Kind → Token → List Frame → Next
start operand t S = to (have (leaf t) S)
start prefix t S = to (want (f_one t ∷ S))
start question t S = bad
start colon t S = bad
start opening t S = to (want (f_par ∷ S))
start closing t S = bad
start other t S = bad
start (binary l) t S = bad

abbrev next : State → Kind → Token → Next
next (want S) k t = start k t S
next (have e S) k t = act k t (reduce (force k) e S)

data Verdict : Type 0 where
  none : Verdict
  done : Tree → Verdict

abbrev finish : Held → Verdict
finish (held e []) = done e
finish (held e (f ∷ S)) = none

abbrev end : State → Verdict
end (want S) = none
end (have e S) = finish (reduce 99 e S)

abbrev run : State → List Token → Verdict
run σ [] = end σ
run σ (t ∷ ts) = elim (next σ (kind_of t) t) [ bad ↦ none | to τ ↦ run τ ts ]

abbrev after : Next → List Token → Verdict
after bad ts = none
after (to τ) ts = run τ ts

step : (σ : State) (t : Token) (ts : List Token) {k : Kind} → kind_of t ≡ k
    → run σ (t ∷ ts) ≡ after (next σ k t) ts
step σ t ts {k} e = go (next σ (kind_of t) t) ∙ ap (λ (x : Kind). after (next σ x t) ts) e
  where
    go : (n : Next) → (elim n as (λ x. Verdict) [ bad ↦ none | to τ ↦ run τ ts ]) ≡ after n ts
    go bad = refl
    go (to τ) = refl

-- what is held counts as it is reduced
same :
    (e e' : Tree) (S S' : List Frame) (ts : List Token) →
    reduce (force (ahead ts)) e S ≡ reduce (force (ahead ts)) e' S' →
    run (have e S) ts ≡ run (have e' S') ts
same e e' S S' [] h = ap finish h
same e e' S S' (t ∷ ts) h =
    step (have e S) t ts refl
    ∙ ap (λ (x : Held). after (act (kind_of t) t x) ts) h
    ∙ sym (step (have e' S') t ts refl)

-- how weak the innermost that is begun is
abbrev top : List Frame → ℕ
top [] = 99
top (f_one t ∷ S) = 2
top (f_par ∷ S) = 99
top (f_two t l a ∷ S) = l
top (f_mid t c ∷ S) = 99
top (f_last t c a ∷ S) = 99

stays : (m : ℕ) (e : Tree) (S : List Frame) → 1 < m → m < 6 → m < top S → reduce m e S ≡ held e S
stays m e [] g h k = refl
stays m e (f_one t ∷ S) g h k = absurd (omega arith)
stays m e (f_par ∷ S) g h k = refl
stays m e (f_two t l a ∷ S) g h k = rw (lt-leb l m k)
stays m e (f_mid t c ∷ S) g h k = refl
stays m e (f_last t c a ∷ S) g h k = rw (lt-leb 6 m h)

-- an expression leads the machine to its tree
shunt :
    {l : ℕ} {ts rest : List Token} {e : Tree} →
    Parses l ts e rest →
    l ≤ force (ahead rest) →
    (S : List Frame) →
    l < top S →
    run (want S) ts ≡ run (have e S) rest
shunt (alone {t = t} {ts = ts} k) q S h = step (want S) t ts k
shunt (applied {t = t} {ts = ts} {rest = rest} {a = a} k p) q S h =
    step (want S) t ts k ∙ shunt p q (f_one t ∷ S) (lit< tt) ∙ same a (one t a) (f_one t ∷ S) S rest refl
shunt (bracketed {t = t} {u = u} {ts = ts} {rest = rest} {e = e} k p k') q S h =
    step (want S) t ts k ∙ shunt p (rw k' (lit≤ tt)) (f_par ∷ S) (lit< tt)
    ∙ step (have e (f_par ∷ S)) u rest k'
shunt (up p) q S h = shunt p (omega arith) S (omega arith)
shunt (joined {l = l} {t = t} {us = us} {rest = rest} {a = a} {b = b} p k r) q S h =
    shunt p (rw k (omega arith)) S h
    ∙ step (have a S) t us k
    ∙ ap (λ (x : Held). after (begin t (suc l) x) us)
    (stays (suc l) a S (binary_level_lem t.code (suc l) k).0 (binary_level_lem t.code (suc l) k).1 h)
    ∙ shunt r (omega arith) (f_two t (suc l) a ∷ S) (omega arith)
    ∙ same b (two t a b) (f_two t (suc l) a ∷ S) S rest (rw (le-leb (suc l) (force (ahead rest)) q))
shunt (chosen {t = t} {u = u} {us = us} {vs = vs} {rest = rest} {c = c} {a = a} {b = b} p k r k' s) q S h =
    shunt p (rw k (lit≤ tt)) S (omega arith)
    ∙ step (have c S) t us k
    ∙ ap (λ (x : Held). after (ask t x) us) (stays 5 c S (lit< tt) (lit< tt) (omega arith))
    ∙ shunt r (rw k' (lit≤ tt)) (f_mid t c ∷ S) (lit< tt)
    ∙ step (have a (f_mid t c ∷ S)) u vs k'
    ∙ shunt s q (f_last t c a ∷ S) (lit< tt)
    ∙ same b (three t c a b) (f_last t c a ∷ S) S rest (rw (le-leb 6 (force (ahead rest)) q))

-- of a whole text
leads : {ts : List Token} {e : Tree} → Parses 6 ts e [] → run (want []) ts ≡ done e
leads p = shunt p (lit≤ tt) [] (lit< tt)

-- and to no other
pub one_tree : {ts : List Token} {e e' : Tree} → Parses 6 ts e [] → Parses 6 ts e' [] → e ≡ e'
one_tree {ts} {e} {e'} p q =
    let a : run (want []) ts ≡ done e = leads p in
    let b : run (want []) ts ≡ done e' = leads q in
    cc
