-- A machine that reads tokens from the left and keeps the open brackets and question marks: it tells whether a token
-- can go on, from what stands before it alone. Main names: stuck_within, stuck_after, stuck_end.
use Prim.Native.Nat.{ℕ, suc, ◌≤◌, ◌<◌}
use native.Mathlib.Omega.{arith}
use mathlib.Core.Path.{◌≡◌, refl, sym, ap, ◌∙◌}
use mathlib.Core.Bool.{Bool, true, false}
use mathlib.Core.List.{List, [], ◌∷◌, ◌++◌, append_assoc}
use lib.ListN.{length, length-append}
use Rattle.grammar.specs.declared.Token.{Token}
use Rattle.grammar.specs.Tokens.{Kind, operand, prefix, question, colon, opening, closing, other, binary}
use Rattle.grammar.specs.Tokens.{kind_of, ahead}
use Rattle.grammar.specs.Grammar.{Tree, Parses, alone, applied, bracketed, up, joined}
use Rattle.grammar.specs.Grammar.{chosen, Expression, Begins}
use Rattle.grammar.specs.Stops.{rank, starts, Stops, here, in_operand, in_bracket, unclosed, s_up, in_right}
use Rattle.grammar.specs.Stops.{in_middle, no_colon, in_last}
use Rattle.grammar.proofs.Table.{binary_level_lem}

-- an operand is wanted, or one was read; the open brackets (true) and question marks (false)
data State : Type 0 where
  want have : List Bool → State

data Next : Type 0 where
  bad : Next
  to : State → Next

abbrev next : State → Kind → Next
next (want S) operand = to (have S)
next (want S) prefix = to (want S)
next (want S) question = bad
next (want S) colon = bad
next (want S) opening = to (want (true ∷ S))
next (want S) closing = bad
next (want S) other = bad
next (want S) (binary l) = bad
next (have S) operand = bad
next (have S) prefix = bad
next (have S) question = to (want (false ∷ S))
next (have []) colon = bad
next (have (true ∷ S)) colon = bad
next (have (false ∷ S)) colon = to (want S)
next (have S) opening = bad
next (have []) closing = bad
next (have (true ∷ S)) closing = to (have S)
next (have (false ∷ S)) closing = bad
next (have S) other = bad
next (have S) (binary l) = to (want S)

data Verdict : Type 0 where
  accept : Verdict
  no_at : List Token → Verdict

abbrev end : State → Verdict
end (want S) = no_at []
end (have []) = accept
end (have (b ∷ S)) = no_at []

abbrev run : State → List Token → Verdict
run σ [] = end σ
run σ (t ∷ ts) = elim (next σ (kind_of t)) [ bad ↦ no_at (t ∷ ts) | to τ ↦ run τ ts ]

abbrev after : Next → Token → List Token → Verdict
after bad t ts = no_at (t ∷ ts)
after (to τ) t ts = run τ ts

step : (σ : State) (t : Token) (ts : List Token) {k : Kind} → kind_of t ≡ k
    → run σ (t ∷ ts) ≡ after (next σ k) t ts
step σ t ts e = go (next σ (kind_of t)) ∙ ap (λ (x : Kind). after (next σ x) t ts) e
  where
    go : (n : Next) → (elim n as (λ x. Verdict) [ bad ↦ no_at (t ∷ ts) | to τ ↦ run τ ts ]) ≡ after n t ts
    go bad = refl
    go (to τ) = refl

-- an expression takes it from want to have
parses_run :
    {l : ℕ} {ts rest : List Token} {e : Tree} →
    Parses l ts e rest →
    (S : List Bool) →
    run (want S) ts ≡ run (have S) rest
parses_run (alone {t = t} {ts = ts} k) S = step (want S) t ts k
parses_run (applied {t = t} {ts = ts} k p) S = step (want S) t ts k ∙ parses_run p S
parses_run (bracketed {t = t} {u = u} {ts = ts} {rest = rest} k p k') S =
    step (want S) t ts k ∙ parses_run p (true ∷ S) ∙ step (have (true ∷ S)) u rest k'
parses_run (up p) S = parses_run p S
parses_run (joined {t = t} {us = us} p k q) S = parses_run p S ∙ step (have S) t us k ∙ parses_run q S
parses_run (chosen {t = t} {u = u} {us = us} {vs = vs} p k q k' r) S =
    parses_run p S
    ∙ step (have S) t us k
    ∙ parses_run q (false ∷ S)
    ∙ step (have (false ∷ S)) u vs k'
    ∙ parses_run r S

-- where no operand begins, the machine that wants one stops
want_bad : (S : List Bool) (k : Kind) → starts k ≡ false → next (want S) k ≡ bad
want_bad S operand e = let z : ◌≡◌ {A = ℕ} 0 1 = cc in absurd (omega arith)
want_bad S prefix e = let z : ◌≡◌ {A = ℕ} 0 1 = cc in absurd (omega arith)
want_bad S question e = refl
want_bad S colon e = refl
want_bad S opening e = let z : ◌≡◌ {A = ℕ} 0 1 = cc in absurd (omega arith)
want_bad S closing e = refl
want_bad S other e = refl
want_bad S (binary l) e = refl

-- after an operand, what is no operator and does not close the innermost stops it
abbrev Closes : List Bool → Kind → Type 0
Closes [] k = ⊥
Closes (true ∷ S) k = k ≡ closing
Closes (false ∷ S) k = k ≡ colon

have_bad :
    (S : List Bool) (k : Kind) →
    6 < rank k →
    ((m : ℕ) → k ≡ binary m → m < 6) →
    ¬ (Closes S k) →
    next (have S) k ≡ bad
have_bad S operand h b n = refl
have_bad S prefix h b n = refl
have_bad S question h b n = absurd (omega arith)
have_bad [] colon h b n = refl
have_bad (true ∷ S) colon h b n = refl
have_bad (false ∷ S) colon h b n = absurd (n refl)
have_bad S opening h b n = refl
have_bad [] closing h b n = refl
have_bad (true ∷ S) closing h b n = absurd (n refl)
have_bad (false ∷ S) closing h b n = refl
have_bad S other h b n = refl
have_bad S (binary l) h b n = let z = b l refl in absurd (omega arith)

bad_run : (σ : State) (t : Token) (ts : List Token) → next σ (kind_of t) ≡ bad
    → run σ (t ∷ ts) ≡ no_at (t ∷ ts)
bad_run σ t ts e = step σ t ts refl ∙ ap (λ (n : Next). after n t ts) e

want_stop : (S : List Bool) (ts : List Token) → starts (ahead ts) ≡ false → run (want S) ts ≡ no_at ts
want_stop S [] e = refl
want_stop S (t ∷ ts) e = bad_run (want S) t ts (want_bad S (kind_of t) e)

-- behind a token, what goes on there
have_next : (S : List Bool) (t : Token) (ts : List Token) → 6 < rank (kind_of t) → ¬ (Closes S (kind_of t)) →
    run (have S) (t ∷ ts) ≡ no_at (t ∷ ts)
have_next S t ts h n =
    bad_run (have S) t ts (have_bad S (kind_of t) h (λ m e. (binary_level_lem t.code m e).1) n)

have_stop : (b : Bool) (S : List Bool) (ts : List Token) → 6 < rank (ahead ts) →
    ¬ (Closes (b ∷ S) (ahead ts)) →
    run (have (b ∷ S)) ts ≡ no_at ts
have_stop b S [] h n = refl
have_stop b S (t ∷ ts) h n = have_next (b ∷ S) t ts h n

stops_run : {l : ℕ} {ts rest : List Token} → Stops l ts rest → (S : List Bool) → run (want S) ts ≡ no_at rest
stops_run (here {ts = ts} e) S = want_stop S ts e
stops_run (in_operand {t = t} {ts = ts} k s) S = step (want S) t ts k ∙ stops_run s S
stops_run (in_bracket {t = t} {ts = ts} k s) S = step (want S) t ts k ∙ stops_run s (true ∷ S)
stops_run (unclosed {t = t} {ts = ts} {rest = rest} k p h n) S =
    step (want S) t ts k ∙ parses_run p (true ∷ S) ∙ have_stop true S rest h n
stops_run (s_up s) S = stops_run s S
stops_run (in_right {t = t} {us = us} p k s) S = parses_run p S ∙ step (have S) t us k ∙ stops_run s S
stops_run (in_middle {t = t} {us = us} p k s) S = parses_run p S ∙ step (have S) t us k ∙ stops_run s (false ∷ S)
stops_run (no_colon {t = t} {us = us} {rest = rest} p k q h n) S =
    parses_run p S ∙ step (have S) t us k ∙ parses_run q (false ∷ S) ∙ have_stop false S rest h n
stops_run (in_last {t = t} {u = u} {us = us} {vs = vs} p k q k' s) S =
    parses_run p S
    ∙ step (have S) t us k
    ∙ parses_run q (false ∷ S)
    ∙ step (have (false ∷ S)) u vs k'
    ∙ stops_run s S

-- the rest at which it stops is a part of what it read
no_length : (σ : State) (ts rest : List Token) → run σ ts ≡ no_at rest → length rest ≤ length ts
no_length σ [] rest e = go σ e
  where
    go : (τ : State) → end τ ≡ no_at rest → length rest ≤ 0
    go (want S) f = let z : [] ≡ rest = cc in rw (← z) (omega arith)
    go (have []) f = let z : ◌≡◌ {A = ℕ} 0 1 = cc in absurd (omega arith)
    go (have (b ∷ S)) f = let z : [] ≡ rest = cc in rw (← z) (omega arith)
no_length σ (t ∷ ts) rest e =
    go (next σ (kind_of t)) (λ τ. no_length τ ts rest) (sym (step σ t ts refl) ∙ e)
  where
    go :
        (n : Next) →
        ((τ : State) → run τ ts ≡ no_at rest → length rest ≤ length ts) →
        after n t ts ≡ no_at rest →
        length rest ≤ suc (length ts)
    go bad ih f = let z : t ∷ ts ≡ rest = cc in rw (← z) (omega arith)
    go (to τ) ih f = omega (arith, ih τ f)

-- what comes behind a token that stops it does not matter
local :
    (σ : State) (pre r s : List Token) (t : Token) →
    run σ (pre ++ (t ∷ r)) ≡ no_at (t ∷ r) →
    run σ (pre ++ (t ∷ s)) ≡ no_at (t ∷ s)
local σ [] r s t e = step σ t s refl ∙ go (next σ (kind_of t)) (sym (step σ t r refl) ∙ e)
  where
    go : (n : Next) → after n t r ≡ no_at (t ∷ r) → after n t s ≡ no_at (t ∷ s)
    go bad f = refl
    go (to τ) f = absurd (omega (arith, no_length τ r (t ∷ r) f))
local σ (p ∷ pre) r s t e =
    step σ p (pre ++ (t ∷ s)) refl
    ∙ go (next σ (kind_of p)) (λ τ. local τ pre r s t) (sym (step σ p (pre ++ (t ∷ r)) refl) ∙ e)
  where
    too_long : p ∷ (pre ++ (t ∷ r)) ≡ t ∷ r → ⊥
    too_long f = omega (arith, simp length-append at (ap length f))

    go :
        (n : Next) →
        ((τ : State) → run τ (pre ++ (t ∷ r)) ≡ no_at (t ∷ r)
        → run τ (pre ++ (t ∷ s)) ≡ no_at (t ∷ s)) →
        after n p (pre ++ (t ∷ r)) ≡ no_at (t ∷ r) →
        after n p (pre ++ (t ∷ s)) ≡ no_at (t ∷ s)
    go bad ih f = absurd (too_long (cc))
    go (to τ) ih f = ih τ f

-- so with that token nothing begins
never_begins :
    (pre r : List Token) (t : Token) → run (want []) (pre ++ (t ∷ r)) ≡ no_at (t ∷ r) →
    Begins (pre ++ (t ∷ [])) → ⊥
never_begins pre r t h b =
    let a : accept ≡ no_at (t ∷ b.more) =
    sym (parses_run (rw append_assoc at b.whole) []) ∙ local (want []) pre r b.more t h
    in
    let z : ◌≡◌ {A = ℕ} 0 1 = cc in omega arith

-- a stop within an expression, and a token after a whole one
pub stuck_within :
    (pre r : List Token) (t : Token) → Stops 6 (pre ++ (t ∷ r)) (t ∷ r) → Begins (pre ++ (t ∷ [])) → ⊥
stuck_within pre r t s = never_begins pre r t (stops_run s [])

pub stuck_after :
    (pre r : List Token) (t : Token) {e : Tree} →
    Parses 6 (pre ++ (t ∷ r)) e (t ∷ r) →
    6 < rank (kind_of t) →
    Begins (pre ++ (t ∷ [])) →
    ⊥
stuck_after pre r t p h = never_begins pre r t (parses_run p [] ∙ have_next [] t r h (λ z. z))

-- at the end, what stopped is no expression
pub stuck_end : {ts : List Token} {e : Tree} → Stops 6 ts [] → Expression ts e → ⊥
stuck_end s p =
    let a : accept ≡ no_at [] = sym (parses_run p []) ∙ stops_run s [] in
    let z : ◌≡◌ {A = ℕ} 0 1 = cc in omega arith
