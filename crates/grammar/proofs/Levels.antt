-- What the functions of the levels do, on views: a law for each way through them. Main names: reads_operand,
-- reads_prefix, reads_bracket, stops_here; up_level, joins, level_done; chooses, no_choice.
use Rattle.std.specs.Prelude.{if◌then◌else◌}
use Prim.Native.Nat.{ℕ, suc, ◌<◌}
use native.Mathlib.Omega.{arith}
use mathlib.Core.Path.{◌≡◌, refl, ap}
use mathlib.Core.Bool.{Bool, true, false}
use mathlib.Core.List.{List, [], ◌∷◌, ◌++◌, append_assoc}
use lib.Dec.{eqb}
use borrow.Author.Tests.{eqb-true, eqb-false}
use Rattle.grammar.specs.declared.Token.{Token}
use Rattle.grammar.specs.Tokens.{operand, prefix, question, colon, opening, binary, kind_of, ahead}
use Rattle.grammar.specs.Grammar.{Tree, nodes, Parses, alone, applied, bracketed, up, joined, chosen}
use Rattle.grammar.specs.Stops.{rank, starts, here, in_operand, in_bracket, unclosed, s_up, in_right}
use Rattle.grammar.specs.Stops.{in_middle, no_colon, in_last}
use Rattle.grammar.specs.Views.{View, going, stopped, ahead_v, head_v, tail, past, push, halt, eaten}
use Rattle.grammar.specs.Views.{Does, read, stop, still}
use Rattle.grammar.proofs.Ranks.{rank_ahead, rank_binary, rank_above}

-- what was written, grown by one node and by one tree
snoc : (x y p : List Token) (t : Token) → x ≡ y ++ p → x ++ (t ∷ []) ≡ y ++ (p ++ (t ∷ []))
snoc x y p t e = simp (e, append_assoc)

join : (x y z p q : List Token) → x ≡ y ++ q → y ≡ z ++ p → x ≡ z ++ (p ++ q)
join x y z p q e f = simp (e, f, append_assoc)

-- level 1
pub reads_operand : (v : View) → ahead_v v ≡ operand → Does 1 1 v (push (head_v v) (past v))
unfolding nodes
reads_operand (going [] out) e = let z : ◌≡◌ {A = ℕ} 0 1 = cc in absurd (omega arith)
reads_operand (going (t ∷ ts) out) e = read (alone e) (rank_above ts) refl
reads_operand (stopped ts) e = let z : ◌≡◌ {A = ℕ} 0 1 = cc in absurd (omega arith)

prefix_at :
    {w : View} (t : Token) (ts out : List Token) →
    kind_of t ≡ prefix →
    Does 1 1 (going ts out) w →
    Does 1 1 (going (t ∷ ts) out) (push t w)
unfolding nodes
prefix_at t ts out k (read {out' = x} {e = a} p q e) = read (applied k p) q (snoc x out (nodes a) t e)
prefix_at t ts out k (stop s) = stop (in_operand k s)

pub reads_prefix : {w : View} (v : View) → ahead_v v ≡ prefix → Does 1 1 (past v) w
    → Does 1 1 v (push (head_v v) w)
reads_prefix (going [] out) e d = let z : ◌≡◌ {A = ℕ} 0 1 = cc in absurd (omega arith)
reads_prefix (going (t ∷ ts) out) e d = prefix_at t ts out e d
reads_prefix (stopped ts) e d = let z : ◌≡◌ {A = ℕ} 0 1 = cc in absurd (omega arith)

bracket_eat :
    (b : Bool) (t : Token) (ts out rest out' : List Token) {e : Tree} →
    kind_of t ≡ opening →
    eqb (rank (ahead rest)) 63 ≡ b →
    Parses 6 ts e rest →
    6 < rank (ahead rest) →
    out' ≡ out ++ nodes e →
    Does 1 1 (going (t ∷ ts) out) (if b then going (tail rest) out' else stopped rest)
bracket_eat true t ts out [] out' k h p q o = absurd (omega (arith, eqb-true 99 63 h))
bracket_eat true t ts out (u ∷ rest) out' k h p q o =
    read (bracketed k p (rank_ahead (u ∷ rest) (eqb-true _ 63 h))) (rank_above rest) o
bracket_eat false t ts out rest out' k h p q o =
    stop (unclosed k p q (λ e. eqb-false _ 63 h (ap rank e)))

bracket_at :
    {w : View} (t : Token) (ts out : List Token) →
    kind_of t ≡ opening →
    Does 6 6 (going ts out) w →
    Does 1 1 (going (t ∷ ts) out) (eaten 63 w)
bracket_at t ts out k (read {out' = out'} {rest = rest} p q e) =
    bracket_eat (eqb (rank (ahead rest)) 63) t ts out rest out' k refl p q e
bracket_at t ts out k (stop s) = stop (in_bracket k s)

pub reads_bracket : {w : View} (v : View) → ahead_v v ≡ opening → Does 6 6 (past v) w → Does 1 1 v (eaten 63 w)
reads_bracket (going [] out) e d = let z : ◌≡◌ {A = ℕ} 0 1 = cc in absurd (omega arith)
reads_bracket (going (t ∷ ts) out) e d = bracket_at t ts out e d
reads_bracket (stopped ts) e d = let z : ◌≡◌ {A = ℕ} 0 1 = cc in absurd (omega arith)

pub stops_here : (v : View) → starts (ahead_v v) ≡ false → Does 1 1 v (halt v)
stops_here (going ts out) e = stop (here e)
stops_here (stopped ts) e = still

-- levels 2 to 5, from the left
pub up_level : {l q : ℕ} {v w : View} → Does l q v w → Does (suc l) q v w
up_level (read p q e) = read (up p) q e
up_level (stop s) = stop (s_up s)
up_level still = still

joins_at :
    {l : ℕ} {t : Token} {ts us out out' : List Token} {a : Tree} {x : View} →
    Parses (suc l) ts a (t ∷ us) →
    kind_of t ≡ binary (suc l) →
    out' ≡ out ++ nodes a →
    Does l l (going us out') x →
    Does (suc l) l (going ts out) (push t x)
unfolding nodes
joins_at {t = t} {out = out} {a = a} p k e (read {out = y} {out' = x} {e = b} p₂ q₂ e₂) =
    read (joined p k p₂) q₂ (snoc x out (nodes a ++ nodes b) t (join x y out (nodes a) (nodes b) e₂ e))
joins_at p k e (stop s) = stop (in_right p k s)

pub joins :
    {l : ℕ} {v w x : View} →
    suc l < 6 →
    Does (suc l) l v w →
    rank (ahead_v w) ≡ suc l →
    Does l l (past w) x →
    Does (suc l) l v (push (head_v w) x)
joins {l} h (read {rest = []} p q e) f d = absurd (omega (arith, f))
joins {l} h (read {rest = t ∷ us} p q e) f d = joins_at p (rank_binary (kind_of t) (suc l) f h) e d
joins {l} h (stop s) f d = absurd (omega (arith, f))
joins {l} h still f d = absurd (omega (arith, f))

pub level_done : {l : ℕ} {v w : View} → Does (suc l) l v w → ¬ (rank (ahead_v w) ≡ suc l)
    → Does (suc l) (suc l) v w
level_done (read p q e) n = read p (omega arith) e
level_done (stop s) n = stop s
level_done still n = still

-- level 6, from the right
pub no_choice : {v w : View} → Does 5 5 v w → ¬ (rank (ahead_v w) ≡ 6) → Does 6 6 v w
no_choice d n = level_done (up_level d) n

last_at :
    {t u : Token} {ts us vs out out₁ : List Token} {c a : Tree} {w : View} →
    Parses 5 ts c (t ∷ us) →
    kind_of t ≡ question →
    Parses 6 us a (u ∷ vs) →
    kind_of u ≡ colon →
    out₁ ≡ out ++ (nodes c ++ nodes a) →
    Does 6 6 (going vs out₁) w →
    Does 6 6 (going ts out) (push t w)
unfolding nodes
last_at {t = t} {out = out} {c = c} {a = a} p₁ k p₂ k' o (read {out = y} {out' = x} {e = b} p₃ q₃ e₃) =
    read (chosen p₁ k p₂ k' p₃) q₃
    (snoc x out ((nodes c ++ nodes a) ++ nodes b) t (join x y out (nodes c ++ nodes a) (nodes b) e₃ o))
last_at p₁ k p₂ k' o (stop s) = stop (in_last p₁ k p₂ k' s)

colon_eat :
    (b : Bool) {t : Token} {ts us rest out out₁ : List Token} {c a : Tree} {w : View} →
    eqb (rank (ahead rest)) 61 ≡ b →
    Parses 5 ts c (t ∷ us) →
    kind_of t ≡ question →
    Parses 6 us a rest →
    6 < rank (ahead rest) →
    out₁ ≡ out ++ (nodes c ++ nodes a) →
    Does 6 6 (if b then going (tail rest) out₁ else stopped rest) w →
    Does 6 6 (going ts out) (push t w)
colon_eat true {rest = []} h p₁ k p₂ q o d = absurd (omega (arith, eqb-true 99 61 h))
colon_eat true {rest = u ∷ vs} h p₁ k p₂ q o d =
    last_at p₁ k p₂ (rank_ahead (u ∷ vs) (eqb-true _ 61 h)) o d
colon_eat false h p₁ k p₂ q o still = stop (no_colon p₁ k p₂ q (λ e. eqb-false _ 61 h (ap rank e)))

middle_at :
    {t : Token} {ts us out out₁ : List Token} {c : Tree} {w x : View} →
    Parses 5 ts c (t ∷ us) →
    kind_of t ≡ question →
    out₁ ≡ out ++ nodes c →
    Does 6 6 (going us out₁) w →
    Does 6 6 (eaten 61 w) x →
    Does 6 6 (going ts out) (push t x)
middle_at {out = out} {c = c} p₁ k o (read {out = y} {out' = x} {rest = rest} {e = a} p₂ q₂ e₂) d =
    colon_eat (eqb (rank (ahead rest)) 61) refl p₁ k p₂ q₂ (join x y out (nodes c) (nodes a) e₂ o) d
middle_at p₁ k o (stop s) still = stop (in_middle p₁ k s)

pub chooses :
    {v c w x : View} →
    Does 5 5 v c →
    rank (ahead_v c) ≡ 6 →
    Does 6 6 (past c) w →
    Does 6 6 (eaten 61 w) x →
    Does 6 6 v (push (head_v c) x)
chooses (read {rest = []} p q e) f d₁ d₂ = absurd (omega (arith, f))
chooses (read {rest = t ∷ us} p q e) f d₁ d₂ = middle_at p (rank_ahead (t ∷ us) f) e d₁ d₂
chooses (stop s) f d₁ d₂ = absurd (omega (arith, f))
chooses still f d₁ d₂ = absurd (omega (arith, f))
