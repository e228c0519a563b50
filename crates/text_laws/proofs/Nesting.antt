-- Where refusal 3 is given nowhere, the tokens of a text open brackets at most 32 deep, as the grammar counts them.
--   shallow_depth   so deep they are, from the row of the table that was not given
use Prim.Native.Nat.{ℕ, suc, ◌<◌, ◌≤◌}
use native.Mathlib.Omega.{arith}
use mathlib.Core.Path.{◌≡◌, refl, ap}
use mathlib.Core.List.{List, [], ◌∷◌}
use mathlib.Core.Logic.{◌⊎◌, inl, inr}
use borrow.Author.Tests.{le-leb, lt-leb}
use Rattle.basics.proofs.Bools.{below?}
use Rattle.tokens.specs.Texts.{Token, Reads, running, opened, deep}
use Rattle.tokens.proofs.Places.{Rising, reads_rising}
use Rattle.grammar.specs.Tokens.{tokens}
use Rattle.grammar.specs.Written.{depth}
use Rattle.reader.specs.Texts.{tokens_of}
use Rattle.reader.proofs.Texts.{first_over_lem}
use Rattle.text_laws.proofs.TokenLimits.{opens}

-- behind a token, and before it
running_on : (n p : ℕ) (t : Token) (ts : List Token) → t.place ≤ p
    → running opened n (t ∷ ts) p ≡ running opened (opened t.code n) ts p
unfolding running
running_on n p t ts h = rw (le-leb t.place p h)

running_not_yet : (n p : ℕ) (ts : List Token) → Rising (suc p) ts → running opened n ts p ≡ n
unfolding running
running_not_yet n p [] r = refl
running_not_yet n p (t ∷ ts) r = let l = r.0 in rw (lt-leb t.place p (omega arith))

-- over all tokens at once
nested_within :
    (limit n lo : ℕ) (ts : List Token) →
    Rising lo ts →
    n ≤ limit →
    ((p : ℕ) → lo ≤ p → running opened n ts p ≤ limit) →
    depth n (tokens_of ts) ≤ limit
unfolding depth tokens
nested_within limit n lo [] r h k = h
nested_within limit n lo (t ∷ ts) r h k =
    let m : ℕ = opened t.code n in
    let l = r.0 in
    let now : m ≤ limit = omega (
      arith,
      k t.place l,
      running_on n t.place t ts (omega arith),
      running_not_yet m t.place ts r.1,
    ) in
    let later : depth m (tokens_of ts) ≤ limit =
    nested_within limit m (suc t.place) ts r.1 now
    (λ p q. omega (arith, k p (omega arith), running_on n p t ts (omega arith))) in
    omega (arith, ap (λ (d : ℕ). depth d (tokens_of ts)) (opens t.code n))

pub shallow_depth :
    {text : List ℕ} {ts : List Token} → Reads 0 text ts → ((p : ℕ) → deep ts p → ⊥) →
    depth 0 (tokens_of ts) ≤ 32
shallow_depth {ts = ts} r never =
    nested_within 32 0 0 ts (reads_rising r) (omega arith) (λ p l. go p (below? 32 (running opened 0 ts p)))
  where
    go : (p : ℕ) → (32 < running opened 0 ts p) ⊎ (running opened 0 ts p ≤ 32) → running opened 0 ts p ≤ 32
    go p (inl h) = let (q, f) = first_over_lem (running opened 0 ts) 32 p h in absurd (never q f)
    go p (inr h) = h
