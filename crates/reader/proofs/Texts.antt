-- From the tokens of a text to what the parser asks of them.
--   reads_inside    each token begins inside the text
--   reads_rises     each begins before the next, the last before the text's end
--   counts          a token is counted by its code as by its kind
--   first_over_lem      a number that is over a limit somewhere is so first at some place
--   few_counted     where refusal 4 is not given, at most 256 are counted
--   nodes_inside    what holds of each token of a text holds of each node of its tree
use Rattle.std.specs.Prelude.{if◌then◌else◌}
use mathlib.Core.Path.{◌≡◌, refl, ap, ◌∙◌}
use mathlib.Core.Bool.{Bool, true, false, ◌||◌}
use mathlib.Core.List.{List, [], ◌∷◌}
use mathlib.Core.Logic.{◌⊎◌, inl, inr}
use Prim.Native.Nat.{ℕ, suc, ◌+◌, ◌≤◌, ◌<◌}
use native.Mathlib.Omega.{arith}
use lib.Dec.{eqb, ltb}
use lib.ListN.{length, length-append}
use borrow.Author.Tests.{ltb-true, ltb-false, le-leb, eqb-true, ne_eqb}
use Rattle.alf.specs.Refusals.{First}
use Rattle.basics.proofs.Bools.{below?}
use Rattle.basics.proofs.Choices.{every, every_at}
use Rattle.basics.proofs.AllEntries.{All, none, more, all_append}
use Rattle.tokens.specs.Texts as text
use Rattle.tokens.specs.Texts.{Reads, done, blank, token, running, many, OfTokens}
use Rattle.token_steps.proofs.TokenStarts.{token_size}
use Rattle.grammar.specs.declared.Token.{Token}
use Rattle.grammar.specs.Tokens.{tokens, kind, kind_in, table, weight, counted}
use Rattle.grammar.specs.Grammar.{Tree, nodes, Parses, alone, applied, bracketed, up, joined, chosen, place_of}
use Rattle.grammar.specs.Answers.{Rising, none, next}
use Rattle.sorting.specs.Lookup.{first}
use Rattle.reader.specs.Texts.{tokens_of}
use Rattle.sorting.proofs.NodeCodes.{code_far}
use Rattle.sorting.proofs.SlotNumbers.{first_passes, first_before}

-- each token begins inside the text
pub reads_inside :
    {p : ℕ} {bs : List ℕ} {ts : List text.Token} (bytes : ℕ) →
    Reads p bs ts →
    p + length bs ≡ bytes →
    All (λ (t : Token). t.place ≤ bytes) (tokens_of ts)
unfolding tokens
reads_inside bytes done e = none
reads_inside bytes (blank h r) e = reads_inside bytes r (omega arith)
reads_inside bytes (token {p = p} {c = c} {w = w} {after = after} h t r) e =
    more {x = record { code = c; place = p }} (omega arith)
    (reads_inside bytes r (omega (arith, ap length t.there, length-append w after)))

-- each begins before the next
from_there :
    {p : ℕ} {bs : List ℕ} {ts : List text.Token} (bytes : ℕ) →
    Reads p bs ts →
    p + length bs ≡ bytes →
    p ≤ place_of bytes (tokens_of ts)
unfolding tokens
from_there bytes done e = omega arith
from_there {p} bytes (blank h r) e = let k = from_there bytes r (omega arith) in omega arith
from_there bytes (token h t r) e = omega arith

pub reads_rises :
    {p : ℕ} {bs : List ℕ} {ts : List text.Token} (bytes : ℕ) →
    Reads p bs ts →
    p + length bs ≡ bytes →
    Rising bytes (tokens_of ts)
unfolding tokens
reads_rises bytes done e = none
reads_rises bytes (blank h r) e = reads_rises bytes r (omega arith)
reads_rises bytes (token {p = p} {c = c} {w = w} {after = after} {ts = ts} h t r) e =
    let q : p + length w + length after ≡ bytes = omega (arith, ap length t.there, length-append w after) in
    next {t = record { code = c; place = p }} {ts = tokens_of ts}
    (omega (arith, token_size t.token, from_there bytes r q)) (reads_rises bytes r q)

-- brackets and `:` are not counted, by codes and by kinds
abbrev light : ℕ → Bool
light c = eqb c 61 || (eqb c 62 || eqb c 63)

weigh_near : every 148 (λ c. eqb (weight (kind c)) (if light c then 0 else 1)) ≡ true
unfolding every weight kind kind_in table
weigh_near = refl

weigh_far : (c : ℕ) → 148 ≤ c → weight (kind c) ≡ (if light c then 0 else 1)
unfolding weight
weigh_far c h =
    rw (
      code_far c h,
      ne_eqb c 61 (λ e. omega arith),
      ne_eqb c 62 (λ e. omega arith),
      ne_eqb c 63 (λ e. omega arith),
    )

weigh : (c : ℕ) → weight (kind c) ≡ (if light c then 0 else 1)
weigh c = go (below? c 148)
  where
    go : (c < 148) ⊎ (148 ≤ c) → weight (kind c) ≡ (if light c then 0 else 1)
    go (inl l) = eqb-true _ _ (every_at 148 (λ c. eqb (weight (kind c)) (if light c then 0 else 1)) weigh_near c l)
    go (inr l) = weigh_far c l

pub counts : (c n : ℕ) → text.counted c n ≡ n + weight (kind c)
unfolding text.counted
counts c n = rw (weigh c) (go (light c))
  where
    go : (x : Bool) → (if x then n else n + 1) ≡ n + (if x then 0 else 1)
    go true = omega arith
    go false = refl

counted_all :
    (ts : List text.Token) (n p : ℕ) →
    All (λ (t : Token). t.place ≤ p) (tokens_of ts) →
    running text.counted n ts p ≡ n + counted (tokens_of ts)
unfolding running counted tokens
counted_all [] n p a = omega arith
counted_all (t ∷ ts) n p (more h a) =
    rw (le-leb t.place p h)
    (counted_all ts (text.counted t.code n) p a
    ∙ omega (arith, counts t.code n))

-- a number that is over a limit somewhere is so first at some place
pub first_over_lem : (f : ℕ → ℕ) (limit p : ℕ) → limit < f p → (q : ℕ) × First (λ r. limit < f r) q
first_over_lem f limit p h = (n, record { given = given; before = before })
  where
    test : ℕ → Bool
    test q = ltb limit (f q)

    n : ℕ
    n = first (suc p) test

    reached : (n < suc p) ⊎ (suc p ≤ n) → n < suc p
    reached (inl l) = l
    reached (inr l) =
        let e = first_before (suc p) test p (omega arith) in
        absurd (omega (arith, ltb-false limit (f p) e))

    given : limit < f n
    given = ltb-true limit (f n) (first_passes (suc p) test (reached (below? n (suc p))))

    before : (i : ℕ) → i < n → limit < f i → ⊥
    before i l k = let z = ltb-false limit (f i) (first_before (suc p) test i l) in omega arith

-- where refusal 4 is not given, at most 256 are counted
pub few_counted :
    (bytes : List ℕ) {ts : List text.Token} →
    Reads 0 bytes ts →
    ((p : ℕ) → OfTokens bytes many p → ⊥) →
    counted (tokens_of ts) ≤ 256
few_counted bytes {ts} r never = go (below? 256 (running text.counted 0 ts (length bytes)))
  where
    total : running text.counted 0 ts (length bytes) ≡ 0 + counted (tokens_of ts)
    total = counted_all ts 0 (length bytes) (reads_inside (length bytes) r (omega arith))

    go :
        (256 < running text.counted 0 ts (length bytes)) ⊎ (running text.counted 0 ts (length bytes) ≤ 256) →
        counted (tokens_of ts) ≤ 256
    go (inl h) =
        let (q, f) = first_over_lem (running text.counted 0 ts) 256 (length bytes) h in
        absurd (never q (record { tokens = ts; read = r; holds = f }))
    go (inr h) = omega (arith, total)

-- what holds of each token of a text holds of each node of its tree
record Both (P : Token → Type 0) (e : Tree) (rest : List Token) : Type 0 where
  inner : All P (nodes e)
  outer : All P rest

all_tail : {P : Token → Type 0} {t : Token} {ts : List Token} → All P (t ∷ ts) → All P ts
all_tail (more h a) = a

all_head : {P : Token → Type 0} {t : Token} {ts : List Token} → All P (t ∷ ts) → P t
all_head (more h a) = h

both : {P : Token → Type 0} {l : ℕ} {ts rest : List Token} {e : Tree} → Parses l ts e rest → All P ts
    → Both P e rest
unfolding nodes
both (alone k) a = record { inner = more (all_head a) none; outer = all_tail a }
both (applied k p) a =
    let b = both p (all_tail a) in record { inner = all_append b.inner (more (all_head a) none); outer = b.outer }
both (bracketed k p k') a = let b = both p (all_tail a) in record { inner = b.inner; outer = all_tail b.outer }
both (up p) a = both p a
both (joined p k q) a =
    let b = both p a in
    let c = both q (all_tail b.outer) in
    record {
      inner = all_append (all_append b.inner c.inner) (more (all_head b.outer) none);
      outer = c.outer;
    }
both (chosen p k q k' r) a =
    let b = both p a in
    let c = both q (all_tail b.outer) in
    let d = both r (all_tail c.outer) in
    record {
      inner =
          all_append (all_append (all_append b.inner c.inner) d.inner) (more (all_head b.outer) none);
      outer = d.outer;
    }

pub nodes_inside :
    {P : Token → Type 0} {ts rest : List Token} {e : Tree} {l : ℕ} → Parses l ts e rest → All P ts →
    All P (nodes e)
nodes_inside p a = (both p a).inner
