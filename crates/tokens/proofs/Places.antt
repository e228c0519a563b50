-- The first token that goes over a limit, as an index and as a byte of the text.
--   reads_rising   the places of a text's tokens rise
--   rising_at      .. from the first on
--   over_first     the place of the first token over the limit is the first byte at which the number is over it
--   over_none      where no token is, no byte is
use mathlib.Core.Path.{◌≡◌, refl}
use mathlib.Core.Bool.{Bool, true, false}
use mathlib.Core.List.{List, [], ◌∷◌}
use Prim.Native.Nat.{ℕ, zero, suc, ◌+◌, ◌≤◌, ◌<◌}
use native.Mathlib.Omega.{arith}
use lib.Dec.{ltb, leb}
use lib.ListN.{length, get_or}
use borrow.Author.Tests.{le-leb, lt-leb, leb-true, leb-false, ltb-true, ltb-false}
use Rattle.alf.specs.Refusals.{First}
use Rattle.tokens.specs.Texts.{Token, Reads, running}
use Rattle.tokens.specs.Texts.Reads.{done, blank, token}
use Rattle.tokens.specs.Tokenizing.{codes_of, places_of}
use Rattle.tokens.specs.Inner.{over_at}
use Rattle.token_steps.proofs.TokenStarts.{token_size}

abbrev pub Rising : ℕ → List Token → Type 0
Rising lo [] = Unit {0}
Rising lo (t ∷ ts) = (lo ≤ t.place) × Rising (suc t.place) ts

lower : (ts : List Token) (lo hi : ℕ) → lo ≤ hi → Rising hi ts → Rising lo ts
lower [] lo hi h r = tt
lower (t ∷ ts) lo hi h r = let k = r.0 in (omega arith, r.1)

pub reads_rising : {p : ℕ} {bs : List ℕ} {ts : List Token} → Reads p bs ts → Rising p ts
reads_rising done = tt
reads_rising (blank {p = p} {ts = ts} h r) = lower ts p (suc p) (omega arith) (reads_rising r)
reads_rising (token {p = p} {w = w} {ts = ts} h t r) =
    let k = token_size t.token in (omega arith, lower ts (suc p) (p + length w) (omega arith) (reads_rising r))

pub rising_at : (ts : List Token) (lo k : ℕ) → Rising lo ts → k < length ts → lo ≤ get_or (places_of ts) k 0
rising_at [] lo zero r h = absurd (omega arith)
rising_at [] lo (suc k) r h = absurd (omega arith)
rising_at (t ∷ ts) lo zero r h = r.0
rising_at (t ∷ ts) lo (suc k) r h =
    let j = rising_at ts (suc t.place) k r.1 (omega arith) in let i = r.0 in omega arith

module _ (f : ℕ → ℕ → ℕ) where
  at_or_after :
      (n p : ℕ) (t : Token) (ts : List Token) →
      t.place ≤ p →
      running f n (t ∷ ts) p ≡ running f (f t.code n) ts p
  unfolding running
  at_or_after n p t ts h = rw (le-leb t.place p h)

  before : (n p : ℕ) (t : Token) (ts : List Token) → p < t.place → running f n (t ∷ ts) p ≡ n
  unfolding running
  before n p t ts h = rw (lt-leb t.place p h)

  running_nil : (n p : ℕ) → running f n [] p ≡ n
  unfolding running
  running_nil n p = refl

  not_yet : (n p : ℕ) (ts : List Token) → Rising (suc p) ts → running f n ts p ≡ n
  not_yet n p [] r = running_nil n p
  not_yet n p (t ∷ ts) r = before n p t ts r.0

  module _ (limit : ℕ) where
    abbrev over : ℕ → List Token → ℕ
    over n ts = over_at f limit n (codes_of ts)

    over_hit : (n : ℕ) (t : Token) (ts : List Token) → ltb limit (f t.code n) ≡ true
        → over n (t ∷ ts) ≡ 0
    unfolding over_at
    over_hit n t ts h = rw h

    over_miss :
        (n : ℕ) (t : Token) (ts : List Token) →
        ltb limit (f t.code n) ≡ false →
        over n (t ∷ ts) ≡ suc (over (f t.code n) ts)
    unfolding over_at
    over_miss n t ts h = rw h

    pub over_none : (n : ℕ) (ts : List Token) → n ≤ limit → length ts ≤ over n ts → (p : ℕ)
        → running f n ts p ≤ limit
    over_none n [] h k p = rw (running_nil n p) h
    over_none n (t ∷ ts) h k p =
        go (ltb limit (f t.code n)) (leb t.place p) refl refl (λ a b. over_none (f t.code n) ts a b p)
      where
        go :
            (x y : Bool) →
            ltb limit (f t.code n) ≡ x →
            leb t.place p ≡ y →
            (f t.code n ≤ limit → length ts ≤ over (f t.code n) ts
            → running f (f t.code n) ts p ≤ limit) →
            running f n (t ∷ ts) p ≤ limit
        go true y e g ih = absurd (omega (arith, over_hit n t ts e))
        go false true e g ih =
            rw (at_or_after n p t ts (leb-true _ p g))
            (ih (ltb-false limit _ e) (omega (arith, over_miss n t ts e)))
        go false false e g ih = rw (before n p t ts (leb-false _ p g)) h

    abbrev Over : ℕ → List Token → ℕ → Type 0
    Over n ts p = limit < running f n ts p

    later :
        (n q : ℕ) (t : Token) (ts : List Token) →
        n ≤ limit →
        t.place ≤ q →
        First (Over (f t.code n) ts) q →
        First (Over n (t ∷ ts)) q
    later n q t ts h l first =
        record
        { given = rw (at_or_after n q t ts l) first.given; before = λ i k o. go i k o (leb t.place i) refl }
      where
        go : (i : ℕ) → i < q → Over n (t ∷ ts) i → (y : Bool) → leb t.place i ≡ y → ⊥
        go i k o true g = first.before i k (rw (at_or_after n i t ts (leb-true _ i g)) at o)
        go i k o false g = omega (arith, before n i t ts (leb-false t.place i g))

    pub over_first :
        (n lo : ℕ) (ts : List Token) →
        n ≤ limit →
        Rising lo ts →
        over n ts < length ts →
        First (Over n ts) (get_or (places_of ts) (over n ts) 0)
    over_first n lo [] h r k = absurd (omega arith)
    over_first n lo (t ∷ ts) h r k =
        go (ltb limit (f t.code n)) refl (λ a b. over_first (f t.code n) (suc t.place) ts a r.1 b)
      where
        go :
            (x : Bool) →
            ltb limit (f t.code n) ≡ x →
            (f t.code n ≤ limit →
            over (f t.code n) ts < length ts →
            First (Over (f t.code n) ts) (get_or (places_of ts) (over (f t.code n) ts) 0)) →
            First (Over n (t ∷ ts)) (get_or (places_of (t ∷ ts)) (over n (t ∷ ts)) 0)
        go true e ih =
            rw (over_hit n t ts e)
            (record {
              given =
                  rw (at_or_after n t.place t ts (omega arith), not_yet (f t.code n) t.place ts r.1)
                  (ltb-true limit _ e);
              before = λ i l o. omega (arith, before n i t ts l);
            })
        go false e ih =
            let j : over (f t.code n) ts < length ts = omega (arith, over_miss n t ts e) in
            let l = rising_at ts (suc t.place) (over (f t.code n) ts) r.1 j in
            rw (over_miss n t ts e) (later n _ t ts h (omega arith) (ih (ltb-false limit _ e) j))
