-- Laws of the bytes that a refusal of a text shows.
--   blank_first            the bytes up to a blank end at the first one
--   apart                  a number among some is not among others, where the lists have none in common
--   extent_unique          a number at a place shows one number of bytes
--   refused_in_unique      a text is refused in one way
--   silent                 the refusals of an order without 2, 5, 6, 7 show none
--   in_first, in_then, in_silent   refused by the first of two orders, by the second, by an order that shows none
use mathlib.Core.Path.{◌≡◌, refl, sym, ap, ◌∙◌}
use mathlib.Core.Bool.{Bool, true, false, not}
use mathlib.Core.List.{List, [], ◌∷◌, ◌++◌}
use Prim.Native.Nat.{ℕ, zero, suc, ◌≤◌, ◌<◌}
use native.Mathlib.Omega.{arith}
use lib.Dec.{eqb}
use lib.ListN.{length, get_or, drop, drop_of_length-le, length-append}
use borrow.Author.Tests.{eqb-true, not-true}
use Rattle.basics.specs.Words.{all}
use Rattle.basics.specs.declared.Refusal.{Refusal}
use Rattle.basics.proofs.Refusals.{refusal_same}
use Rattle.basics.proofs.Bools.{and_left, and_right, or_right}
use Rattle.alf.specs.States.{among}
use Rattle.alf.specs.Refusals.{Order, RefusedWith, RefusedBy, Passed, numbers_of}
use Rattle.alf.proofs.Outcomes.{refused_among}
use Rattle.alf.proofs.Orders.{Sole, refused_first, refused_then}
use Rattle.token_steps.specs.Classes.{is_blank_lem}
use Rattle.token_steps.specs.Taking.{Taken}
use Rattle.token_steps.proofs.Bytes.{contrary}
use Rattle.token_steps.proofs.TokenStarts.{token_size}
use Rattle.tokens.specs.Extents.{to_blank_lem, OfToken, Shown, Extent, to_blank_rule, token, at_end, other, RefusedIn}
use Rattle.tokens.proofs.TextLaws.{taken_unique}

-- the first blank ends the bytes
pub blank_first :
    (ts : List ℕ) (n : ℕ) →
    n ≤ length ts →
    ((i : ℕ) → i < n → is_blank_lem (get_or ts i 0) ≡ false) →
    (n < length ts → is_blank_lem (get_or ts n 0) ≡ true) →
    n ≡ to_blank_lem ts
unfolding to_blank_lem
blank_first [] zero w b t = refl
blank_first [] (suc n) w b t = absurd (omega arith)
blank_first (x ∷ ts) zero w b t = rw (t (omega arith))
blank_first (x ∷ ts) (suc n) w b t =
    rw (b 0 (omega arith))
    (ap suc (blank_first ts n (omega arith) (λ i l. b (suc i) (omega arith)) (λ l. t (omega arith))))

-- lists of numbers with none in common
abbrev pub common : List ℕ → List ℕ → Bool
common ms ns = all (λ m. not (among m ns)) ms

pub apart : (n : ℕ) (ms ns : List ℕ) → common ms ns ≡ true → among n ms ≡ true → among n ns ≡ false
unfolding all among
apart n [] ns d h = absurd (contrary h refl)
apart n (m ∷ ms) ns d h = go (eqb n m) refl (apart n ms ns (and_right (not (among m ns)) _ d))
  where
    go : (q : Bool) → eqb n m ≡ q → (among n ms ≡ true → among n ns ≡ false) → among n ns ≡ false
    go true e f = rw (eqb-true n m e) (not-true _ (and_left (not (among m ns)) _ d))
    go false e f = f (rw e at h)

-- one extent
two_not : {n : ℕ} → n ≡ 2 → among n OfToken ≡ true → ⊥
unfolding among
two_not e h = contrary (rw e at h) refl

two_shown : {n : ℕ} → n ≡ 2 → among n Shown ≡ false → ⊥
unfolding among
two_shown e h = contrary refl (rw e at h)

token_shown : (n : ℕ) → among n OfToken ≡ true → among n Shown ≡ false → ⊥
unfolding among
token_shown n h k = contrary h (or_right (eqb n 2) _ k)

none_taken : (text : List ℕ) {w a : List ℕ} {c p : ℕ} → p ≡ length text → Taken (drop p text) w c a → ⊥
none_taken text {w} {a} {p = p} e t =
    let k = token_size t.token in
    let l : length (w ++ a) ≡ 0 = ap length (sym t.there ∙ drop_of_length-le text {i = p} (omega arith)) in
    omega (arith, rw length-append at l)

pub extent_unique : (text : List ℕ) (n p : ℕ) {j k : ℕ} → Extent text n p j → Extent text n p k → j ≡ k
extent_unique text n p (to_blank_rule e f) (to_blank_rule g h) = f ∙ sym h
extent_unique text n p (to_blank_rule e f) (token g t h) = absurd (two_not e g)
extent_unique text n p (to_blank_rule e f) (at_end g t h) = absurd (two_not e g)
extent_unique text n p (to_blank_rule e f) (other g h) = absurd (two_shown e g)
extent_unique text n p (token g t h) (to_blank_rule e f) = absurd (two_not e g)
extent_unique text n p (token g t h) (token i u j) = h ∙ ap length (taken_unique t u).bytes ∙ sym j
extent_unique text n p (token g t h) (at_end i u j) = absurd (none_taken text u t)
extent_unique text n p (token g t h) (other i j) = absurd (token_shown n g i)
extent_unique text n p (at_end g t h) (to_blank_rule e f) = absurd (two_not e g)
extent_unique text n p (at_end g t h) (token i u j) = absurd (none_taken text t u)
extent_unique text n p (at_end g t h) (at_end i u j) = h ∙ sym j
extent_unique text n p (at_end g t h) (other i j) = absurd (token_shown n g i)
extent_unique text n p (other g h) (to_blank_rule e f) = absurd (two_shown e g)
extent_unique text n p (other g h) (token i u j) = absurd (token_shown n i g)
extent_unique text n p (other g h) (at_end i u j) = absurd (token_shown n i g)
extent_unique text n p (other g h) (other i j) = h ∙ sym j

pub refused_in_unique : (text : List ℕ) (o : Order) → Sole o → {r s : Refusal} → RefusedIn text o r
    → RefusedIn text o s → r ≡ s
refused_in_unique text o f {r} {s} a b =
    let e = f r.number s.number r.place s.place a.by b.by in
    refusal_same e (extent_unique text s.number s.place (rw (e.0, e.1) at a.shows) b.shows)

-- an order that shows none
abbrev pub Silent : Order → Type 0
Silent o = common (numbers_of o) Shown ≡ true

pub silent : (text : List ℕ) (o : Order) → Silent o → (n p : ℕ) → RefusedWith o n p → Extent text n p 0
silent text o s n p h = other (apart n (numbers_of o) Shown s (refused_among o n p h)) refl

module _ (text : List ℕ) (o o' : Order) {r : Refusal} where
  pub in_first : RefusedIn text o r → RefusedIn text (o ++ o') r
  in_first h = record { by = refused_first o o' _ _ h.by; shows = h.shows }

  pub in_then : Passed o → RefusedIn text o' r → RefusedIn text (o ++ o') r
  in_then g h = record { by = refused_then o o' _ _ g h.by; shows = h.shows }

pub in_silent : (text : List ℕ) (o : Order) → Silent o → {r : Refusal} → RefusedBy o r → RefusedIn text o r
in_silent text o s h =
    record { by = h.by; shows = other (apart _ (numbers_of o) Shown s (refused_among o _ _ h.by)) h.bare }
