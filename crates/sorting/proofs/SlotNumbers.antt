-- Laws of looking up: the first number that passes a test, the slot that holds a name.
--   first_here, first_none, first_bound, first_same     where a search ends
--   first_passes, first_before                          what it ended at
--   Found, number_found_lem, number_here, number_none, number_small    the number of a name is its first slot's
--   word_part, word_fits                                the name that stands at a byte
--   holds_told, slot_told, unknown_other, unknown_name  what the functions of lookup answer
use Rattle.std.specs.Prelude.{if◌then◌else◌}
use mathlib.Core.Path.{◌≡◌, refl, sym, ap, ◌∙◌}
use mathlib.Core.Bool.{Bool, true, false}
use mathlib.Core.List.{List}
use Prim.Native.Nat.{ℕ, zero, suc, ◌+◌, ◌-◌, ◌*◌, ◌≤◌, ◌<◌}
use native.Mathlib.Omega.{arith}
use lib.Dec.{eqb}
use lib.ListN.{length, take, drop, length-drop}
use borrow.Author.Tests.{eq-eqb, ne_eqb}
use Rattle.basics.specs.Deciding.{Decides}
use Rattle.basics.proofs.Deciding.{decided_by}
use Rattle.basics.specs.Words.{same}
use Rattle.basics.proofs.Entries.{same_sound, same_true, same_false}
use Rattle.alf.specs.Names.{names_in, name_at, until_zero}
use Rattle.basics.proofs.Bools.{never}
use Rattle.names.specs.Check.{NameLength}
use Rattle.names.proofs.Slots.{slot_part}
use Rattle.token_steps.specs.Taking.{name_bytes}
use Rattle.token_steps.proofs.RightName.{names_le}
use Rattle.sorting.specs.Lookup.{word, first, slot_number, number_at, is_unknown}

pub first_here :
    (n : ℕ) (p : ℕ → Bool) (k : ℕ) → k < n → p k ≡ true → ((j : ℕ) → j < k → p j ≡ false) →
    k ≡ first n p
unfolding first
first_here zero p k h e b = absurd (omega arith)
first_here (suc n) p zero h e b = rw e
first_here (suc n) p (suc k) h e b =
    rw (b 0 (omega arith)) (ap suc (first_here n (λ j. p (suc j)) k (omega arith) e (λ j l. b (suc j) (omega arith))))

pub first_none : (n : ℕ) (p : ℕ → Bool) → ((j : ℕ) → j < n → p j ≡ false) → n ≡ first n p
unfolding first
first_none zero p b = refl
first_none (suc n) p b =
    rw (b 0 (omega arith)) (ap suc (first_none n (λ j. p (suc j)) (λ j l. b (suc j) (omega arith))))

pub first_bound : (n : ℕ) (p : ℕ → Bool) → first n p ≤ n
unfolding first
first_bound zero p = omega arith
first_bound (suc n) p = go (p 0) (first_bound n (λ k. p (suc k)))
  where
    go : (b : Bool) → first n (λ k. p (suc k)) ≤ n → (if b then 0 else suc (first n (λ k. p (suc k)))) ≤ suc n
    go true ih = omega arith
    go false ih = omega arith

pub first_passes : (n : ℕ) (p : ℕ → Bool) → first n p < n → p (first n p) ≡ true
unfolding first
first_passes zero p h = absurd (omega arith)
first_passes (suc n) p h = go (p 0) refl (first_passes n (λ k. p (suc k))) h
  where
    go :
        (b : Bool) →
        p 0 ≡ b →
        (first n (λ k. p (suc k)) < n → p (suc (first n (λ k. p (suc k)))) ≡ true) →
        (if b then 0 else suc (first n (λ k. p (suc k)))) < suc n →
        p (if b then 0 else suc (first n (λ k. p (suc k)))) ≡ true
    go true e ih l = e
    go false e ih l = ih (omega arith)

pub first_before : (n : ℕ) (p : ℕ → Bool) (j : ℕ) → j < first n p → p j ≡ false
unfolding first
first_before zero p j h = absurd (omega arith)
first_before (suc n) p j h = go (p 0) refl j (first_before n (λ k. p (suc k))) h
  where
    go :
        (b : Bool) →
        p 0 ≡ b →
        (i : ℕ) →
        ((k : ℕ) → k < first n (λ k. p (suc k)) → p (suc k) ≡ false) →
        i < (if b then 0 else suc (first n (λ k. p (suc k)))) →
        p i ≡ false
    go true e i ih l = absurd (omega arith)
    go false e zero ih l = e
    go false e (suc i) ih l = ih i (omega arith)

-- k is the number of the first slot that holds the name w, or of all slots
pub record Found (names w : List ℕ) (k : ℕ) : Type 0 where
  pub within : k ≤ names_in names
  pub there : k < names_in names → name_at names k ≡ w
  pub before : (j : ℕ) → j < k → name_at names j ≡ w → ⊥

pub number_found_lem : (names w : List ℕ) → Found names w (slot_number names w)
unfolding slot_number
number_found_lem names w =
    record {
      within = first_bound _ _;
      there = λ l. same_sound _ _ (first_passes (names_in names) (λ k. same (name_at names k) w) l);
      before = λ j l e.
          let a = first_before (names_in names) (λ k. same (name_at names k) w) j l in
          never (sym a ∙ same_true _ _ e);
    }

-- what the lookup passed and where it ended
pub number_here :
    (names w : List ℕ) (k : ℕ) →
    k < names_in names →
    name_at names k ≡ w →
    ((j : ℕ) → j < k → name_at names j ≡ w → ⊥) →
    k ≡ slot_number names w
unfolding slot_number
number_here names w k l e b =
    first_here (names_in names) (λ k. same (name_at names k) w) k l (same_true _ _ e) (λ j h. same_false _ _ (b j h))

pub number_none :
    (names w : List ℕ) (k : ℕ) →
    k ≡ names_in names →
    ((j : ℕ) → j < k → name_at names j ≡ w → ⊥) →
    k ≡ slot_number names w
unfolding slot_number
number_none names w k e b =
    rw e (first_none (names_in names) (λ k. same (name_at names k) w) (λ j h. same_false _ _ (b j (rw e h))))

-- the parts that the code compares
pub word_part : (text : List ℕ) (at : ℕ) {end : ℕ} → end ≡ at + name_bytes (drop at text)
    → take (end - at) (drop at text) ≡ word text at
unfolding word
word_part text at {end} e = let d : end - at ≡ name_bytes (drop at text) = omega arith in rw d

pub holds_told :
    (r : Bool) (s w : List ℕ) {n : ℕ} →
    (r ≡ true → take n s ≡ w) →
    (take n s ≡ w → r ≡ true) →
    NameLength s n →
    Decides r (until_zero s ≡ w)
holds_told r s w y z p = decided_by r (λ e. sym p.name ∙ y e) (λ e. z (p.name ∙ e))

pub slot_told :
    (names text : List ℕ) (k at : ℕ) (b : Bool) {size : ℕ} →
    size ≡ name_bytes (drop at text) →
    Decides b (until_zero (take (k * 32 + 32 - k * 32) (drop (k * 32) names)) ≡ take (at + size - at) (drop at text)) →
    Decides b (name_at names k ≡ word text at)
slot_told names text k at b e t = rw (slot_part names k, word_part text at (ap (λ (n : ℕ). at + n) e)) at t

-- name bytes stand inside the text
pub word_fits : (text : List ℕ) (at : ℕ) → at ≤ length text → at + name_bytes (drop at text) ≤ length text
word_fits text at h = omega (arith, names_le (drop at text), length-drop at text)

-- the tests of `is_unknown`
pub unknown_other : (names text : List ℕ) (c p : ℕ) → (c ≡ 0 → ⊥) → false ≡ is_unknown names text c p
unfolding is_unknown
unknown_other names text c p n = rw (ne_eqb c 0 n)

pub unknown_name : (names text : List ℕ) (c p : ℕ) {k : ℕ} → c ≡ 0 → k ≡ number_at names text p
    → eqb k (names_in names) ≡ is_unknown names text c p
unfolding is_unknown
unknown_name names text c p e f = rw (eq-eqb c 0 e, f)

pub number_small : (names text : List ℕ) (p : ℕ) → number_at names text p ≤ names_in names
number_small names text p = (number_found_lem names (word text p)).within

-- two tests that say the same find the same
pub first_same : (n : ℕ) (p q : ℕ → Bool) → ((i : ℕ) → i < n → p i ≡ q i) → first n p ≡ first n q
unfolding first
first_same zero p q h = refl
first_same (suc n) p q h =
    rw (h 0 (omega arith), first_same n (λ k. p (suc k)) (λ k. q (suc k)) (λ i l. h (suc i) (omega arith))) refl
