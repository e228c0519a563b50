-- A list from a rule, and loops that store one. `listed a n f` is f a, f (a + 1), .., n of them.
--   all_passed                              a loop has gone through all its turns
--   listed_length, listed_more, listed_at   its length, one entry more, each entry
--   listed_same                             the same list from two rules that agree
--   listed_whole                            at the front of a list of as many entries it is all of it
--   ruling_next, ruling_next_front          one entry more of a list from a rule is written
--   ruling_end, ruling_placed, ruling_front all of them are written
--   ruled_inside, ruled_before, ruled_behind   one entry of a list in which it stands
-- In the laws of loops the rule f and its start a are explicit, since they stand under `listed`; `_` does for both.
use mathlib.Core.Path.{◌≡◌, refl, sym, ap, ◌∙◌}
use mathlib.Core.List.{List, [], ◌∷◌, ◌++◌}
use Prim.Native.Nat.{ℕ, zero, suc, ◌+◌, ◌-◌, ◌≤◌, ◌<◌}
use native.Mathlib.Nat.{add-zero, zero-add}
use native.Mathlib.Omega.{arith}
use lib.ListN.{length, get_or, set}
use lib.Seq.{sets}
use Rattle.basics.specs.Words.{listed}
use Rattle.basics.specs.Memory.{front, placed}
use Rattle.basics.proofs.Stores.{Writing, front_whole, writing_next, writing_next_front}
use Rattle.basics.proofs.Stores.{writing_end, writing_placed, writing_front}
use Rattle.basics.proofs.Stores.{placed_before, placed_behind_lem, placed_inside}

-- a loop has gone through all its n turns
pub all_passed : {A B : Type 0} {i n : ℕ} {r : A} (fold : ℕ → B → A) (x : B) → i ≤ n → n ≤ i
    → r ≡ fold i x
    → r ≡ fold n x
all_passed {i = i} {n = n} fold x l u h = let e : n ≡ i = omega arith in rw e h

module _ {A : Type 0} where
  pub listed_length : (a n : ℕ) (f : ℕ → A) → length (listed a n f) ≡ n
  unfolding listed
  listed_length a zero f = refl
  listed_length a (suc n) f = ap suc (listed_length (a + 1) n f)

  pub listed_more : (a n : ℕ) (f : ℕ → A) → listed a (suc n) f ≡ listed a n f ++ (f (a + n) ∷ [])
  unfolding listed
  listed_more a zero f = rw add-zero refl
  listed_more a (suc n) f =
      let e : a + suc n ≡ a + 1 + n = omega arith in
      rw e (ap (λ (l : List A). f a ∷ l) (listed_more (a + 1) n f))

  pub listed_at : (a n i : ℕ) (f : ℕ → A) (d : A) → i < n → get_or (listed a n f) i d ≡ f (a + i)
  unfolding listed
  listed_at a zero i f d h = absurd (omega arith)
  listed_at a (suc n) zero f d h = rw add-zero refl
  listed_at a (suc n) (suc i) f d h =
      let e : a + suc i ≡ a + 1 + i = omega arith in
      rw e (listed_at (a + 1) n i f d (omega arith))

-- two rules that agree up to the last entry
pub listed_same : {A : Type 0} (f g : ℕ → A) (a n : ℕ) → ((i : ℕ) → i < a + n → f i ≡ g i) → listed a n f ≡ listed a n g
unfolding listed
listed_same f g a zero h = refl
listed_same f g a (suc n) h =
    rw (h a (omega arith)) (ap (λ l. g a ∷ l) (listed_same f g (a + 1) n (λ i l. h i (omega arith))))

-- a list from a rule that is as long as the list it is written to is all of it
pub listed_whole : (n : ℕ) (f : ℕ → ℕ) (l : List ℕ) → length l ≡ n → front (listed 0 n f) l ≡ listed 0 n f
listed_whole n f l e = front_whole l (listed 0 n f) (listed_length 0 n f ∙ sym e)

module _ {d : List ℕ} {at : ℕ} (a : ℕ) {m : ℕ} (f : ℕ → ℕ) {l : List ℕ} {i : ℕ}
    (g : Writing d at (listed a m f) l i) where
  pub ruling_next : {v : ℕ} → i < m → v ≡ f (a + i) → Writing d at (listed a m f) (set l (at + i) v) (i + 1)
  ruling_next h e = writing_next g (omega (arith, listed_length a m f)) (e ∙ sym (listed_at a m i f 0 h))

  pub ruling_end : m ≤ i → l ≡ sets d at (listed a m f)
  ruling_end h = writing_end g (omega (arith, listed_length a m f))

  pub ruling_placed : m ≤ i → at + m ≤ length d → l ≡ placed d at (listed a m f)
  ruling_placed h r =
      writing_placed g (omega (arith, listed_length a m f)) (omega (arith, listed_length a m f))

module _ {d : List ℕ} {m : ℕ} (f : ℕ → ℕ) {l : List ℕ} {i : ℕ} (g : Writing d 0 (listed 0 m f) l i) where
  pub ruling_next_front : {v : ℕ} → i < m → v ≡ f i → Writing d 0 (listed 0 m f) (set l i v) (i + 1)
  ruling_next_front h e =
      writing_next_front g (omega (arith, listed_length 0 m f))
      (e ∙ sym (rw zero-add at (listed_at 0 m i f 0 h)))

  pub ruling_front : m ≤ i → m ≤ length d → l ≡ front (listed 0 m f) d
  ruling_front h r =
      writing_front g (omega (arith, listed_length 0 m f)) (omega (arith, listed_length 0 m f))

-- one entry of a list in which the entries from `at` on, m of them, are those of a rule
module _ (d : List ℕ) (at m : ℕ) (f : ℕ → ℕ) (h : at + m ≤ length d) where
  fits : at + length (listed at m f) ≤ length d
  fits = omega (arith, listed_length at m f)

  pub ruled_inside : (i : ℕ) → at ≤ i → i < at + m → get_or (placed d at (listed at m f)) i 0 ≡ f i
  ruled_inside i k l =
      let e : at + (i - at) ≡ i = omega arith in
      placed_inside d at (listed at m f) fits i k (omega (arith, listed_length at m f))
      ∙ (rw e at (listed_at at m (i - at) f 0 (omega arith)))

  pub ruled_before : (i : ℕ) → i < at → get_or (placed d at (listed at m f)) i 0 ≡ get_or d i 0
  ruled_before i k = placed_before d at (listed at m f) fits i k

  pub ruled_behind : (i : ℕ) → at + m ≤ i → get_or (placed d at (listed at m f)) i 0 ≡ get_or d i 0
  ruled_behind i k = placed_behind_lem d at (listed at m f) fits i (omega (arith, listed_length at m f))
