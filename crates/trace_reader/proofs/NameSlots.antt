-- Names in slots: what a list of slots holds is what was put in, slot by slot.
--   until_name     a name and zeros behind it hold the name
--   slot_of_names  slot j of a file's names
--   name_of_names  name j of a file's names
use mathlib.Core.Path.{◌≡◌, refl, ap, ◌∙◌}
use mathlib.Core.Bool.{Bool, true, false, ◌&&◌}
use mathlib.Core.List.{List, [], ◌∷◌, ◌++◌}
use Prim.Native.Nat.{ℕ, zero, suc, ◌-◌, ◌*◌, ◌≤◌, ◌<◌}
use native.Mathlib.Omega.{arith}
use lib.Dec.{eqb}
use lib.ListN.{length, drop, replicate, length-drop}
use lib.Seq.{take_all, take-append-le, drop-append-le, drop_at}
use borrow.Author.Tests.{eqb-true, eqb-false, ne_eqb}
use Rattle.basics.specs.Words.{all}
use Rattle.alf.specs.Names.{is_letter, is_decimal, starts_name, goes_on_name, is_name, slot, until_zero, name_at, slot_of}
use Rattle.alf.proofs.NameBytes.{starts_goes_on}
use Rattle.names.proofs.Slots.{slot_of_lem}
use Rattle.trace_format.specs.Records.{name_in}
use Rattle.record_copies.specs.HeldLists.{names_of}
use Rattle.record_copies.proofs.Copying.{slot_length, names_length, name_short}

-- bytes that go on with a name hold no zero
no_zero : (b : ℕ) → goes_on_name b ≡ true → eqb b 0 ≡ false
unfolding goes_on_name starts_name is_letter is_decimal
no_zero b e =
    ne_eqb b 0
    (λ z.
    let f : goes_on_name 0 ≡ true = rw z at e in
    let g : goes_on_name 0 ≡ false = refl in
    let u : ◌≡◌ {A = ℕ} 0 1 = cc in
    omega arith)

and_both : (a b : Bool) → (a && b) ≡ true → (a ≡ true) × (b ≡ true)
and_both true true e = (refl, refl)
and_both true false e = (refl, e)
and_both false b e = let u : ◌≡◌ {A = ℕ} 0 1 = cc in absurd (omega arith)

until_zeros : (m : ℕ) → until_zero (replicate m 0) ≡ []
unfolding until_zero
until_zeros zero = refl
until_zeros (suc m) = refl

until_goes : (s : List ℕ) (m : ℕ) → all goes_on_name s ≡ true → until_zero (s ++ replicate m 0) ≡ s
unfolding until_zero all
until_goes [] m e = until_zeros m
until_goes (b ∷ s) m e =
    let h = and_both (goes_on_name b) (all goes_on_name s) e in
    rw (no_zero b h.0) (ap (λ (l : List ℕ). b ∷ l) (until_goes s m h.1))

pub name_goes : (s : List ℕ) → is_name s ≡ true → all goes_on_name s ≡ true
unfolding is_name all
name_goes [] e = refl
name_goes (b ∷ s) e =
    let h = and_both (starts_name b) _ e in
    let g = and_both (all goes_on_name s) _ h.1 in
    rw (starts_goes_on b h.0) g.0

pub until_name : (s : List ℕ) → is_name s ≡ true → until_zero (slot_of s) ≡ s
until_name s e = rw (slot_of_lem s (name_short s e)) (until_goes s (32 - length s) (name_goes s e))

module _ (file : List ℕ) where
  -- slot j of the slots of k + 1 names
  earlier : (k j : ℕ) → j < k → slot (names_of file (suc k)) j ≡ slot (names_of file k) j
  unfolding slot names_of
  earlier k j h =
      let s : j * 32 ≤ length (names_of file k) = omega (arith, names_length file k) in
      let t : 32 ≤ length (drop (j * 32) (names_of file k)) = rw length-drop (omega (arith, names_length file k)) in
      rw (drop-append-le (j * 32) (names_of file k) (slot_of (name_in file k)) s)
      (take-append-le 32 (drop (j * 32) (names_of file k)) (slot_of (name_in file k)) t)

  latest : (k : ℕ) → slot (names_of file (suc k)) k ≡ slot_of (name_in file k)
  unfolding slot names_of
  latest k =
      rw (drop_at (names_of file k) (slot_of (name_in file k)) (k * 32) (names_length file k))
      (take_all 32 (slot_of (name_in file k)) (omega (arith, slot_length (name_in file k))))

  pub slot_of_names : (k j : ℕ) → j < k → slot (names_of file k) j ≡ slot_of (name_in file j)
  slot_of_names zero j h = absurd (omega arith)
  slot_of_names (suc k) j h = go (eqb j k) refl (slot_of_names k j)
    where
      go :
          (b : Bool) →
          eqb j k ≡ b →
          (j < k → slot (names_of file k) j ≡ slot_of (name_in file j)) →
          slot (names_of file (suc k)) j ≡ slot_of (name_in file j)
      go true e ih = rw (eqb-true j k e) (latest k)
      go false e ih =
          let l : j < k = omega (arith, eqb-false j k e) in
          earlier k j l ∙ ih l

  pub name_of_names : (k j : ℕ) → j < k → is_name (name_in file j) ≡ true
      → name_at (names_of file k) j ≡ name_in file j
  name_of_names k j h e = ap until_zero (slot_of_names k j h) ∙ until_name (name_in file j) e
