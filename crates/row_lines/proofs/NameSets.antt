-- The names of a set, and the set that a mask is.
--   mask_marked, all_marked        the bits of a mask are the members of the set
--   members_same, members_changed, members_all      the names of such a set
--   slot_in, name_slot, size_none, size_one, member_none, member_one, member-fits    name i, where its bit is set
use Prim.Native.Nat.{ℕ, ◌+◌, ◌-◌, ◌*◌, ◌<◌, ◌≤◌}
use native.Mathlib.Omega.{arith}
use mathlib.Core.Path.{◌≡◌, refl, sym, ap, ◌∙◌}
use mathlib.Core.Bool.{Bool, true, false}
use mathlib.Core.List.{List, [], ◌∷◌}
use lib.Dec.{eqb}
use lib.ListN.{length, take, drop}
use Rattle.basics.specs.Memory.{Put, Room}
use Rattle.basics.proofs.PartByPart.{put_none, put_then, put_length}
use Rattle.alf.specs.Names.{name_at}
use Rattle.alf.specs.Traces.{mask, changed, change_mask}
use Rattle.alf.proofs.Masks.{bit, mask_bit}
use Rattle.names.specs.Check.{NameLength}
use Rattle.listing.specs.Inner.{Sized}
use Rattle.trace_writer.specs.Putting.{SlotsLent}
use Rattle.trace_writer.proofs.Putting.{SlotName, slot_name}
use Rattle.row_lines.specs.Lines.{member, members}
use Rattle.row_lines.specs.Inner.{marked, SlotIn}
use Rattle.row_lines.proofs.InTurn.{parts_same}

bit_one : (b : Bool) → eqb (bit b) 1 ≡ b
bit_one true = refl
bit_one false = refl

pub mask_marked : (n i : ℕ) (p : ℕ → Bool) → i < n → marked (mask n p) i ≡ p i
unfolding marked
mask_marked n i p h = rw (mask_bit n i p h) (bit_one (p i))

-- the mask of all
all_mask : mask 32 (λ i. true) ≡ 4294967295
unfolding mask
all_mask = refl

pub all_marked : (i : ℕ) → i < 32 → marked 4294967295 i ≡ true
all_marked i h = ap (λ (m : ℕ). marked m i) (sym all_mask) ∙ mask_marked 32 i (λ j. true) h

member_same : (names : List ℕ) (p q : ℕ → Bool) (i : ℕ) → p i ≡ q i → member names p i ≡ member names q i
unfolding member
member_same names p q i e = rw e refl

members_same : (names : List ℕ) (k : ℕ) (p q : ℕ → Bool) → ((i : ℕ) → i < k → p i ≡ q i)
    → members names k p ≡ members names k q
unfolding members
members_same names k p q h = parts_same _ _ k (λ i l. member_same names p q i (h i l))

-- the names that changed at a row, by the mask of them; and all names
pub members_changed : (names : List ℕ) (k : ℕ) (states : List ℕ) (r : ℕ) {m : ℕ} → m ≡ change_mask k states r
    → members names k (marked m) ≡ members names k (changed k states r)
unfolding change_mask
members_changed names k states r e =
    ap (λ (m : ℕ). members names k (marked m)) e
    ∙ members_same names k _ _ (λ i h. mask_marked k i (changed k states r) h)

pub members_all : (names : List ℕ) (k : ℕ) → k ≤ 32
    → members names k (marked 4294967295) ≡ members names k (λ i. true)
members_all names k h = members_same names k _ _ (λ i l. all_marked i (omega arith))

-- a slot among k
pub slot_in : {names : List ℕ} {k i : ℕ} → SlotsLent names k → i < k → SlotIn names i
slot_in s h = record { there = omega (arith, s.there, s.few); few = omega (arith, s.few) }

pub name_slot : {names : List ℕ} {i n : ℕ} → SlotIn names i
    → NameLength (take (i * 32 + 32 - i * 32) (drop (i * 32) names)) n → SlotName names i n
name_slot {names} {i} s h = slot_name names i s.there h

-- a name that is not in the set, and one that is
module _ (names : List ℕ) (set : ℕ → Bool) (i : ℕ) {b : Bool} (e : b ≡ set i) where
  none : b ≡ false → member names set i ≡ []
  unfolding member
  none f = rw (sym e ∙ f) refl

  one : b ≡ true → member names set i ≡ 32 ∷ name_at names i
  unfolding member
  one t = rw (sym e ∙ t) refl

  pub size_none : b ≡ false → Sized (member names set i) 33 0
  size_none f = record { is = sym (ap length (none f)); few = omega arith }

  pub size_one : {n : ℕ} → b ≡ true → SlotName names i n → Sized (member names set i) 33 (1 + n)
  size_one t s =
      record { is = omega (arith, ap length (one t), s.size); few = omega (arith, s.few) }

  pub member_none : {out : List ℕ} {at : ℕ} → b ≡ false → Put out at (member names set i) out at
  member_none f = rw (none f) put_none

  module _ {n : ℕ} (t : b ≡ true) (s : SlotName names i n) (out : List ℕ) {at : ℕ} where
    pub blank_fits : Room out at (member names set i) → at < length out
    blank_fits r = omega (arith, r, ap length (one t))

    module _ {out₁ : List ℕ} {p : ℕ} (blank : Put out at (32 ∷ []) out₁ p) where
      pub name_fits : Room out at (member names set i)
          → Room out₁ p (take (i * 32 + n - i * 32) (drop (i * 32) names))
      name_fits r =
          rw s.name (omega (arith, r, ap length (one t), blank.next, put_length blank))

      pub member_one : {out₂ : List ℕ} {q : ℕ}
          → Put out₁ p (take (i * 32 + n - i * 32) (drop (i * 32) names)) out₂ q
          → Put out at (member names set i) out₂ q
      member_one u = rw (one t) (put_then blank (rw s.name at u))
