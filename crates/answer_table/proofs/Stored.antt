-- The entries of a table's part, read and written.
--   stored_at, stored_none          a window's entry; a window without an event has none
--   stored_same                     a part whose entries are as they were
--   row_first, row_next, row_last       the windows from one row on, entry after entry
--   part_first, part_next, part_last    all windows, row after row
use Prim.Native.Nat.{ℕ, ◌+◌, ◌-◌, ◌*◌, ◌<◌, ◌≤◌}
use native.Mathlib.Omega.{arith}
use mathlib.Core.Path.{◌≡◌, refl, sym, ◌∙◌}
use mathlib.Core.Logic.{◌⊎◌, inl, inr}
use mathlib.Core.List.{List}
use lib.ListN.{length, set, length-set}
use lib.Seq.{get_or-set_same, get_or-set_other}
use borrow.Author.Tests.{lt-ltb, le-ltb}
use Rattle.alf.specs.Windows.{Window}
use Rattle.basics.proofs.Bools.{below?, equal?}
use Rattle.answer_table.specs.Tables.{entry, stored, Row, Part}

module _ (t : List ℕ) (base a b : ℕ) where
  pub stored_at : a < b → entry t (base + a * 16 + (b - 1)) ≡ stored t base a b
  unfolding stored
  stored_at h = rw (lt-ltb _ _ h) refl

  pub stored_none : b ≤ a → stored t base a b ≡ 0
  unfolding stored
  stored_none h = rw (le-ltb _ _ h) refl

pub stored_same : (t u : List ℕ) (base a b : ℕ) → b ≤ 16
    → ((i : ℕ) → base ≤ i → i < base + 256 → entry u i ≡ entry t i) → stored u base a b ≡ stored t base a b
stored_same t u base a b l h = go (below? a b)
  where
    go : (a < b) ⊎ (b ≤ a) → stored u base a b ≡ stored t base a b
    go (inl k) =
        sym (stored_at u base a b k) ∙ h (base + a * 16 + (b - 1)) (omega arith) (omega arith) ∙ stored_at t base a b k
    go (inr k) = stored_none u base a b k ∙ sym (stored_none t base a b k)

-- the windows from row a on
module _ {W : Window} {base a : ℕ} where
  pub row_first : {t : List ℕ} → length t ≡ 65536 → Row W base a a t t
  row_first h =
      record { is = λ b l u. absurd (omega arith); below = λ i l. refl; above = λ i l. refl; long = h }

  pub row_last : {j n : ℕ} {t u : List ℕ} → Row W base a j t u → n ≤ j → Row W base a n t u
  row_last r h =
      record { is = λ b k o. r.is b k (omega arith); below = r.below; above = r.above; long = r.long }

  module _ {j v : ℕ} {t u : List ℕ} (r : Row W base a j t u) (l : a ≤ j) (m : j < 16) (room : base ≤ 65280)
      (e : v ≡ W a (j + 1)) where
    next : List ℕ
    next = set u (base + a * 16 + j) v

    last_entry : stored next base a (j + 1) ≡ W a (j + 1)
    unfolding next
    last_entry =
        let d : base + a * 16 + (j + 1 - 1) ≡ base + a * 16 + j = omega arith in
        let n = r.long in
        sym (stored_at (set u (base + a * 16 + j) v) base a (j + 1) (omega arith))
        ∙ rw d (get_or-set_same u (base + a * 16 + j) v 0 (omega arith) ∙ e)

    entry_before : (b : ℕ) → a < b → b ≤ j → stored next base a b ≡ W a b
    unfolding next
    entry_before b k o =
        sym (stored_at (set u (base + a * 16 + j) v) base a b k)
        ∙ get_or-set_other u (base + a * 16 + j) (base + a * 16 + (b - 1)) v 0 (λ d. omega arith)
        ∙ stored_at u base a b k ∙ r.is b k o

    each : (b : ℕ) → a < b → b ≤ j + 1 → (b ≡ j + 1) ⊎ (b ≡ j + 1 → ⊥) → stored next base a b ≡ W a b
    each b k o (inl d) = rw d last_entry
    each b k o (inr d) = entry_before b k (omega arith)

    pub row_next : Row W base a (j + 1) t (set u (base + a * 16 + j) v)
    unfolding next
    row_next =
        record {
          is = λ b k o. each b k o (equal? b (j + 1));
          below =
              λ i k. get_or-set_other u (base + a * 16 + j) i v 0 (λ d. omega arith)
              ∙ r.below i k;
          above =
              λ i k. get_or-set_other u (base + a * 16 + j) i v 0 (λ d. omega arith)
              ∙ r.above i k;
          long = length-set u (base + a * 16 + j) v ∙ r.long;
        }

-- all windows
module _ {W : Window} {base size : ℕ} where
  pub part_first : {t : List ℕ} → length t ≡ 65536 → Part W base size 0 t t
  part_first h =
      record { is = λ a b l k u. absurd (omega arith); below = λ i l. refl; above = λ i l. refl; long = h }

  pub part_last : {j n : ℕ} {t u : List ℕ} → Part W base size j t u → n ≤ j → Part W base size n t u
  part_last r h =
      record { is = λ a b k o m. r.is a b (omega arith) o m; below = r.below; above = r.above; long = r.long }

  module _ {R : Window} {a : ℕ} {t u v : List ℕ} (p : Part W base size a t u) (r : Row R base a size u v)
      (m : size ≤ 16) (l : a < size) (same : (b : ℕ) → a < b → b ≤ size → R a b ≡ W a b) where
    row_before : (x b : ℕ) → x < a → x < b → b ≤ size → stored v base x b ≡ W x b
    row_before x b k o n =
        sym (stored_at v base x b o) ∙ r.below (base + x * 16 + (b - 1)) (omega arith)
        ∙ stored_at u base x b o ∙ p.is x b k o n

    rows : (x b : ℕ) → x < a + 1 → x < b → b ≤ size → (x ≡ a) ⊎ (x ≡ a → ⊥) → stored v base x b ≡ W x b
    rows x b k o n (inl e) =
        let y : a < b = omega arith in rw e (r.is b y n ∙ same b y n)
    rows x b k o n (inr e) = row_before x b (omega arith) o n

    pub part_next : Part W base size (a + 1) t v
    part_next =
        record {
          is = λ x b k o n. rows x b k o n (equal? x a);
          below = λ i k. r.below i (omega arith) ∙ p.below i k;
          above = λ i k. r.above i (omega arith) ∙ p.above i k;
          long = r.long;
        }
