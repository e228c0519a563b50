-- The two bytes of a mark, from the mark.
--   marks_name, marks_row, marks_end   the bytes of each kind
--   row_kind, row_long                 a row's time has four bytes or eight
--   letter_long, letter_short          which, by the second letter
use Rattle.std.specs.Prelude.{if◌then◌else◌}
use mathlib.Core.Path.{◌≡◌, refl, sym, subst}
use mathlib.Core.Bool.{Bool, true, false, ◌&&◌}
use mathlib.Core.Logic.{◌⊎◌, inl, inr, ⊎_elim}
use Prim.Native.Nat.{ℕ, ◌≤◌}
use native.Mathlib.Omega.{arith}
use lib.Dec.{eqb}
use borrow.Author.Tests.{eqb-true}
use Rattle.trace_format.specs.declared.Mark.{Mark}
use Rattle.trace_format.specs.declared.Mark.TheVariants.{Name, Row, End, Other}
use Rattle.trace_format.specs.Format.{row_letter}
use Rattle.trace_format.specs.Records.{mark_of}

Bytes : ℕ → ℕ → Mark → Type 0
Bytes a b Name = (a ≡ 78) × (b ≡ 77)
Bytes a b (Row w) = (a ≡ 82) × (b ≡ row_letter w) × ((w ≡ 4) ⊎ (w ≡ 8))
Bytes a b End = (a ≡ 69) × (b ≡ 78)
Bytes a b Other = Unit {0}

two : (a b x y : ℕ) → (eqb a x && eqb b y) ≡ true → (a ≡ x) × (b ≡ y)
two a b x y e = go (eqb a x) (eqb b y) refl refl e
  where
    go : (p q : Bool) → eqb a x ≡ p → eqb b y ≡ q → (p && q) ≡ true → (a ≡ x) × (b ≡ y)
    go true true f g h = (eqb-true a x f, eqb-true b y g)
    go true false f g h = let z : ◌≡◌ {A = ℕ} 0 1 = cc in absurd (omega arith)
    go false q f g h = let z : ◌≡◌ {A = ℕ} 0 1 = cc in absurd (omega arith)

module _ (a b : ℕ) where
  bytes : Bytes a b (mark_of a b)
  unfolding mark_of row_letter Bytes
  bytes = go _ _ _ _ refl refl refl refl
    where
      go :
          (n s l e : Bool) →
          (eqb a 78 && eqb b 77) ≡ n →
          (eqb a 82 && eqb b 87) ≡ s →
          (eqb a 82 && eqb b 76) ≡ l →
          (eqb a 69 && eqb b 78) ≡ e →
          Bytes a b (if n then Name else if s then Row 4 else if l then Row 8 else if e then End else Other)
      go true s l e p q u v = two a b 78 77 p
      go false true l e p q u v = let h = two a b 82 87 q in (h.0, h.1, inl refl)
      go false false true e p q u v = let h = two a b 82 76 u in (h.0, h.1, inr refl)
      go false false false true p q u v = two a b 69 78 v
      go false false false false p q u v = tt

  told : {m : Mark} → mark_of a b ≡ m → Bytes a b m
  told e = subst (λ (m : Mark). Bytes a b m) e bytes

  pub marks_name : mark_of a b ≡ Name → (a ≡ 78) × (b ≡ 77)
  unfolding Bytes
  marks_name e = told e

  pub marks_row : {w : ℕ} → mark_of a b ≡ Row w → (a ≡ 82) × (b ≡ row_letter w)
  unfolding Bytes
  marks_row e = let h = told e in (h.0, h.1)

  pub marks_end : mark_of a b ≡ End → (a ≡ 69) × (b ≡ 78)
  unfolding Bytes
  marks_end e = told e

  pub row_kind : {w : ℕ} → mark_of a b ≡ Row w → (w ≡ 4) ⊎ (w ≡ 8)
  unfolding Bytes
  row_kind e = (told e).2

  -- a row's second letter tells how many bytes its time has
  pub letter_long : {w : ℕ} → mark_of a b ≡ Row w → b ≡ 76 → 8 ≡ w
  unfolding row_letter
  letter_long e f =
      ⊎_elim (λ (h : _ ≡ 4). absurd (omega (arith, f, rw h at (marks_row e).1))) (λ h. sym h) (row_kind e)

  pub letter_short : {w : ℕ} → mark_of a b ≡ Row w → (b ≡ 76 → ⊥) → 4 ≡ w
  unfolding row_letter
  letter_short e f = ⊎_elim (λ h. sym h) (λ (h : _ ≡ 8). absurd (f (rw h at (marks_row e).1))) (row_kind e)

  pub row_long : {w : ℕ} → mark_of a b ≡ Row w → 4 ≤ w
  row_long e = ⊎_elim (λ f. omega arith) (λ f. omega arith) (row_kind e)
