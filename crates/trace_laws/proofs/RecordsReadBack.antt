-- A record that stands in a file, read back: its mark, what it holds, and that it is whole.
--   name_read, row_read, end_read    the three kinds of records
--   split                            records one behind the other, parted at one of them
use mathlib.Core.Path.{◌≡◌, refl, sym, ap, ◌∙◌}
use mathlib.Core.Logic.{◌⊎◌, inl, inr}
use mathlib.Core.Bool.{Bool, true, false}
use mathlib.Core.List.{List, [], ◌∷◌, ◌++◌, append_assoc, append-nil}
use Prim.Native.Nat.{ℕ, zero, suc, ◌+◌, ◌^◌, ◌≤◌, ◌<◌}
use native.Mathlib.Omega.{arith}
use native.Mathlib.Nat.{add-zero}
use lib.Dec.{eqb}
use lib.ListN.{length, get_or, take, drop, length-append}
use lib.Seq.{get_or-append-add, drop-append-add, drop-drop, drop_at, take-append_seam}
use borrow.Author.Tests.{eqb-true, eqb-false}
use Rattle.trace_format.specs.declared.Mark.TheVariants.{Name, Row, End}
use Rattle.trace_format.specs.Format.{bytes_of, Fits, row_letter, name_record, row_record, end_record}
use Rattle.trace_format.specs.Records.{mark_of, mark_at_lem, number_at}
use Rattle.trace_format.proofs.Numbers.{bytes_length, number_read}

-- records one behind the other
pub record Parted (whole front part : List ℕ) : Type 0 where
  pub rest : List ℕ
  pub is : whole ≡ front ++ (part ++ rest)

pub split :
    (all each : ℕ → List ℕ) →
    ((k : ℕ) → all (suc k) ≡ all k ++ each k) →
    (j k : ℕ) →
    j < k →
    (tail : List ℕ) →
    Parted (all k ++ tail) (all j) (each j)
split all each step j zero h tail = absurd (omega arith)
split all each step j (suc k) h tail = go (eqb j k) refl (λ l. split all each step j k l (each k ++ tail))
  where
    next : all (suc k) ++ tail ≡ all k ++ (each k ++ tail)
    next = ap (λ (l : List ℕ). l ++ tail) (step k) ∙ append_assoc (all k) (each k) tail

    go :
        (b : Bool) →
        eqb j k ≡ b →
        (j < k → Parted (all k ++ (each k ++ tail)) (all j) (each j)) →
        Parted (all (suc k) ++ tail) (all j) (each j)
    go true e ih = record { rest = tail; is = rw (eqb-true j k e) next }
    go false e ih =
        let p = ih (omega (arith, eqb-false j k e)) in
        record { rest = p.rest; is = next ∙ p.is }

module _ (front l : List ℕ) where
  byte : (i : ℕ) → get_or (front ++ l) (length front + i) 0 ≡ get_or l i 0
  byte i = get_or-append-add front l i 0

  byte₀ : get_or (front ++ l) (length front) 0 ≡ get_or l 0 0
  byte₀ = rw add-zero at (byte 0)

pub record NameRead (file : List ℕ) (p : ℕ) (x : List ℕ) : Type 0 where
  pub mark : mark_at_lem file p ≡ Name
  pub size : get_or file (p + 2) 0 ≡ length x
  pub name : take (length x) (drop (p + 3) file) ≡ x
  pub fits : p + 3 + length x ≤ length file

pub name_read : (front x rest : List ℕ) → NameRead (front ++ (name_record x ++ rest)) (length front) x
unfolding name_record mark_of
name_read front x rest =
    let l : List ℕ = 78 ∷ 77 ∷ length x ∷ (x ++ rest) in
    record {
      mark = rw (byte₀ front l, byte front l 1);
      size = byte front l 2;
      name = rw (drop-append-add front l 3) (take-append_seam x rest);
      fits = rw (length-append front l, length-append x rest) (omega arith);
    }

pub record RowRead (file : List ℕ) (p w t : ℕ) (codes : List ℕ) : Type 0 where
  pub mark : mark_at_lem file p ≡ Row w
  pub time : number_at w file (p + 2) ≡ t
  pub held : take (length codes) (drop (p + 2 + w) file) ≡ codes
  pub fits : p + 2 + w + length codes ≤ length file

letter_mark : {w : ℕ} → (w ≡ 4) ⊎ (w ≡ 8) → mark_of 82 (row_letter w) ≡ Row w
unfolding mark_of row_letter
letter_mark (inl e) = rw e
letter_mark (inr e) = rw e

pub row_read :
    (front : List ℕ) (w t : ℕ) (codes rest : List ℕ) →
    Fits w t →
    RowRead (front ++ (row_record w t codes ++ rest)) (length front) w t codes
unfolding row_record
row_read front w t codes rest f =
    let long = bytes_length w t in
    let tail : List ℕ = (bytes_of w t ++ codes) ++ rest in
    let l : List ℕ = 82 ∷ row_letter w ∷ tail in
    let e : tail ≡ bytes_of w t ++ (codes ++ rest) = append_assoc (bytes_of w t) codes rest in
    let timed : drop (length front + 2) (front ++ l) ≡ bytes_of w t ++ (codes ++ rest) =
    drop-append-add front l 2 ∙ e
    in
    let coded : drop (length front + 2 + w) (front ++ l) ≡ codes ++ rest =
    sym (drop-drop w (length front + 2) (front ++ l)) ∙ ap (drop w) timed
    ∙ drop_at (bytes_of w t) (codes ++ rest) w long
    in
    record {
      mark = rw (byte₀ front l, byte front l 1) (letter_mark f.kind);
      time = number_read (front ++ l) w t (length front + 2) (codes ++ rest) f.small timed;
      held = rw coded (take-append_seam codes rest);
      fits =
          rw (length-append front l, e, length-append (bytes_of w t) (codes ++ rest), length-append codes rest, long)
          (omega arith);
    }

pub record EndRead (file : List ℕ) (p n : ℕ) : Type 0 where
  pub mark : mark_at_lem file p ≡ End
  pub counted : number_at 4 file (p + 2) ≡ n
  pub last : p + 6 ≡ length file

pub end_read : (front : List ℕ) (n : ℕ) → n < 2 ^ 32 → EndRead (front ++ end_record n) (length front) n
unfolding end_record mark_of
end_read front n h =
    let l : List ℕ = 69 ∷ 78 ∷ bytes_of 4 n in
    record {
      mark = rw (byte₀ front l, byte front l 1);
      counted =
          number_read (front ++ l) 4 n (length front + 2) [] (omega arith)
          (drop-append-add front l 2 ∙ sym (append-nil (bytes_of 4 n)));
      last = rw (length-append front l, bytes_length 4 n) (omega arith);
    }
