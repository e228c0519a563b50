-- The lines of a listing, row by row: how long they are, and how they are written.
--   lines_next, lines_none                     the lines from a row on
--   line_size_lem, Sizing, sizing_first, sizing_next, sizing_end           how long they are
--   line_start, rows_start, rows_going, rows_done, row_asked, row_put  how they are written
use Prim.Native.Nat.{ℕ, ◌+◌, ◌*◌, ◌<◌, ◌≤◌}
use native.Mathlib.Omega.{arith}
use native.Mathlib.Numerals.{add-one}
use mathlib.Core.Path.{◌≡◌, refl, sym, ap, ◌∙◌}
use mathlib.Core.List.{List, [], ◌∷◌, ◌++◌, append-nil}
use lib.ListN.{length, get_or, drop, length-append, drop_of_length-le}
use lib.Seq.{drop-cons}
use Rattle.basics.specs.Memory.{Put, Room}
use Rattle.basics.proofs.PartByPart.{Going, going_start, going_room, going_parts, going_end}
use Rattle.basics.specs.Text.{bytes, joined}
use Rattle.figures.specs.Numbers.{decimal}
use Rattle.figures.specs.Inner.{Wide}
use Rattle.figures.proofs.Digits.{decimal_length}
use Rattle.listing.specs.declared.lines.Column.{Column}
use Rattle.listing.specs.Listing.{word_of, highest, line, lines}
use Rattle.listing.specs.Inner.{Sized, Wording, Lining}

-- the lines from row i on
module _ (column : Column) (times codes : List ℕ) (i : ℕ) where
  pub lines_next : i < length times → i < length codes
      → lines column (drop i times) (drop i codes)
      ≡ line column (get_or times i 0) (get_or codes i 0) ++ lines column (drop (i + 1) times) (drop (i + 1) codes)
  unfolding lines
  lines_next h k = rw (add-one i, drop-cons times i 0 h, drop-cons codes i 0 k) refl

  pub lines_none : length times ≤ i → lines column (drop i times) (drop i codes) ≡ []
  unfolding lines
  lines_none h = rw (drop_of_length-le times h) refl

pub line_size_lem : (column : Column) (time a : ℕ) {w s : ℕ} → Wide time w → Sized (word_of column a) 7 s
    → Sized (line column time a) 29 (w + s + 2)
unfolding line joined bytes
line_size_lem column time a h k =
    record {
      is =
          omega (
            arith,
            h.is,
            k.is,
            decimal_length time,
            length-append (decimal time) (32 ∷ (word_of column a ++ (10 ∷ []))),
            length-append (word_of column a) (10 ∷ []),
          );
      few = omega (arith, h.few, k.few);
    }

-- of the lines, those of the first i rows have so many bytes
pub record Sizing (column : Column) (times codes : List ℕ) (size i : ℕ) : Type 0 where
  pub within : i ≤ length codes
  pub is : size + length (lines column (drop i times) (drop i codes)) ≡ length (lines column times codes)
  pub few : size ≤ 29 * i

module _ {column : Column} {times codes : List ℕ} where
  pub sizing_first : Sizing column times codes 0 0
  sizing_first = record { within = omega arith; is = omega arith; few = omega arith }

  module _ (same : length codes ≡ length times) {size i : ℕ} (g : Sizing column times codes size i) where
    pub sizing_next : {time a r : ℕ} → i < length codes → time ≡ get_or times i 0 → a ≡ get_or codes i 0
        → Sized (line column time a) 29 r → Sizing column times codes (size + r) (i + 1)
    sizing_next l e d s =
        let z = rw (e, d) at s.is in
        record {
          within = omega arith;
          is =
              omega (
                arith,
                g.is,
                z,
                ap length (lines_next column times codes i (omega arith) l),
                length-append (line column (get_or times i 0) (get_or codes i 0)) (lines column (drop (i + 1) times)
                    (drop (i + 1) codes)),
              );
          few = omega (arith, g.few, s.few);
        }

    pub sizing_end : length codes ≤ i → length codes ≤ 65535 → Sized (lines column times codes) 1900515 size
    sizing_end l f =
        record {
          is = omega (arith, g.is, ap length (lines_none column times codes i (omega arith)));
          few = omega (arith, g.few, g.within);
        }

-- a line's parts, of which none is written yet
pub line_start : (column : Column) (time a : ℕ) (out : List ℕ) (at : ℕ) → Room out at (line column time a)
    → Going out at (line column time a) (decimal time ∷ bytes " " ∷ word_of column a ∷ bytes "\n" ∷ []) out at
unfolding line joined
line_start column time a out at r = going_start _ refl r

-- the lines, row by row
module _ (column : Column) (times codes : List ℕ) {out : List ℕ} {at : ℕ} where
  pub rows_start : Lining column times codes out at
      → Going out at (lines column times codes) (lines column (drop 0 times) (drop 0 codes) ∷ []) out at
  rows_start h = going_start _ (sym (append-nil (lines column times codes))) h.room

  module _ (i : ℕ) (same : length codes ≡ length times) {w out' : List ℕ} {p : ℕ} where
    pub rows_going : i < length codes
        → Going out at w (lines column (drop i times) (drop i codes) ∷ []) out' p
        → Going out at w
        (line column (get_or times i 0) (get_or codes i 0)
        ∷ lines column (drop (i + 1) times) (drop (i + 1) codes) ∷ [])
        out' p
    rows_going l g =
        going_parts
        (append-nil _
        ∙ lines_next column times codes i (omega arith) l
        ∙ ap (λ (x : List ℕ). line column (get_or times i 0) (get_or codes i 0) ++ x) (sym (append-nil _)))
        g

    pub rows_done : length codes ≤ i → Going out at w (lines column (drop i times) (drop i codes) ∷ []) out' p
        → Put out at w out' p
    rows_done l g = going_end (going_parts (append-nil _ ∙ lines_none column times codes i (omega arith)) g)

pub row_asked : {column : Column} {times codes out w out' : List ℕ} {at p i time : ℕ} {left : List (List ℕ)}
    → Lining column times codes out at
    → i < length codes → time ≡ get_or times i 0
    → Going out at w (line column (get_or times i 0) (get_or codes i 0) ∷ left) out' p
    → Wording (highest column) (get_or codes i 0) out' p (line column time (get_or codes i 0))
row_asked {i = i} h l e g = rw e (record { known = h.listable.good i l; room = going_room g })

pub row_put : (column : Column) (times : List ℕ) (i a : ℕ) {time : ℕ} {out out' : List ℕ} {p q : ℕ}
    → time ≡ get_or times i 0
    → Put out p (line column time a) out' q → Put out p (line column (get_or times i 0) a) out' q
row_put column times i a e h = rw e at h
