-- A row's line: how long it is, and its parts.
--   at_size, nowhere_size, at_room, at_put, nowhere_room, nowhere_put    the third column, by its kind
--   line_size_lem, line_start                                                the line
use Rattle.std.specs.Prelude.{None, Some}
use Prim.Native.Nat.{ℕ, ◌+◌, ◌<◌}
use native.Mathlib.Omega.{arith}
use mathlib.Core.Path.{◌≡◌, refl}
use mathlib.Core.List.{List, [], ◌∷◌, ◌++◌}
use lib.ListN.{length, length-append}
use Rattle.basics.specs.Memory.{Put, Room}
use Rattle.basics.specs.Text.{bytes, joined}
use Rattle.basics.proofs.PartByPart.{Going, going_start}
use Rattle.alf.specs.Beginnings.{Began}
use Rattle.alf.specs.declared.Stamp.{Stamp}
use Rattle.figures.specs.Numbers.{decimal}
use Rattle.figures.specs.Inner.{Wide}
use Rattle.figures.proofs.Digits.{decimal_length}
use Rattle.listing.specs.Listing.{word}
use Rattle.listing.specs.Inner.{Sized}
use Rattle.began_lines.specs.BeganListing.{began_word, began_line}

-- the third column, where a time is given
module _ {b : Began} {t : Stamp} (e : b ≡ Some t) where
  pub at_size : {r : ℕ} → Wide t.0 r → Sized (began_word b) 20 r
  unfolding began_word
  at_size h = rw e (record { is = omega (arith, h.is, decimal_length t.0); few = h.few })

  pub at_room : (out : List ℕ) (at : ℕ) → Room out at (began_word b) → Room out at (decimal t.0)
  unfolding began_word
  at_room out at h = rw e at h

  pub at_put : {out out' : List ℕ} {at r : ℕ} → Put out at (decimal t.0) out' r → Put out at (began_word b) out' r
  unfolding began_word
  at_put h = rw e h

-- and where none is
module _ {b : Began} (e : b ≡ None) where
  pub nowhere_size : Sized (began_word b) 20 1
  unfolding began_word bytes
  nowhere_size = rw e (record { is = refl; few = omega arith })

  pub nowhere_room : (out : List ℕ) (at : ℕ) → Room out at (began_word b) → at < length out
  unfolding began_word bytes
  nowhere_room out at h = let r = rw e at h in omega arith

  pub nowhere_put : {out out' : List ℕ} {at r : ℕ} → Put out at (45 ∷ []) out' r → Put out at (began_word b) out' r
  unfolding began_word bytes
  nowhere_put h = rw e h

-- the line
pub line_size_lem : (time a : ℕ) (b : Began) {w s k : ℕ} → Wide time w → Sized (word a) 7 s → Sized (began_word b) 20 k
    → Sized (began_line time a b) 50 (w + s + k + 3)
unfolding began_line joined bytes
line_size_lem time a b h s k =
    record {
      is =
          omega (
            arith,
            h.is,
            s.is,
            k.is,
            decimal_length time,
            length-append (decimal time) (32 ∷ (word a ++ (32 ∷ (began_word b ++ (10 ∷ []))))),
            length-append (word a) (32 ∷ (began_word b ++ (10 ∷ []))),
            length-append (began_word b) (10 ∷ []),
          );
      few = omega (arith, h.few, s.few, k.few);
    }

pub line_start : (time a : ℕ) (b : Began) (out : List ℕ) (at : ℕ) → Room out at (began_line time a b)
    → Going out at (began_line time a b)
    (decimal time ∷ bytes " " ∷ word a ∷ bytes " " ∷ began_word b ∷ bytes "\n" ∷ []) out at
unfolding began_line joined
line_start time a b out at r = going_start _ refl r
