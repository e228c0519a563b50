-- The parts of a whole listing by lists of alternatives, and its length.
--   last_of, whole_size, whole_start
use Prim.Native.Nat.{ℕ, ◌+◌, ◌≤◌}
use native.Mathlib.Omega.{arith}
use mathlib.Core.Path.{◌≡◌, refl, ap}
use mathlib.Core.List.{List, [], ◌∷◌, ◌++◌, append-nil}
use lib.ListN.{length, length-append}
use Rattle.basics.specs.Text.{bytes, joined}
use Rattle.basics.proofs.PartByPart.{Going, going_start}
use Rattle.alf.specs.Expressions.{Boolean}
use Rattle.alf.specs.Alternatives.{Alternative}
use Rattle.listing.specs.Listing.{last_line}
use Rattle.listing.specs.Inner.{Sized}
use Rattle.began_lines.specs.BeganListing.{began_lines, began_listing}
use Rattle.began_listings.specs.declared.rows.Sums.{Sums}
use Rattle.began_listings.specs.Inner.{rows_text, listing_by, Measured}

-- the line of the totals
abbrev pub last_of : Sums → List ℕ
last_of m = last_line m.yes m.no m.unknown

module _ (st : Boolean → ℕ → ℕ) (times : List ℕ) (xs : List Alternative) {m : Sums}
    (h : Measured st times xs m (length times)) where
  parts : listing_by st times xs ≡ bytes "time answer began\n" ++ (rows_text st times xs ++ (last_of m ++ []))
  unfolding began_listing joined
  parts = rw (h.yeses, h.noes, h.unknowns) refl

  rows_size_lem : m.size ≡ length (rows_text st times xs)
  unfolding began_lines
  rows_size_lem = h.bytes

  pub whole_size : {k : ℕ} → Sized (last_of m) 78 k → m.size + k + 18 ≡ length (listing_by st times xs)
  unfolding bytes
  whole_size k =
      omega (
        arith,
        rows_size_lem,
        k.is,
        ap length parts,
        length-append (rows_text st times xs) (last_of m ++ []),
        ap length (append-nil (last_of m)),
      )

  pub whole_start : (out : List ℕ) {size : ℕ} → size ≡ length (listing_by st times xs) → size ≤ length out
      → Going out 0 (listing_by st times xs)
      (bytes "time answer began\n" ∷ rows_text st times xs ∷ last_of m ∷ []) out 0
  whole_start out e h = going_start _ parts (omega (arith, e))
