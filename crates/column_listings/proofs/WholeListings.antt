-- The parts of a whole listing, and its length.
--   listing_size, listing_start    of answers: the heading, the lines, the totals
--   last_of                         the line of the totals
--   values_size, values_start      of values: the heading, the lines
use Prim.Native.Nat.{ℕ, ◌+◌, ◌≤◌}
use native.Mathlib.Omega.{arith}
use mathlib.Core.Path.{◌≡◌, refl, ap}
use mathlib.Core.List.{List, [], ◌∷◌, ◌++◌, append-nil}
use lib.ListN.{length, length-append}
use Rattle.basics.proofs.PartByPart.{Going, going_start}
use Rattle.basics.specs.Text.{bytes, joined}
use Rattle.listing.specs.declared.lines.Column.TheVariants.{Answers, Values}
use Rattle.column_listings.specs.declared.totals.Tally.{Tally}
use Rattle.listing.specs.Listing.{lines, last_line, listing, values_listing}
use Rattle.listing.specs.Inner.{Sized}
use Rattle.column_listings.specs.Inner.{Tallied}

-- the line of the totals
abbrev pub last_of : Tally → List ℕ
last_of t = last_line t.yes t.no t.unknown

module _ (times answers : List ℕ) {t : Tally} (h : Tallied answers t) where
  parts : listing times answers ≡ bytes "time answer\n" ++ (lines Answers times answers ++ (last_of t ++ []))
  unfolding listing joined
  parts = rw (h.yeses, h.noes, h.unknowns) refl

  pub listing_size : {m k : ℕ} → Sized (lines Answers times answers) 1900515 m → Sized (last_of t) 78 k
      → m + k + 12 ≡ length (listing times answers)
  unfolding bytes
  listing_size m k =
      omega (
        arith,
        m.is,
        k.is,
        ap length parts,
        length-append (lines Answers times answers) (last_of t ++ []),
        ap length (append-nil (last_of t)),
      )

  pub listing_start : (out : List ℕ) {size : ℕ} → size ≡ length (listing times answers) → size ≤ length out
      → Going out 0 (listing times answers)
      (bytes "time answer\n" ∷ lines Answers times answers ∷ last_of t ∷ []) out 0
  listing_start out e h = going_start _ parts (omega (arith, e))

-- a listing of values: the heading, the lines
module _ (times values : List ℕ) where
  pub values_size : {m : ℕ} → Sized (lines Values times values) 1900515 m
      → m + 11 ≡ length (values_listing times values)
  unfolding values_listing joined bytes
  values_size h = omega (arith, h.is, ap length (append-nil (lines Values times values)))

  pub values_start : (out : List ℕ) {size : ℕ} → size ≡ length (values_listing times values)
      → size ≤ length out
      → Going out 0 (values_listing times values) (bytes "time value\n" ∷ lines Values times values ∷ []) out 0
  unfolding values_listing joined
  values_start out e h = going_start _ refl (omega (arith, e))
