-- Listings of what a tree is, on a trace: of a pattern its answers, of a boolean expression its values; or refused with
-- 18, 15, 9.
--   value_listing               the listing of a boolean expression; a pattern's is tree_listings' pattern_listing
--   rows_order                  the refusals of a trace, in their order
--   RowsText                   what a listing of the rows comes to
--   listing_of, tree_listing     the listing of an expression of either sort; of that which a tree is
use Rattle.std.specs.Prelude.{ℕ, ◌≡◌, List, [], ◌∷◌, length}
use Rattle.basics.specs.Refusing.{Outcome}
use Rattle.basics.specs.Words.{listed}
use Rattle.basics.specs.Memory.{after, front}
use Rattle.alf.specs.declared.Rules.{Rules}
use Rattle.alf.specs.Expressions.{Boolean, Expression, boolean, vector}
use Rattle.alf.specs.Values.{value_at}
use Rattle.alf.specs.Refusals.{Order, check, bad_lists, bad_code, no_room, Comes}
use Rattle.alf.specs.Steady.{meant}
use Rattle.trees.specs.Parts.{expression_at}
use Rattle.judging.specs.Orders.{Rows}
use Rattle.listing.specs.Listing.{values_listing}
use Rattle.tree_listings.specs.TreeTexts.{pattern_listing}

-- of a boolean expression, its values at all rows of a trace of k names
unfoldable pub value_listing : Rules → ℕ → List ℕ → List ℕ → Boolean → List ℕ
value_listing ρ k times states c = values_listing times (listed 0 (length times) (value_at ρ k states c))

-- 18 and 15 of a trace
abbrev pub rows_order : ℕ → List ℕ → List ℕ → Order → Order
rows_order k times states rest =
    check 18 (bad_lists (Rows k (length times) (length states))) ∷ check 15 (bad_code states) ∷ rest

-- a text for the rows of a trace; 18, 15, 9
pub record RowsText (k : ℕ) (times states text out out' : List ℕ) (r : Outcome) : Type 0 where
  pub outcome :
      Comes (rows_order k times states (check 9 (no_room (length text) (length out)) ∷ []))
      (λ m. m ≡ length text) r
  pub memory : out' ≡ after (front text out) out r

-- of an expression of either sort, a pattern as the rules read it; of that which a tree is
unfoldable pub listing_of : Rules → ℕ → List ℕ → List ℕ → Expression → List ℕ
listing_of ρ k times states (boolean c) = value_listing ρ k times states c
listing_of ρ k times states (vector p) = pattern_listing ρ k times states (meant ρ p)

abbrev pub tree_listing : Rules → ℕ → List ℕ → List ℕ → List ℕ → List ℕ
tree_listing ρ k times states tree = listing_of ρ k times states (expression_at tree k (length tree))
