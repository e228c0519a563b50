-- What the call promises that lists values: the listing at the front of the lent buffer, with its length, or a refusal:
-- 18, 15 for a value that is no state, 9. The listing of a pattern's answers is a call of tree_listings.
--   list_order     the refusals, in their order
--   ValuesText    of an expression's values: outcome and memory
use Rattle.std.specs.Prelude.{ℕ, ◌≡◌, List, ◌∷◌, length}
use Rattle.basics.specs.Refusing.{Outcome}
use Rattle.basics.specs.Memory.{after, front}
use Rattle.alf.specs.Refusals.{Order, check, bad_lists, bad_code, Comes}
use Rattle.figures.specs.Delivering.{line_order}
use Rattle.listing.specs.Listing.{Lists, values_listing}

-- 18, 15, 9
abbrev pub list_order : List ℕ → List ℕ → ℕ → Order
list_order times values room =
    check 18 (bad_lists (Lists (length times) (length values)))
    ∷ check 15 (bad_code values)
    ∷ line_order (values_listing times values) room

pub record ValuesText (times values out out' : List ℕ) (r : Outcome) : Type 0 where
  pub outcome : Comes (list_order times values (length out)) (λ k. k ≡ length (values_listing times values)) r
  pub memory : out' ≡ after (front (values_listing times values) out) out r
