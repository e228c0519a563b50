-- What `write_alternatives` comes to: 18 and 12 for the names, 10 for a tree that acceptance's `Accepted` refuses, 9
-- where the text is longer than the lent buffer; else the text stands at the buffer's front. Besides, how many tests
-- are shown as `...`. The expression is as the rules read it (document 02, [2]): with its steady pins, or without.
--   own_at, tally          the alternatives of a tree's expression; how many of their tests have no text
--   listing_at             the alternatives of a tree's expression, and their text
--   order                 the refusals in their order
--   WritesAlternatives    what the call comes to
--   DeliversLines         the same behind the checks
use Rattle.std.specs.Prelude.{Err, Ok}
use Rattle.std.specs.Prelude.{ℕ, ◌≡◌, List, [], ◌∷◌, length}
use Rattle.alf.specs.Names.{names_in}
use Rattle.basics.specs.Refusing.{Outcome}
use Rattle.alf.specs.declared.Rules.{Rules}
use Rattle.alf.specs.declared.Sort.TheVariants.{Vector}
use Rattle.alf.specs.Alternatives.{Alternative, alternatives}
use Rattle.alf.specs.Steady.{meant}
use Rattle.alf.specs.Refusals.{Order, check, bad_lists, bad_slot, cannot_be, no_room, Comes}
use Rattle.names.specs.Check.{Slots}
use Rattle.trees.specs.Parts.{vector_at}
use Rattle.acceptance.specs.Accepted.{Accepted}
use Rattle.basics.specs.Memory.{after, front}
use Rattle.figures.specs.Delivering.{Delivers}
use Rattle.alternative_listings.specs.declared.Lines.{Lines}
use Rattle.alternative_lines.specs.Listing.{listing}
use Rattle.alternative_texts.specs.Texts.{untold}

-- the alternatives of the expression that a tree is, as the rules read it, and their text
abbrev pub own_at : Rules → List ℕ → List ℕ → List Alternative
own_at ρ names tree = alternatives (meant ρ (vector_at tree (names_in names) (length tree)))

unfoldable pub listing_at : Rules → List ℕ → List ℕ → List ℕ
listing_at ρ names tree = listing names (own_at ρ names tree)

-- 18, 12, 10, 9
unfoldable pub order : Rules → List ℕ → List ℕ → ℕ → Order
order ρ names tree room =
    check 18 (bad_lists (Slots names)) ∷
    check 12 (bad_slot names) ∷
    check 10 (cannot_be (Accepted ρ (names_in names) Vector tree → ⊥)) ∷
    check 9 (no_room (length (listing_at ρ names tree)) room) ∷
    []

-- a count where it is done; none where it is refused
unfoldable pub tally : ℕ → Outcome → ℕ
tally n (Ok k) = n
tally n (Err r) = 0

pub record WritesAlternatives (ρ : Rules) (names tree out out' : List ℕ) (r : Lines) : Type 0 where
  pub outcome : Comes (order ρ names tree (length out)) (λ k. k ≡ length (listing_at ρ names tree)) r.written
  pub memory : out' ≡ after (front (listing_at ρ names tree) out) out r.written
  pub untold_are : r.untold ≡ tally (untold names (own_at ρ names tree)) r.written

-- The end of the call, where the text is w and n tests are shown as `...`: 9, or done.
pub record DeliversLines (w : List ℕ) (n : ℕ) (out out' : List ℕ) (r : Lines) : Type 0 where
  pub delivers : Delivers w out out' r.written
  pub untold_are : r.untold ≡ tally n r.written
