-- What the functions inside give, besides listing's own.
--   Tallied    how many answers are yes, no, unknown
use Rattle.std.specs.Prelude.{ℕ, ◌≡◌, List}
use Rattle.column_listings.specs.declared.totals.Tally.{Tally}
use Rattle.listing.specs.Listing.{how_many}

pub record Tallied (answers : List ℕ) (r : Tally) : Type 0 where
  pub yeses : r.yes ≡ how_many answers 1
  pub noes : r.no ≡ how_many answers 0
  pub unknowns : r.unknown ≡ how_many answers 2
