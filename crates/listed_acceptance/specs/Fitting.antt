-- Whether alternatives handed in are accepted, as a call by itself: done with how many they are, or refused with 18 or
-- 10.
--   fits_order     the refusals in their order
--   ListedFits    what the call comes to
use Rattle.std.specs.Prelude.{ℕ, ◌≡◌, List, [], length}
use Rattle.basics.specs.Refusing.{Outcome}
use Rattle.alf.specs.Refusals.{Order, NameCount, Comes}
use Rattle.judging.specs.Orders.{order}
use Rattle.listed_acceptance.specs.Lists.{AcceptedAlternatives}

module _ (names : ℕ) (tree steps tests edges operands : List ℕ) where
  abbrev pub fits_order : Order
  fits_order = order (NameCount names) (AcceptedAlternatives names tree steps tests edges operands) []

  pub record ListedFits (r : Outcome) : Type 0 where
    pub comes : Comes fits_order (λ k. k ≡ length steps) r
