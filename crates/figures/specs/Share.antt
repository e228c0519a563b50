-- The share of all events: yeses / (n-1), rounded half up to six decimals; `-` where n = 1, which has no event.
--   millionths    rounded half up
--   with_point     with a point before the last six digits
--   share         the text
-- That this is rounding half up is a law.
use Rattle.std.specs.Prelude.{ℕ, ◌+◌, ◌-◌, ◌*◌, ◌/◌, List, [], ◌∷◌, ◌++◌, eqb, if◌then◌else◌}
use Rattle.figures.specs.Numbers.{digits, decimal}

-- yeses / events in millionths, and a half more, rounded down
unfoldable pub millionths : ℕ → ℕ → ℕ
millionths yeses events = (2 * yeses * 1000000 + events) / (2 * events)

-- millionths with a point (46) before the last six digits
unfoldable pub with_point : ℕ → List ℕ
with_point m = decimal (m / 1000000) ++ (46 ∷ digits 6 m)

-- of so many yeses among the events of n rows; 45 is `-`
unfoldable pub share : ℕ → ℕ → List ℕ
share yeses n = if eqb (n - 1) 0 then 45 ∷ [] else with_point (millionths yeses (n - 1))
