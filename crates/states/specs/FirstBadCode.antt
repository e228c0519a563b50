-- Refusal 15 of a list of states (alf/specs/Refusals, `bad_code`): where the first code above 7 stands.
--   FirstBad     that place, or the length where there is none
--   Bounds, BoundsTo     a bound of all entries; of the first ones
--   Codes        each entry is the code of a state
use Rattle.std.specs.Prelude.{ℕ, ◌<◌, ◌≤◌, List, length, get_or}

-- r is the first such place, or the length where there is none
pub record FirstBad (states : List ℕ) (r : ℕ) : Type 0 where
  pub within : r ≤ length states
  pub before : (i : ℕ) → i < r → get_or states i 0 < 8
  pub there : r < length states → 7 < get_or states r 0

-- none of them is above r
pub record Bounds (states : List ℕ) (r : ℕ) : Type 0 where
  pub all : (i : ℕ) → i < length states → get_or states i 0 ≤ r

-- none of the first n
pub record BoundsTo (states : List ℕ) (n r : ℕ) : Type 0 where
  pub all : (i : ℕ) → i < n → get_or states i 0 ≤ r

-- each entry is the code of a state
abbrev pub Codes : List ℕ → Type 0
Codes l = (i : ℕ) → i < length l → get_or l i 0 < 8
