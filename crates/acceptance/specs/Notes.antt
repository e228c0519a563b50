-- What is noted for the parts of a tree, in three rows of 256 bytes: for the part that ends at e its number of
-- alternatives at e - 1, where it starts at 255 + e, and its number of pins at 511 + e.
--   NotedStarts, NotedCounts, NotedPins, Noted    a row, or all of them, is noted for the ends up to a place
--   Noting, StartBy, CountBy                      what is asked for the next end, and what is found for it
use Rattle.std.specs.Prelude.{ℕ, ◌+◌, ◌-◌, ◌<◌, ◌≤◌, min, ◌≡◌, List, length, get_or}
use Rattle.alf.specs.Alternatives.{number_of_alternatives}
use Rattle.trees.specs.Parts.{Ends, EndsVector, vector_at, Start}
use Rattle.steady_pins.specs.Entries.{PinNumber}

-- what stands where no part ends is a place before, too
pub record NotedStarts (notes tree : List ℕ) (names end : ℕ) : Type 0 where
  pub long : length notes ≡ 768
  pub small : end ≤ 256
  pub before : (e : ℕ) → 0 < e → e ≤ end → get_or notes (255 + e) 0 < e
  pub starts : (e : ℕ) → e ≤ end → Ends tree names e → Start tree names e (get_or notes (255 + e) 0)

-- counted no further than 65
pub record NotedCounts (notes tree : List ℕ) (names end : ℕ) : Type 0 where
  pub long : length notes ≡ 768
  pub small : end ≤ 256
  pub few : (e : ℕ) → 0 < e → e ≤ end → get_or notes (e - 1) 0 ≤ 65
  pub counts : (e : ℕ) → e ≤ end → EndsVector tree names e
      → get_or notes (e - 1) 0 ≡ min 65 (number_of_alternatives (vector_at tree names e))

pub record NotedPins (pins notes : List ℕ) (end : ℕ) : Type 0 where
  pub long : length notes ≡ 768
  pub small : end ≤ 256
  pub are : (e : ℕ) → 0 < e → e ≤ end → PinNumber pins e (get_or notes (511 + e) 0)

pub record Noted (pins notes tree : List ℕ) (names end : ℕ) : Type 0 where
  pub starts : NotedStarts notes tree names end
  pub counts : NotedCounts notes tree names end
  pub pinned : NotedPins pins notes end

-- the ends before `end` are noted
pub record Noting (notes tree : List ℕ) (names end : ℕ) : Type 0 where
  pub some : 0 < end
  pub within : end ≤ length tree
  pub fits : end ≤ 256
  pub starts : NotedStarts notes tree names (end - 1)
  pub counts : NotedCounts notes tree names (end - 1)

-- what is found for a part that ends at `end`, if one does
pub record StartBy (tree : List ℕ) (names end from : ℕ) : Type 0 where
  pub before : from < end
  pub given : Ends tree names end → Start tree names end from

pub record CountBy (tree : List ℕ) (names end n : ℕ) : Type 0 where
  pub few : n ≤ 65
  pub given : EndsVector tree names end → n ≡ min 65 (number_of_alternatives (vector_at tree names end))
