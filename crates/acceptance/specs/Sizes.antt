-- Document 01, limit 8, for trees: the size of a vector expression in alternatives, steps and tests.
--   Counts, Small                     numbers that are counted no further than 65
--   alternative_at, Chosen, Shaping    one alternative, and what is asked of it; ShapingBy with what is noted
--   PartAt                            the operand of `|` that an alternative is from
--   Shaped, ShapedAt                  its numbers of steps and tests
--   Held, Combined, WithPins          those of one under a condition, of one that is put together of two, with pins
--   measured, PinnedTree, MeasuredAt  the size, or that it is over; of a tree with its pins
use Rattle.std.specs.Prelude.{None, Option, Some}
use Rattle.acceptance.specs.declared.sizes.Size.{Size}
use Rattle.std.specs.Prelude.{ℕ, ◌+◌, ◌-◌, ◌<◌, ◌≤◌, min, ◌≡◌, List, [], length, get_or, if◌then◌else◌}
use Rattle.alf.specs.Expressions.{Boolean, Vector}
use Rattle.alf.specs.Alternatives.{Alternative, conditioned, alternatives, tests}
use Rattle.alf.specs.Alternatives.{number_of_alternatives, steps_of, tests_of, over_limit}
use Rattle.alternatives.specs.declared.picking.How.{How}
use Rattle.trees.specs.Parts.{EndsVector, vector_at}
use Rattle.alternatives.specs.Picks.{put}
use Rattle.steady_pins.specs.Pinned.{by_places}
use Rattle.acceptance.specs.Notes.{Noted}

-- the size, or none: over limit 8
abbrev pub Measured : Type 0
Measured = Option Size

-- what is asked: byte b is an operator of two vectors, and the numbers are counted no further than 65
pub record Counts (b n m : ℕ) : Type 0 where
  pub joins : 50 ≤ b
  pub no_more : b < 56
  pub left : n ≤ 65
  pub right : m ≤ 65

-- alternative t of the vector expression that ends at `end`, with its pins, its operands as they are said to be
abbrev pub alternative_at : (ℕ → Boolean) → List ℕ → List ℕ → ℕ → ℕ → ℕ → Alternative
alternative_at operand pins tree names end t =
    get_or (alternatives (by_places operand pins end (vector_at tree names end))) t []

-- there is such a one, and the number of alternatives is within the limit
pub record Chosen (tree : List ℕ) (names end t : ℕ) : Type 0 where
  pub ends : EndsVector tree names end
  pub there : t < number_of_alternatives (vector_at tree names end)
  pub few : number_of_alternatives (vector_at tree names end) ≤ 64

-- and the pins are those of a tree of at most 256 bytes
pub record Shaping (pins tree : List ℕ) (names end t : ℕ) : Type 0 where
  pub chosen : Chosen tree names end t
  pub small : end ≤ 256
  pub long : length pins ≡ 8192

-- and what is noted for the parts
pub record ShapingBy (pins notes tree : List ℕ) (names end t : ℕ) : Type 0 where
  pub shaping : Shaping pins tree names end t
  pub noted : Noted pins notes tree names end

-- of P | Q, which end at `left` and `right`, alternative t is alternative i of the operand that ends at `part`
pub data PartAt (left right n t part i : ℕ) : Type 0 where
  from_left : t < n → part ≡ left → i ≡ t → PartAt left right n t part i
  from_right : n ≤ t → part ≡ right → i ≡ t - n → PartAt left right n t part i

-- the steps and the tests of an alternative; 65 stands for more than 64
pub record Shaped (x : Alternative) (steps tested : ℕ) : Type 0 where
  pub steps_is : steps ≡ min 65 (length x)
  pub tests_is : tested ≡ min 65 (tests x)

-- those of alternative t, whatever its operands are
pub record ShapedAt (pins tree : List ℕ) (names end t steps tested : ℕ) : Type 0 where
  pub given : (operand : ℕ → Boolean) → Shaped (alternative_at operand pins tree names end t) steps tested

-- the same of an alternative under a condition, and of one that is put together of two
pub record Held (steps tested steps' tested' : ℕ) : Type 0 where
  pub given : (c : Boolean) (x : Alternative) → Shaped x steps tested → Shaped (conditioned c x) steps' tested'

pub record Combined (how : How) (steps tested steps' tested' steps'' tested'' : ℕ) : Type 0 where
  pub given : (x y : Alternative) → Shaped x steps tested → Shaped y steps' tested'
      → Shaped (put how x y) steps'' tested''

-- n tests more, and no step
pub record WithPins (steps tested n steps' tested' : ℕ) : Type 0 where
  pub steps_is : steps' ≡ steps
  pub tests_is : tested' ≡ min 65 (tested + n)

-- numbers that are counted no further than 65
pub record Small (x y : ℕ) : Type 0 where
  pub first : x ≤ 65
  pub second : y ≤ 65

-- the size of a vector expression, or that it is over limit 8
unfoldable pub measured : Vector → Measured
measured p =
    if over_limit (alternatives p) then None
    else Some (record { alternatives = number_of_alternatives p; steps = steps_of p; tests = tests_of p })

-- a tree of at most 256 bytes with its pins, and its size, whatever its operands are
pub record PinnedTree (pins tree : List ℕ) (names end : ℕ) : Type 0 where
  pub ends : EndsVector tree names end
  pub small : end ≤ 256
  pub long : length pins ≡ 8192

pub record MeasuredAt (pins tree : List ℕ) (names end : ℕ) (r : Measured) : Type 0 where
  pub given : (operand : ℕ → Boolean) → r ≡ measured (by_places operand pins end (vector_at tree names end))
