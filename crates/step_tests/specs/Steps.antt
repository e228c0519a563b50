-- One step of one alternative, in memory.
--   step_at               step j of alternative t of the expression that ends at a place
--   Placing, Stepping, Put    what is asked, and what is written
--   in_turn, LeftAsked    what is asked for the steps of a left operand
--   Behind, Split        a step behind empty ones, and a step of an alternative that is put together of two
--   Fits, OnePut         one test
--   one_pin, PinFits, PinsFit, entries_at     the tests of a part's pins
use Rattle.std.specs.Prelude.{ℕ, ◌+◌, ◌<◌, ◌≤◌, ◌≡◌, Bool, true, false, List, [], ◌∷◌, ◌++◌, eqb, length, get_or, set, if◌then◌else◌}
use Rattle.std.proofs.lemmas.List.Edits.{sets}
use Rattle.alf.specs.Expressions.{name, stays}
use Rattle.alf.specs.Alternatives.{test, Step, Alternative, padded, alternatives, steps_of}
use Rattle.trees.specs.Parts.{vector_at}
use Rattle.alternatives.specs.declared.picking.How.{How}
use Rattle.alternatives.specs.declared.picking.How.TheVariants.{Left, Right, LeftFirst, RightFirst, Together}
use Rattle.alternatives.specs.Picks.{put}
use Rattle.acceptance.specs.Notes.{Noted}
use Rattle.acceptance.specs.Sizes.{alternative_at, Chosen, ShapingBy}
use Rattle.steady_pins.specs.Pinned.{pin_tests, by_places}
use Rattle.steady_pins.specs.Entries.{Entries}
use Rattle.step_tests.specs.OperandPlaces.{numbers, ends}

-- step j of alternative t of the expression that ends at `end`, with its pins, its operands as places; none where there
-- is no step j
abbrev pub step_at : List ℕ → List ℕ → ℕ → ℕ → ℕ → ℕ → Step
step_at pins tree names end t j =
    get_or (get_or (alternatives (by_places name pins end (vector_at tree names end))) t []) j []

-- what is asked: there is such an alternative, none is too long, the pins are those of a tree of at most 256 bytes, and
-- there is room for the tests of the step
pub record Placing (pins tree : List ℕ) (names end t j : ℕ) (edges operands : List ℕ) (from : ℕ) : Type 0 where
  pub chosen : Chosen tree names end t
  pub short : steps_of (vector_at tree names end) ≤ 64
  pub few : length tree ≤ 256
  pub long : length pins ≡ 8192
  pub edges_room : from + length (step_at pins tree names end t j) ≤ length edges
  pub operands_room : from + length (step_at pins tree names end t j) ≤ length operands

-- and the alternative has so many steps, and the parts are noted
pub record Stepping (pins notes tree : List ℕ) (names end t steps j : ℕ) (edges operands : List ℕ) (from : ℕ)
    : Type 0 where
  pub placing : Placing pins tree names end t j edges operands from
  pub counted : length (alternative_at name pins tree names end t) ≡ steps
  pub noted : Noted pins notes tree names end

-- whether one alternative follows the other; then the whole has the steps of both
unfoldable pub in_turn : How → Bool
in_turn Left = false
in_turn Right = false
in_turn LeftFirst = true
in_turn RightFirst = true
in_turn Together = false

pub record LeftAsked (pins notes tree : List ℕ) (names left i : ℕ) (how : How) (steps right : ℕ) : Type 0 where
  pub shaping : ShapingBy pins notes tree names left i
  pub short : steps_of (vector_at tree names left) ≤ 64
  pub both : in_turn how ≡ true → length (alternative_at name pins tree names left i) + right ≡ steps

-- the tests of a step from a place on, the place behind them, and the lists as they were before and behind
pub record Put (s : Step) (from : ℕ) (edges operands : List ℕ) (next : ℕ) (edges' operands' : List ℕ)
    : Type 0 where
  pub next_is : next ≡ from + length s
  pub edges_is : edges' ≡ sets edges from (numbers s)
  pub operands_is : operands' ≡ sets operands from (ends s)

-- step j of an alternative of n steps behind some empty ones is its own step r
pub record Behind (empty n j r : ℕ) : Type 0 where
  pub is : (x : Alternative) → length x ≡ n → get_or x r [] ≡ get_or (padded empty x) j []

-- step j of an alternative that is put together of two, of n and m steps, is step l of the left one and then step r of
-- the right one
pub record Split (how : How) (n m j l r : ℕ) : Type 0 where
  pub is : (x y : Alternative) → length x ≡ n → length y ≡ m
      → get_or (put how x y) j [] ≡ get_or x l [] ++ get_or y r []

-- one test: there is room for it, and its place fits; it is written, and the place behind it
pub record Fits (place : ℕ) (edges operands : List ℕ) (from : ℕ) : Type 0 where
  pub small : place < 65536
  pub edges_room : from < length edges
  pub operands_room : from < length operands

pub record OnePut (k place from : ℕ) (edges operands : List ℕ) (next : ℕ) (edges' operands' : List ℕ)
    : Type 0 where
  pub next_is : next ≡ from + 1
  pub edges_is : edges' ≡ set edges from k
  pub operands_is : operands' ≡ set operands from place

-- the test of a pin, none for 0: there is room for it; and for those of the first n entries of a part
unfoldable pub one_pin : ℕ → Step
one_pin pin = if eqb pin 0 then [] else test stays (name pin) ∷ []

pub record PinFits (pin : ℕ) (edges operands : List ℕ) (from : ℕ) : Type 0 where
  pub edges_room : from + length (one_pin pin) ≤ length edges
  pub operands_room : from + length (one_pin pin) ≤ length operands

pub record PinsFit (pins : List ℕ) (end n : ℕ) (edges operands : List ℕ) (from : ℕ) : Type 0 where
  pub entries : Entries pins end
  pub upto : n ≤ 32
  pub edges_room : from + length (pin_tests name pins n end) ≤ length edges
  pub operands_room : from + length (pin_tests name pins n end) ≤ length operands

-- all entries at the last of some steps, none at the others
unfoldable pub entries_at : ℕ → ℕ → ℕ
entries_at steps j = if eqb (j + 1) steps then 32 else 0
