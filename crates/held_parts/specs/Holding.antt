-- The pins of an expression, in its part of the table: the windows that end at a row where a pin moves answer no.
--   Cleared                      the entries of some windows are cleared
--   ends_at, list_moves, place_moves, part_moves     which: those that end at a row; at a row where states listed change,
--                                where those of an operand do, where those of a part's pins do
--   Leaf, Holding                what is asked for an operand, and for a part
use Rattle.std.specs.Prelude.{ℕ, ◌+◌, ◌-◌, ◌<◌, ◌≤◌, ◌≡◌, Bool, not, List, eqb, length, if◌then◌else◌}
use Rattle.alf.specs.declared.Rules.{Rules}
use Rattle.alf.specs.Windows.{NO}
use Rattle.trees.specs.Parts.{EndsBoolean}
use Rattle.steady_pins.specs.Pinned.{Pins}
use Rattle.steady_pins.specs.Moving.{pins_move}
use Rattle.evaluator.specs.Rows.{state_of}
use Rattle.answer_table.specs.Tables.{entry, stored, Rows}

-- of the part at `base` the windows up to row `size` that pass the test answer no; all else is as it was
pub record Cleared (test : ℕ → ℕ → Bool) (base size : ℕ) (before after : List ℕ) : Type 0 where
  pub is : (a b : ℕ) → a < b → b ≤ size
      → stored after base a b ≡ (if test a b then NO else stored before base a b)
  pub below : (i : ℕ) → i < base → entry after i ≡ entry before i
  pub above : (i : ℕ) → base + 256 ≤ i → entry after i ≡ entry before i
  pub long : length after ≡ 65536

unfoldable pub ends_at : ℕ → ℕ → ℕ → Bool
ends_at n a b = eqb b n

-- the states listed differ between row b - 1 and row b
unfoldable pub list_moves : List ℕ → ℕ → ℕ → Bool
list_moves list a b = not (eqb (entry list (b - 1)) (entry list b))

-- so do those of the operand that ends at `place`; rows are counted from `first`
unfoldable pub place_moves : Rules → List ℕ → ℕ → List ℕ → ℕ → ℕ → ℕ → ℕ → Bool
place_moves ρ tree place states names first a b =
    not (eqb (state_of ρ tree names states place (first + b - 1)) (state_of ρ tree names states place (first + b)))

-- and those of a pin among the first n entries, of the part that ends at `end`
unfoldable pub part_moves : Rules → List ℕ → List ℕ → ℕ → List ℕ → ℕ → ℕ → ℕ → ℕ → ℕ → Bool
part_moves ρ tree pins end states names first n a b = pins_move (state_of ρ tree names states) pins end n (first + b)

-- a boolean expression that ends at `end`, and room for a part that depends on it
pub record Leaf (tree : List ℕ) (end : ℕ) (states : List ℕ) (names first size base : ℕ) (table : List ℕ)
    : Type 0 where
  pub ends : EndsBoolean tree names end
  pub rows : Rows states names first size
  pub room : base ≤ 65280
  pub long : length table ≡ 65536

-- a part, and its pins
pub record Holding (tree pins : List ℕ) (end : ℕ) (states : List ℕ) (names first size : ℕ) (table : List ℕ)
    : Type 0 where
  pub pinned : Pins tree names pins
  pub some : 0 < end
  pub few : end ≤ 256
  pub rows : Rows states names first size
  pub long : length table ≡ 65536
