-- The table of answers filled for a tree: of each of its expressions the answer on each window of the rows first to
-- first + size. The part of the expression that ends at `end` starts at 256 * (end - 1).
--   part_on                               what an expression with its pins answers on windows, as an operand
--   Stands                               what stands in a part
--   LeafFilled                           a leaf of the tree
--   Fillable, Filled                     an expression with all its operands
use Rattle.std.specs.Prelude.{ℕ, ◌+◌, ◌-◌, ◌*◌, ◌<◌, ◌≤◌, ◌≡◌, Bool, List, length}
use Rattle.alf.specs.declared.Rules.{Rules}
use Rattle.alf.specs.Expressions.{Boolean, Expression, boolean, vector}
use Rattle.alf.specs.Values.{state_at}
use Rattle.alf.specs.Windows.{Window, held, answer}
use Rattle.alf.specs.Decoder.{is_vector, stack_at}
use Rattle.trees.specs.Parts.{Ends, boolean_at, expression_at}
use Rattle.steady_pins.specs.Pinned.{by_places, Pins}
use Rattle.evaluator.specs.Rows.{state_of}
use Rattle.answer_table.specs.Tables.{entry, stored, leaf_over_lem, Rows}

-- of a vector expression that ends at `end` its answer, with the pins of its parts; of a condition that it held at
-- every row. `operand` is the boolean expression that a place stands for.
unfoldable pub part_on : (Boolean → ℕ → ℕ) → (ℕ → Boolean) → List ℕ → ℕ → Expression → Window
part_on st operand pins end (boolean c) = held (st c)
part_on st operand pins end (vector p) = answer st (by_places operand pins end p)

-- W is what stands in the part at `base`, for the rows from `first` on
pub record Stands (W : Window) (first size base : ℕ) (table : List ℕ) : Type 0 where
  pub is : (a b : ℕ) → a < b → b ≤ size → stored table base a b ≡ W (first + a) (first + b)

pub record LeafFilled (ρ : Rules) (k : ℕ) (tree : List ℕ) (end : ℕ) (states : List ℕ) (names first size base : ℕ)
    (before after : List ℕ) : Type 0 where
  pub answers : Stands (leaf_over_lem k (state_of ρ tree names states end)) first size base after
  pub below : (i : ℕ) → i < base → entry after i ≡ entry before i
  pub above : (i : ℕ) → base + 256 ≤ i → entry after i ≡ entry before i
  pub long : length after ≡ 65536

-- an expression ends at `end`, a vector expression if `vector` says so; the table has room for its part; the pins are
-- places in the tree
pub record Fillable (vector : Bool) (tree pins : List ℕ) (end : ℕ) (states : List ℕ) (names first size : ℕ)
    (table : List ℕ) : Type 0 where
  pub ends : Ends tree names end
  pub sort : is_vector (stack_at tree names end) ≡ vector
  pub few : end ≤ 256
  pub pinned : Pins tree names pins
  pub rows : Rows states names first size
  pub long : length table ≡ 65536

-- its part holds its answers; the parts of the expressions that end behind it are as they were
pub record Filled (ρ : Rules) (tree pins : List ℕ) (end : ℕ) (states : List ℕ) (names first size : ℕ)
    (before after : List ℕ)
    : Type 0 where
  pub answers : Stands
      (part_on (state_at ρ names states) (boolean_at tree names) pins end (expression_at tree names end))
      first size ((end - 1) * 256) after
  pub above : (i : ℕ) → end * 256 ≤ i → entry after i ≡ entry before i
  pub long : length after ≡ 65536
