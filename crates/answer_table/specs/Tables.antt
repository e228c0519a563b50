-- The table of answers. It has 256 entries for each place where an expression can end. Of the rows first to
-- first + size, at most 17, it has the answer of each part of the tree on each window; rows are counted from `first`.
--   entry, stored                        an entry of a list, 0 behind its end; the answers that stand in a part
--   edge_over, leaf_over_lem                   an edge, and an edge or a condition, of an operand whose states are given
--   operated                             an operator of two vectors, or of a vector and a condition
--   Rows, Column, Cell, Cells, SoFar     the rows asked for; the states there; states at a row and at the rows of a
--                                        window; a condition's answer so far
--   Inside, Operands, OperatorByte, Ending    a window of a part, of two parts; an operator; all that end at a row
--   Row, Part                            the entries written: of the windows from a row on, and of all windows
--   LeafRow, LeafPart, OperatorRow, OperatorPart    what is asked before they are written
use Rattle.std.specs.Prelude.{ℕ, ◌+◌, ◌-◌, ◌*◌, ◌<◌, ◌≤◌, min, ◌≡◌, List, eqb, ltb, length, get_or, if◌then◌else◌}
use Rattle.alf.specs.declared.Rules.{Rules}
use Rattle.alf.specs.Expressions.{Edge}
use Rattle.alf.specs.Windows.{Window, NO, edge_on, held, joined}
use Rattle.alf.specs.Decoder.{edge_at, join_at}
use Rattle.evaluator.specs.Rows.{Within, IsState, state_of}

abbrev pub entry : List ℕ → ℕ → ℕ
entry l i = get_or l i 0

-- the answer on the window from row a to row b, in the part that starts at `base`; none without an event
unfoldable pub stored : List ℕ → ℕ → Window
stored table base a b = if ltb a b then entry table (base + a * 16 + (b - 1)) else NO

-- an edge of an operand whose state at each row is given: no unless b = a+1
abbrev pub edge_over : Edge → (ℕ → ℕ) → Window
edge_over e c a b = if eqb b (a + 1) then edge_on e (c a) (c b) else NO

-- bytes from 64 on are edges; a lesser one stands for a condition
unfoldable pub leaf_over_lem : ℕ → (ℕ → ℕ) → Window
leaf_over_lem k c a b = if ltb k 64 then held c a b else edge_over (edge_at (k - 64)) c a b

-- bytes 50 to 55 are operators of two vectors, 56 and 57 of a vector and a condition
unfoldable pub operated : ℕ → Window → Window → Window
operated k P Q a b = if ltb k 56 then joined (join_at (k - 50)) P Q a b else min (P a b) (Q a b)

-- the rows first to first + size of a trace
pub record Rows (states : List ℕ) (names first size : ℕ) : Type 0 where
  pub most : size ≤ 16
  pub last : Within states names (first + size)

-- the state there of the boolean expression that ends at `end`
pub record Column (ρ : Rules) (tree : List ℕ) (names : ℕ) (states : List ℕ) (end first size : ℕ)
    (r : List ℕ) : Type 0 where
  pub is : (i : ℕ) → i ≤ size → IsState (state_of ρ tree names states end (first + i)) (entry r i)
  pub long : length r ≡ 17

-- a state at row m
pub record Cell (list : List ℕ) (m : ℕ) : Type 0 where
  pub last : m ≤ 16
  pub code : entry list m < 8
  pub long : length list ≡ 17

-- states at the rows of the window from a to b
pub record Cells (list : List ℕ) (a b : ℕ) : Type 0 where
  pub some : a < b
  pub last : b ≤ 16
  pub codes : (i : ℕ) → i ≤ b → entry list i < 8
  pub long : length list ≡ 17

-- a condition's answer on the rows from a to m; nothing is asked of an edge
pub record SoFar (k : ℕ) (c : ℕ → ℕ) (a m low : ℕ) : Type 0 where
  pub is : k < 64 → low ≡ held c a m

-- a window in a part of the table
pub record Inside (table : List ℕ) (base a b : ℕ) : Type 0 where
  pub some : a < b
  pub last : b ≤ 16
  pub room : base ≤ 65280
  pub long : length table ≡ 65536

-- the same window in two parts
pub record Operands (table : List ℕ) (p q a b : ℕ) : Type 0 where
  pub some : a < b
  pub last : b ≤ 16
  pub left : p ≤ 65280
  pub right : q ≤ 65280
  pub long : length table ≡ 65536

pub record OperatorByte (k : ℕ) : Type 0 where
  pub first : 50 ≤ k
  pub last : k < 58

-- all windows of a part that end at row n
pub record Ending (table : List ℕ) (base n : ℕ) : Type 0 where
  pub most : n ≤ 16
  pub room : base ≤ 65280
  pub long : length table ≡ 65536

-- the windows from row a to the rows up to n hold what W answers; the entries of other windows are as they were
pub record Row (W : Window) (base a n : ℕ) (before after : List ℕ) : Type 0 where
  pub is : (b : ℕ) → a < b → b ≤ n → stored after base a b ≡ W a b
  pub below : (i : ℕ) → i < base + a * 16 → entry after i ≡ entry before i
  pub above : (i : ℕ) → base + a * 16 + 16 ≤ i → entry after i ≡ entry before i
  pub long : length after ≡ 65536

-- the windows from the first n rows do, up to row `size`; the entries of other parts are as they were
pub record Part (W : Window) (base size n : ℕ) (before after : List ℕ) : Type 0 where
  pub is : (a b : ℕ) → a < n → a < b → b ≤ size → stored after base a b ≡ W a b
  pub below : (i : ℕ) → i < base → entry after i ≡ entry before i
  pub above : (i : ℕ) → base + 256 ≤ i → entry after i ≡ entry before i
  pub long : length after ≡ 65536

-- asked for a leaf: states at the rows, and room for its part
pub record LeafPart (list : List ℕ) (size base : ℕ) (table : List ℕ) : Type 0 where
  pub most : size ≤ 16
  pub codes : (i : ℕ) → i ≤ size → entry list i < 8
  pub cells : length list ≡ 17
  pub room : base ≤ 65280
  pub long : length table ≡ 65536

pub record LeafRow (list : List ℕ) (a size base : ℕ) (table : List ℕ) : Type 0 where
  pub from : a < size
  pub part : LeafPart list size base table

-- asked for an operator: the operands' parts stand before its own
pub record OperatorPart (k p q size base : ℕ) (table : List ℕ) : Type 0 where
  pub byte : OperatorByte k
  pub most : size ≤ 16
  pub left : p + 256 ≤ base
  pub right : q + 256 ≤ base
  pub room : base ≤ 65280
  pub long : length table ≡ 65536

pub record OperatorRow (k p q a size base : ℕ) (table : List ℕ) : Type 0 where
  pub from : a < size
  pub part : OperatorPart k p q size base table
