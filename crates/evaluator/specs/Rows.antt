-- A trace's rows, as the functions over a tree ask for them, and what a part of a tree comes to there.
--   Within, Filling             a row that is there; n rows, and a list with room for as many values
--   IsState, Operands           a state's code; an operator's operands
--   settled_by, state_of, value_of     the state and the value of the expression that ends at a place
use Rattle.std.specs.Prelude.{ℕ, ◌+◌, ◌*◌, ◌<◌, ◌≤◌, ◌≡◌, List, ltb, length, get_or, if◌then◌else◌}
use Rattle.alf.specs.declared.Rules.{Rules}
use Rattle.alf.specs.States.{reduce}
use Rattle.alf.specs.Values.{state_at, value_at}
use Rattle.trees.specs.Parts.{boolean_at}

-- the row stands in the states of a trace of 1 to 32 names, each the code of a state
pub record Within (states : List ℕ) (names row : ℕ) : Type 0 where
  pub some : 1 ≤ names
  pub most : names ≤ 32
  pub few : row < 65536
  pub room : row * names + names ≤ length states
  pub codes : (i : ℕ) → i < length states → get_or states i 0 < 8

-- r is the state s, one of the eight
pub record IsState (s r : ℕ) : Type 0 where
  pub is : r ≡ s
  pub code : r < 8

-- byte b is an operator of two booleans, and x and y are states
pub record Operands (b x y : ℕ) : Type 0 where
  pub first : 40 ≤ b
  pub last : b < 50
  pub left : x < 8
  pub right : y < 8

-- the value of an expression with last byte b and state s: only a name, a byte below 32, is reduced
abbrev pub settled_by : ℕ → ℕ → ℕ
settled_by b s = if ltb b 32 then reduce s else s

-- the state, and the value, at each row, of the boolean expression that ends at `end`
abbrev pub state_of : Rules → List ℕ → ℕ → List ℕ → ℕ → ℕ → ℕ
state_of ρ tree names states end = state_at ρ names states (boolean_at tree names end)

abbrev pub value_of : Rules → List ℕ → ℕ → List ℕ → ℕ → ℕ → ℕ
value_of ρ tree names states end = value_at ρ names states (boolean_at tree names end)

-- each of the first n rows stands in the states, and the list has room for an entry for each
pub record Filling (states : List ℕ) (names n : ℕ) (out : List ℕ) : Type 0 where
  pub rows : (i : ℕ) → i < n → Within states names i
  pub room : n ≤ length out
