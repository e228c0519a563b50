-- The states of a boolean expression at rows one after the other, in a part of a list.
--   states_from             the states from some row on
--   SpellAsked, Spelt      what writing them asks and promises
--   PartsOf                how many parts an operator takes
use Rattle.std.specs.Prelude.{ℕ, ◌+◌, ◌*◌, ◌<◌, ◌≤◌, ◌≡◌, List, ltb, length, get_or, if◌then◌else◌}
use Rattle.alf.specs.declared.Rules.{Rules}
use Rattle.trees.specs.Parts.{EndsBoolean}
use Rattle.evaluator.specs.Rows.{Within, state_of}

abbrev pub states_from : Rules → List ℕ → ℕ → List ℕ → ℕ → ℕ → ℕ → ℕ
states_from ρ tree names states end lo = λ i. state_of ρ tree names states end (lo + i)

-- the states of an expression at n rows from lo on, in part d of a list: 1,041 entries from 1,041 d on; what is before
-- this part stays
pub record SpellAsked (tree : List ℕ) (names : ℕ) (states : List ℕ) (end lo n : ℕ) (parts : List ℕ) (d : ℕ)
    : Type 0 where
  pub ends : EndsBoolean tree names end
  pub rows : (i : ℕ) → i < n → Within states names (lo + i)
  pub few : lo + n ≤ 65535
  pub wide : n ≤ 1041
  pub room : d * 1041 + 1041 ≤ length parts

pub record Spelt (ρ : Rules) (tree : List ℕ) (names : ℕ) (states : List ℕ) (end lo n : ℕ) (parts : List ℕ) (d : ℕ)
    (parts' : List ℕ) : Type 0 where
  pub length_same : length parts' ≡ length parts
  pub at : (i : ℕ) → i < n → get_or parts' (d * 1041 + i) 0 ≡ states_from ρ tree names states end lo i
  pub codes : (i : ℕ) → i < n → get_or parts' (d * 1041 + i) 0 < 8
  pub below : (i : ℕ) → i < d * 1041 → get_or parts' i 0 ≡ get_or parts i 0

-- operator b takes r parts: one for each operand
pub record PartsOf (b r : ℕ) : Type 0 where
  pub is : r ≡ (if ltb b 60 then 2 else 3)
