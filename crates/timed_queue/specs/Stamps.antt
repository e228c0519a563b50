-- The times of the rows that a queue keeps: what is asked and promised.
--   stored_times     times as a queue holds them
--   PutAsked        there is room for times at the front of a list
--   Lays            the times kept, and one behind them
--   KeepAsked       times of which the last are to be kept
use Rattle.std.specs.Prelude.{ℕ, ◌+◌, ◌≤◌, ◌≡◌, List, [], ◌∷◌, ◌++◌, length, take, replicate}
use Rattle.basics.specs.Memory.{placed}

-- zeros behind
abbrev pub stored_times : List ℕ → List ℕ
stored_times ts = placed (replicate 16 0) 0 ts

-- there is room for times at the front of a list of at most 17
pub record PutAsked (from out : List ℕ) : Type 0 where
  pub room : length from ≤ length out
  pub few : length out ≤ 17

-- of these times the first are those kept, and t behind them
pub record Lays (times : List ℕ) (kept t : ℕ) (all : List ℕ) : Type 0 where
  pub laid : take (kept + 1) all ≡ take kept times ++ (t ∷ [])

-- kept + 1 times, of which the last k are to be kept
pub record KeepAsked (all : List ℕ) (kept k : ℕ) : Type 0 where
  pub few : k ≤ 16
  pub held : kept ≤ k
  pub full : length all ≡ kept + 1
