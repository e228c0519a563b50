-- What a pass over entries of lists asks. What it makes of them is `Over`, which is passed on.
--   Pass, PassFrom, PassTo, TriesTo     two lists have the entries of a pass
--   Counted                             a list whose entries may be counted on
use Rattle.std.specs.Prelude.{ℕ, ◌+◌, ◌<◌, ◌≤◌, List, length, get_or}
pub use Rattle.state_columns.specs.Entries.{Over}

-- n entries of a list, and n of another: from its front on, from o on
pub record Pass (l : List ℕ) (n : ℕ) (m : List ℕ) : Type 0 where
  pub room : n ≤ length l
  pub other : n ≤ length m

pub record PassFrom (l : List ℕ) (n : ℕ) (m : List ℕ) (o : ℕ) : Type 0 where
  pub room : n ≤ length l
  pub other : o + n ≤ length m

-- n entries of a list of 1,024, to be written to another from `at` on; and those that are numbers tried
pub record PassTo (n : ℕ) (m : List ℕ) (at : ℕ) : Type 0 where
  pub few : n ≤ 1024
  pub other : at + n ≤ length m

pub record TriesTo (l : List ℕ) (n : ℕ) (m : List ℕ) (at : ℕ) : Type 0 where
  pub few : n ≤ 1024
  pub other : at + n ≤ length m
  pub small : (i : ℕ) → i < n → get_or l i 0 ≤ 64

pub record Counted (l : List ℕ) (n : ℕ) (m : List ℕ) : Type 0 where
  pub room : n ≤ length l
  pub other : n ≤ length m
  pub small : (i : ℕ) → i < n → get_or l i 0 < 255
