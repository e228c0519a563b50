-- What the functions inside ask and give.
--   marked                              the set whose bits are set in a mask
--   SlotIn, MemberFits, MembersFit      slots, and room for names of a set
--   LetterFits, LettersFit              states, and room for their letters
--   RowIn, RowFits                      a row, and room for its line
--   PartGood, RowsFit                   some rows that are good, and room for their lines
use Rattle.std.specs.Prelude.{ℕ, ◌+◌, ◌*◌, ◌/◌, ◌%◌, ◌^◌, ◌<◌, ◌≤◌, Bool, List, eqb, length, get_or}
use Rattle.basics.specs.Memory.{Room}
use Rattle.changes.specs.Call.{Inside}
use Rattle.trace_writer.specs.Putting.{SlotsLent, SomeRows}
use Rattle.row_lines.specs.Lines.{member, members, letters, row_line, row_lines}

-- i is in the set where bit i of the mask is 1
unfoldable pub marked : ℕ → ℕ → Bool
marked mask i = eqb (mask / 2 ^ i % 2) 1

-- slot i, one of 32 at most
pub record SlotIn (names : List ℕ) (i : ℕ) : Type 0 where
  pub there : i * 32 + 32 ≤ length names
  pub few : i < 32

pub record MemberFits (names : List ℕ) (set : ℕ → Bool) (i : ℕ) (out : List ℕ) (at : ℕ) : Type 0 where
  pub slot : SlotIn names i
  pub room : Room out at (member names set i)

pub record MembersFit (names : List ℕ) (k : ℕ) (set : ℕ → Bool) (out : List ℕ) (at : ℕ) : Type 0 where
  pub slots : SlotsLent names k
  pub room : Room out at (members names k set)

-- a state, and room for a blank and its letter
pub record LetterFits (code : ℕ) (out : List ℕ) (at : ℕ) : Type 0 where
  pub known : code ≤ 7
  pub room : at + 2 ≤ length out

-- k states from a place on, and room for their letters
pub record LettersFit (states : List ℕ) (from k : ℕ) (out : List ℕ) (at : ℕ) : Type 0 where
  pub there : from + k ≤ length states
  pub known : (i : ℕ) → i < k → get_or states (from + i) 0 ≤ 7
  pub room : Room out at (letters k (λ i. get_or states (from + i) 0))

-- row r of k states, and k names
pub record RowIn (names : List ℕ) (k : ℕ) (states : List ℕ) (r : ℕ) : Type 0 where
  pub slots : SlotsLent names k
  pub inside : Inside k states r

pub record RowFits (names : List ℕ) (k : ℕ) (states : List ℕ) (time r : ℕ) (out : List ℕ) (at : ℕ) : Type 0 where
  pub row : RowIn names k states r
  pub known : (i : ℕ) → i < k → get_or states (r * k + i) 0 ≤ 7
  pub room : Room out at (row_line names k states time r)

-- so many rows from row `first` on, with names and codes that were checked
pub record PartGood (names : List ℕ) (k : ℕ) (times states : List ℕ) (first many : ℕ) : Type 0 where
  pub slots : SlotsLent names k
  pub some : 1 ≤ k
  pub few : first + many ≤ 65535
  pub rows : SomeRows k times states first many
  pub known : (r i : ℕ) → r < many → i < k → get_or states ((first + r) * k + i) 0 ≤ 7

pub record RowsFit (names : List ℕ) (k : ℕ) (times states : List ℕ) (first many : ℕ) (out : List ℕ) (at : ℕ)
    : Type 0 where
  pub good : PartGood names k times states first many
  pub room : Room out at (row_lines names k times states first many)
