-- Columns and the tests that they stand for.
--   OperandAt, Same                  an operand in a tree; that two are the same
--   FindAsked, Found                 the first column with a test
--   AddAsked, Added                  a column more, where it is needed
--   NumberAsked, Numbered            a column for each test
use Rattle.std.specs.Prelude.{ℕ, ◌+◌, ◌<◌, ◌≤◌, ◌≡◌, Bool, true, List, length, get_or, set}
use Rattle.trees.specs.Parts.{EndsBoolean, boolean_at}
use Rattle.alternatives.specs.InMemory.{test_of, Tests}

-- an operand that ends at `end` of a tree has a last byte
pub record OperandAt (tree : List ℕ) (end : ℕ) : Type 0 where
  pub some : 1 ≤ end
  pub within : end ≤ length tree

-- where the answer is yes, the two operands are the same expression
pub record Same (tree : List ℕ) (x y : ℕ) (r : Bool) : Type 0 where
  pub same : r ≡ true → (names : ℕ) → EndsBoolean tree names x → EndsBoolean tree names y
      → boolean_at tree names x ≡ boolean_at tree names y

-- `many` columns: their edges, and the ends of their operands
pub record FindAsked (tree kinds ends : List ℕ) (many end : ℕ) : Type 0 where
  pub edges : many ≤ length kinds
  pub operands : many ≤ length ends
  pub few : many ≤ 64
  pub at : (c : ℕ) → c < many → OperandAt tree (get_or ends c 0)
  pub this : OperandAt tree end

-- one of them with this test, or none: `many`
pub record Found (tree kinds ends : List ℕ) (many k end r : ℕ) : Type 0 where
  pub within : r ≤ many
  pub is : r < many → (names : ℕ) → EndsBoolean tree names (get_or ends r 0) → EndsBoolean tree names end
      → test_of tree names (get_or kinds r 0) (get_or ends r 0) ≡ test_of tree names k end

-- a column more where there is none with the test: number c is `many` then
pub record AddAsked (kinds ends : List ℕ) (many c : ℕ) : Type 0 where
  pub within : c ≤ many
  pub edges : c < length kinds
  pub operands : c < length ends

pub record Added (kinds ends : List ℕ) (many c k end : ℕ) (kinds' ends' : List ℕ) (r : ℕ) : Type 0 where
  pub kept : c < many → (r ≡ many) × (kinds' ≡ kinds) × (ends' ≡ ends)
  pub new : many ≤ c → (r ≡ c + 1) × (kinds' ≡ set kinds c k) × (ends' ≡ set ends c end)

pub record NumberAsked (tree edges operands kinds ends slots : List ℕ) : Type 0 where
  pub at : (t : ℕ) → t < length edges → OperandAt tree (get_or operands t 0)
  pub enough : length edges ≤ length operands
  pub room : length edges ≤ length slots
  pub kinds_room : 64 ≤ length kinds
  pub ends_room : 64 ≤ length ends

-- r columns, unless r is 65: each is a test of the lists, and each test has its column
pub record Numbered (tree edges operands kinds ends slots : List ℕ) (r : ℕ) : Type 0 where
  pub operand : r ≤ 64 → (names : ℕ) → Tests tree names edges operands → (c : ℕ) → c < r
      → EndsBoolean tree names (get_or ends c 0)
  pub slot : r ≤ 64 → (t : ℕ) → t < length edges → get_or slots t 0 < r
  pub is : r ≤ 64 → (names : ℕ) → Tests tree names edges operands → (t : ℕ) → t < length edges
      → test_of tree names (get_or kinds (get_or slots t 0) 0) (get_or ends (get_or slots t 0) 0)
      ≡ test_of tree names (get_or edges t 0) (get_or operands t 0)
