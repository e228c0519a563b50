-- All rows of a trace, block by block.
--   Prepared                     columns with their tables stand for the tests of the lists
--   PrepareAsked, PreparedOr     how they come to be
--   Ready                        lists that fit each other, and columns that are there
--   Block, AnswerAsked, Answered     the m rows of a block: their best answers, and how many are tried
--   BlocksAsked                  all rows, with memory that is prepared
--   Suited, Suits, Scratch       when columns suit; memory for them
--   BlockOn, AnswerAskedOn, AnsweredOn, BlocksAskedOn     the same of a scene, lists and columns as code has them
use Rattle.std.specs.Prelude.{ℕ, ◌+◌, ◌*◌, ◌<◌, ◌≤◌, ◌≡◌, Bool, true, List, map, length, get_or}
use Rattle.alf.specs.declared.Rules.{Rules}
use Rattle.alf.specs.Expressions.{Boolean}
use Rattle.alf.specs.Values.{state_at}
use Rattle.alf.specs.Alternatives.{test_at, at_row, best_of, tried}
use Rattle.trees.specs.Parts.{EndsBoolean, boolean_at}
use Rattle.alternatives.specs.declared.lists.Lists.{Lists}
use Rattle.alternatives.specs.InMemory.{sum, test_of, Tests, alternatives_of_lem}
use Rattle.matcher.specs.declared.scenes.Scene.{Scene}
use Rattle.matcher.specs.Tables.{Rows}
use Rattle.blocks.specs.declared.rows.Columns.{Columns}
use Rattle.blocks.specs.Numbering.{NumberAsked}
use Rattle.blocks.specs.Meeting.{Blank}

-- the table of a test's column has the test's answers, for the states before and after of the column's operand
pub record Prepared (tree : List ℕ) (names : ℕ) (edges operands ends slots : List ℕ) (many : ℕ) (tables : List ℕ)
    : Type 0 where
  pub slot : (t : ℕ) → t < length edges → get_or slots t 0 < many
  pub is : (st : Boolean → ℕ → ℕ) (a t : ℕ) → t < length edges
      → st (boolean_at tree names (get_or ends (get_or slots t 0) 0)) a < 8
      → st (boolean_at tree names (get_or ends (get_or slots t 0) 0)) (a + 1) < 8
      → get_or tables (get_or slots t 0 * 64 + (8 * st (boolean_at tree names (get_or ends (get_or slots t 0) 0)) a
      + st (boolean_at tree names (get_or ends (get_or slots t 0) 0)) (a + 1))) 0
      ≡ test_at st a (test_of tree names (get_or edges t 0) (get_or operands t 0))

-- what it takes to prepare columns; afterwards r are prepared for any names, unless r is 65
pub record PrepareAsked (tree edges operands kinds ends slots tables : List ℕ) : Type 0 where
  pub asked : NumberAsked tree edges operands kinds ends slots
  pub room : 4096 ≤ length tables

pub record PreparedOr (tree edges operands ends slots tables : List ℕ) (r : ℕ) : Type 0 where
  pub operand : r ≤ 64 → (names : ℕ) → Tests tree names edges operands → (c : ℕ) → c < r
      → EndsBoolean tree names (get_or ends c 0)
  pub is : r ≤ 64 → (names : ℕ) → Tests tree names edges operands
      → Prepared tree names edges operands ends slots r tables

-- lists of alternatives, of which none has over 16 steps, and `many` columns for their tests
pub record Ready (tree : List ℕ) (names : ℕ) (steps counts ends slots : List ℕ) (many : ℕ) (tables cols : List ℕ)
    : Type 0 where
  pub few : length steps ≤ 64
  pub short : (k : ℕ) → k < length steps → get_or steps k 0 ≤ 16
  pub enough_steps : sum steps ≤ length counts
  pub enough_tests : sum counts ≤ length slots
  pub columns : (t : ℕ) → t < sum counts → get_or slots t 0 < many
  pub operands : (c : ℕ) → c < many → EndsBoolean tree names (get_or ends c 0)
  pub some : many ≤ length ends
  pub most : many ≤ 64
  pub tabled : many * 64 ≤ length tables
  pub room : many * 1040 ≤ length cols

-- the m rows from `from` on; there are 16 rows before them
pub record Block (tree : List ℕ) (names : ℕ) (states steps counts ends slots : List ℕ) (many : ℕ) (tables : List ℕ)
    (from m : ℕ) (cols : List ℕ) : Type 0 where
  pub ready : Ready tree names steps counts ends slots many tables cols
  pub rows : Rows states names (from + m)
  pub start : 16 ≤ from
  pub wide : m ≤ 1024

pub record AnswerAsked (tree : List ℕ) (names : ℕ) (states steps counts ends slots : List ℕ) (many : ℕ)
    (tables : List ℕ) (from m : ℕ) (cols best tries : List ℕ) : Type 0 where
  pub block : Block tree names states steps counts ends slots many tables from m cols
  pub best_room : m ≤ length best
  pub tries_room : m ≤ length tries
  pub best_blank : Blank best
  pub tries_blank : Blank tries

pub record Answered (ρ : Rules) (tree : List ℕ) (names : ℕ) (states steps counts ends slots : List ℕ) (many : ℕ)
    (tables : List ℕ) (from m : ℕ) (best tries : List ℕ) : Type 0 where
  pub small : (i : ℕ) → i < m → get_or best i 0 ≤ 2
  pub few : (i : ℕ) → i < m → get_or tries i 0 ≤ 64
  pub best_is : (edges operands : List ℕ) → Prepared tree names edges operands ends slots many tables
      → sum counts ≤ length edges → length edges ≤ length operands → (i : ℕ) → i < m
      → get_or best i 0
      ≡ best_of (state_at ρ names states) (alternatives_of_lem tree names steps counts edges operands) (from + i)
  pub tries_is : (edges operands : List ℕ) → Prepared tree names edges operands ends slots many tables
      → sum counts ≤ length edges → length edges ≤ length operands → (i : ℕ) → i < m
      → get_or tries i 0
      ≡ tried (map (at_row (state_at ρ names states) (from + i)) (alternatives_of_lem tree names steps counts edges operands))

-- lists with at least 16 rows, and columns that are prepared for them
pub record BlocksAsked (tree : List ℕ) (names : ℕ) (steps counts edges operands : List ℕ) (n : ℕ) (ends slots : List ℕ)
    (many : ℕ) (tables cols : List ℕ) : Type 0 where
  pub ready : Ready tree names steps counts ends slots many tables cols
  pub prepared : Prepared tree names edges operands ends slots many tables
  pub start : 16 ≤ n

-- lists that columns suit, and memory for 64 columns
pub record Suited (steps edges : List ℕ) (n : ℕ) : Type 0 where
  pub start : 16 ≤ n
  pub few : length edges ≤ 4096
  pub short : (k : ℕ) → k < length steps → get_or steps k 0 ≤ 16

pub record Suits (steps edges : List ℕ) (n : ℕ) (r : Bool) : Type 0 where
  pub is : r ≡ true → Suited steps edges n

pub record Scratch (kinds ends slots tables cols : List ℕ) : Type 0 where
  pub kinds_room : 64 ≤ length kinds
  pub ends_room : 64 ≤ length ends
  pub slots_room : 4096 ≤ length slots
  pub tables_room : 4096 ≤ length tables
  pub cols_room : 66560 ≤ length cols

-- the same of a scene, lists and columns
abbrev pub BlockOn : Scene → Lists → Columns → ℕ → ℕ → List ℕ → Type 0
BlockOn x l k from m cols =
    Block x.tree.now x.names x.states.now l.steps.now l.tests.now k.ends.now k.slots.now k.many k.tables.now from m cols

abbrev pub AnswerAskedOn : Scene → Lists → Columns → ℕ → ℕ → List ℕ → List ℕ → List ℕ → Type 0
AnswerAskedOn x l k from m cols best tries =
    AnswerAsked x.tree.now x.names x.states.now l.steps.now l.tests.now k.ends.now k.slots.now k.many k.tables.now from m
    cols best tries

abbrev pub AnsweredOn : Scene → Lists → Columns → ℕ → ℕ → List ℕ → List ℕ → Type 0
AnsweredOn x l k from m best tries =
    Answered x.rules x.tree.now x.names x.states.now l.steps.now l.tests.now k.ends.now k.slots.now k.many k.tables.now
    from m best tries

abbrev pub BlocksAskedOn : Scene → Lists → ℕ → Columns → List ℕ → Type 0
BlocksAskedOn x l n k cols =
    BlocksAsked x.tree.now x.names l.steps.now l.tests.now l.edges.now l.operands.now n k.ends.now k.slots.now k.many
    k.tables.now cols
