-- What the functions inside ask and give. Writing behind what is written is Put; here a text may go past the end of
-- what is lent, and then only what has room is written. So a text is measured by writing it where there is no room.
--   Countable, Puts, lead                     a text from a place on, with the gap before it
--   Joinable, ShowsTest, Tellable, Untold         a test's expression, shown or not
--   Testable, Tested, all_tests                a test, the tests of the lists
use Rattle.std.specs.Prelude.{ℕ, zero, suc, ◌+◌, ◌^◌, ◌<◌, ◌≤◌, ◌≡◌, List, [], length}
use Rattle.alf.specs.Names.{names_in}
use Rattle.alf.specs.Alternatives.{Test}
use Rattle.alf.specs.Expressions.{Boolean, Edge, Expression, vector, edge}
use Rattle.alf.specs.Decoder.{Decodes}
use Rattle.trees.specs.Parts.{EndsBoolean}
use Rattle.alternatives.specs.InMemory.{tests_of, Tests}
use Rattle.basics.specs.Memory.{Put}
use Rattle.writer.specs.Writing.{Named}
use Rattle.basics.specs.Memory.{Holds}
use Rattle.alternative_texts.specs.Texts.{shown, missing}

-- the place behind some bytes is a number of 64 bits
pub record Countable (at : ℕ) (w : List ℕ) : Type 0 where
  pub small : at + length w < 2 ^ 64

-- a text is written, and has no more than so many bytes
pub record Puts (out : List ℕ) (at : ℕ) (w : List ℕ) (most : ℕ) (out' : List ℕ) (r : ℕ) : Type 0 where
  pub put : Put out at w out' r
  pub few : length w ≤ most

-- the gap before part i: none before part 0
unfoldable pub lead : List ℕ → ℕ → List ℕ
lead gap zero = []
lead gap (suc i) = gap

-- the operand of a test ends at `end`, and the bytes of the test's expression have room
pub record Joinable (names : ℕ) (tree : List ℕ) (end : ℕ) (list : List ℕ) : Type 0 where
  pub few : length tree ≤ 256
  pub ends : EndsBoolean tree names end
  pub room : 257 ≤ length list

-- the text of an expression at the front of a list, and 1 where it is `...`, else 0
pub record ShowsTest (names : List ℕ) (e : Expression) (list : List ℕ) (size untold : ℕ) : Type 0 where
  pub holds : Holds list size (shown names e)
  pub few : size ≤ 4096
  pub untold_is : untold ≡ missing names e

-- some bytes are those of an edge of an operand, the names are checked, and a text of 4,096 bytes has room
pub record Tellable (names tree list : List ℕ) : Type 0 where
  pub named : Named names
  pub of_edge : Edge
  pub operand : Boolean
  pub decodes : Decodes (names_in names) tree (vector (edge of_edge operand))
  pub room : length list ≡ 4096

-- a test: the names are checked, and its operand ends at `end` of a tree that is no longer than an accepted one
pub record Testable (names tree : List ℕ) (end : ℕ) : Type 0 where
  pub named : Named names
  pub few : length tree ≤ 256
  pub ends : EndsBoolean tree (names_in names) end

-- the tests of the lists: the names are checked, and each test has its operand
pub record Tested (names tree edges operands : List ℕ) : Type 0 where
  pub named : Named names
  pub few : length tree ≤ 256
  pub known : Tests tree (names_in names) edges operands

-- the tests of some lists
abbrev pub all_tests : List ℕ → List ℕ → List ℕ → List ℕ → List Test
all_tests names tree edges operands = tests_of tree (names_in names) edges operands

-- 1 where an expression is shown as `...`, else 0
pub record Untold (names : List ℕ) (e : Expression) (r : ℕ) : Type 0 where
  pub is : r ≡ missing names e
  pub few : r ≤ 1
