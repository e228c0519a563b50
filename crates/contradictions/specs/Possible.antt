-- Document 01, "An alternative is contradictory exactly when, for some name and row of its window, no state answers yes
-- to all literals asked there of the name itself": alf/specs/Alternatives says it of an alternative; here it is said of
-- the lists in memory, quantifier by quantifier, and of all alternatives.
--   side_of, allowed, row_literals, impossible    the literals of a row, and whether some state allows them
--   flag_of, flag_list, Flagged                   the flags of all alternatives
--   Plain, Literals, Row, Rows, Reported        what the functions ask, from one test to all alternatives
--   LiteralsOn, RowOn, RowsOn, ReportedOn       the same of lists as code has them
use Rattle.std.specs.Prelude.{ℕ, ◌+◌, ◌<◌, ◌≤◌, ◌≡◌, Bool, true, false, not, List, ◌++◌, map, eqb, length, drop}
use Rattle.basics.specs.Words.{some, all}
use Rattle.alf.specs.Expressions.{Half}
use Rattle.alf.specs.Windows.{YES, asked}
use Rattle.alf.specs.Alternatives.{Test, Alternative, first, second, literals_at, possible, contradictory}
use Rattle.trees.specs.Parts.{EndsBoolean}
use Rattle.alternatives.specs.declared.lists.Lists.{Lists}
use Rattle.alternatives.specs.InMemory.{sum, Tests, Shape, step_in}
use Rattle.basics.specs.Memory.{front}

-- the half of an edge that is asked at the row before the event, or at the later one
unfoldable pub side_of : Bool → Half → Half → Half
side_of true f t = t
side_of false f t = f

-- a state answers yes to all of some literals
unfoldable pub allowed : List Half → ℕ → Bool
allowed hs s = all (λ h. eqb (asked h s) YES) hs

-- the literals asked of a name at a row to which b tests from t on lead, and from which the n tests behind them lead on
unfoldable pub row_literals : List Test → ℕ → ℕ → ℕ → ℕ → List Half
row_literals tests t b n name = second name (step_in tests t b) ++ first name (step_in tests (t + b) n)

-- at some row of an alternative the name has no possible state
unfoldable pub impossible : Alternative → ℕ → Bool
impossible x name = some (length x + 1) (λ j. not (possible (literals_at name x j)))

-- a flag for each alternative: 1 where it is contradictory, else 0
unfoldable pub flag_of : Bool → ℕ
flag_of true = 1
flag_of false = 0

unfoldable pub flag_list : ℕ → List Alternative → List ℕ
flag_list names xs = map (λ x. flag_of (contradictory names x)) xs

pub record Flagged (names : ℕ) (xs : List Alternative) (flags flags' : List ℕ) : Type 0 where
  pub flags_are : flags' ≡ front (flag_list names xs) flags

-- What the functions inside ask: the operand is a boolean expression, the name one of 32, s a state; n tests from t
-- on; b tests from t on and n behind them; n steps from step s on, whose tests start at t.
pub record Plain (tree : List ℕ) (names end name s : ℕ) : Type 0 where
  pub ends : EndsBoolean tree names end
  pub a_name : name < 32
  pub a_state : s < 8

pub record Literals (tree : List ℕ) (names : ℕ) (edges operands : List ℕ) (t n name s : ℕ) : Type 0 where
  pub known : Tests tree names edges operands
  pub there : t + n ≤ length edges
  pub a_name : name < 32
  pub a_state : s < 8

pub record Row (tree : List ℕ) (names : ℕ) (edges operands : List ℕ) (t b n name : ℕ) : Type 0 where
  pub known : Tests tree names edges operands
  pub there : t + b + n ≤ length edges
  pub a_name : name < 32

pub record Rows (tree : List ℕ) (names : ℕ) (tests edges operands : List ℕ) (s n t : ℕ) : Type 0 where
  pub known : Tests tree names edges operands
  pub there : s + n ≤ length tests
  pub tested : t + sum (drop s tests) ≤ length edges

-- the lists of alternatives over at most 32 names, and room for a flag for each
pub record Reported (tree : List ℕ) (names : ℕ) (steps tests edges operands flags : List ℕ) : Type 0 where
  pub shape : Shape tree names steps tests edges operands
  pub few : names ≤ 32
  pub room : length steps ≤ length flags

-- the same of lists as code has them
abbrev pub LiteralsOn : List ℕ → ℕ → Lists → ℕ → ℕ → ℕ → ℕ → Type 0
LiteralsOn tree names l t n name s = Literals tree names l.edges.now l.operands.now t n name s

abbrev pub RowOn : List ℕ → ℕ → Lists → ℕ → ℕ → ℕ → ℕ → Type 0
RowOn tree names l t b n name = Row tree names l.edges.now l.operands.now t b n name

abbrev pub RowsOn : List ℕ → ℕ → Lists → ℕ → ℕ → ℕ → Type 0
RowsOn tree names l s n t = Rows tree names l.tests.now l.edges.now l.operands.now s n t

abbrev pub ReportedOn : List ℕ → ℕ → Lists → List ℕ → Type 0
ReportedOn tree names l flags =
    Reported tree names l.steps.now l.tests.now l.edges.now l.operands.now flags
