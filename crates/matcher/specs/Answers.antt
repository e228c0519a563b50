-- What matching asks and promises: document 01's answer and number tried (alf/specs/Alternatives), for the alternatives
-- that lists in memory stand for (alternatives/specs/InMemory).
--   TestAsked, StepAsked, AlternativeAsked, RowAsked, EventAsked     what is asked, from one test to all alternatives
--   Matches                                                          the answer, and the number tried
--   TestAskedOn, .., MatchesOn                                       the same of a scene and lists as code has them
use Rattle.std.specs.Prelude.{ℕ, ◌+◌, ◌<◌, ◌≤◌, ◌≡◌, List, length, drop}
use Rattle.alf.specs.declared.Answer.{Answer}
use Rattle.alf.specs.Expressions.{Boolean}
use Rattle.alf.specs.Answers.{number_of}
use Rattle.alf.specs.Alternatives.{Alternative, answer_of}
use Rattle.alf.specs.Alternatives as alternatives
use Rattle.trees.specs.Parts.{EndsBoolean}
use Rattle.evaluator.specs.Rows.{Within}
use Rattle.alternatives.specs.declared.lists.Lists.{Lists}
use Rattle.alternatives.specs.InMemory.{sum, Tests, Shape}
use Rattle.matcher.specs.declared.scenes.Scene.{Scene}
use Rattle.matcher.specs.Scenes.{state_on, alternatives_on}

-- the event from row a to row a + 1, asked of the operand that ends at `end`, and of the n tests from t on
pub record TestAsked (tree : List ℕ) (names : ℕ) (states : List ℕ) (end a : ℕ) : Type 0 where
  pub ends : EndsBoolean tree names end
  pub rows : Within states names (a + 1)

pub record StepAsked (tree : List ℕ) (names : ℕ) (states edges operands : List ℕ) (t n a : ℕ) : Type 0 where
  pub known : Tests tree names edges operands
  pub there : t + n ≤ length edges
  pub rows : Within states names (a + 1)

-- row `row`, asked of the n steps from step s on, whose tests start at t
pub record AlternativeAsked (tree : List ℕ) (names : ℕ) (states tests edges operands : List ℕ) (s n t row : ℕ)
    : Type 0 where
  pub known : Tests tree names edges operands
  pub there : s + n ≤ length tests
  pub tested : t + sum (drop s tests) ≤ length edges
  pub rows : Within states names row

-- row `row`, asked of all alternatives; and a row above 0, to which an event leads
pub record RowAsked (tree : List ℕ) (names : ℕ) (states steps tests edges operands : List ℕ) (row : ℕ)
    : Type 0 where
  pub shape : Shape tree names steps tests edges operands
  pub rows : Within states names row

pub record EventAsked (tree : List ℕ) (names : ℕ) (states steps tests edges operands : List ℕ) (row : ℕ)
    : Type 0 where
  pub asked : RowAsked tree names states steps tests edges operands row
  pub event : 0 < row

-- the answer of some alternatives at a row, and the number tried
pub record Matches (st : Boolean → ℕ → ℕ) (xs : List Alternative) (row : ℕ) (answer : Answer) (tried : ℕ)
    : Type 0 where
  pub is : number_of answer ≡ answer_of st xs row
  pub count : tried ≡ alternatives.tries st xs row

-- the same, asked of a scene and lists
abbrev pub TestAskedOn : Scene → ℕ → ℕ → Type 0
TestAskedOn x end a = TestAsked x.tree.now x.names x.states.now end a

abbrev pub StepAskedOn : Scene → Lists → ℕ → ℕ → ℕ → Type 0
StepAskedOn x l t n a = StepAsked x.tree.now x.names x.states.now l.edges.now l.operands.now t n a

abbrev pub AlternativeAskedOn : Scene → Lists → ℕ → ℕ → ℕ → ℕ → Type 0
AlternativeAskedOn x l s n t row =
    AlternativeAsked x.tree.now x.names x.states.now l.tests.now l.edges.now l.operands.now s n t row

abbrev pub RowAskedOn : Scene → Lists → ℕ → Type 0
RowAskedOn x l row =
    RowAsked x.tree.now x.names x.states.now l.steps.now l.tests.now l.edges.now l.operands.now row

abbrev pub EventAskedOn : Scene → Lists → ℕ → Type 0
EventAskedOn x l row =
    EventAsked x.tree.now x.names x.states.now l.steps.now l.tests.now l.edges.now l.operands.now row

abbrev pub MatchesOn : Scene → Lists → ℕ → Answer → ℕ → Type 0
MatchesOn x l row answer tried = Matches (state_on x) (alternatives_on x l) row answer tried
