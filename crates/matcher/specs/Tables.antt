-- What is promised of all rows: the list of answers by document 01's numbers, the list of numbers tried, the totals.
--   Rows, RowsAsked, FillAsked     what is asked
--   Filled                         the lists
--   total_of, TotalsOf              the totals
--   RowsAskedOn, FillAskedOn, FilledOn, TotalsOn     the same of a scene and lists as code has them
use Rattle.std.specs.Prelude.{ℕ, ◌*◌, ◌<◌, ◌≤◌, ◌≡◌, List, eqb, length, get_or}
use Rattle.basics.specs.Words.{count, listed}
use Rattle.alf.specs.Expressions.{Boolean}
use Rattle.alf.specs.Alternatives.{Alternative, answer_of, tries}
use Rattle.alternatives.specs.declared.lists.Lists.{Lists}
use Rattle.alternatives.specs.InMemory.{Shape}
use Rattle.matcher.specs.declared.scenes.Scene.{Scene}
use Rattle.matcher.specs.Scenes.{state_on, alternatives_on}
use Rattle.basics.specs.Memory.{front}

-- n rows of a trace of 1 to 32 names, each state a code
pub record Rows (states : List ℕ) (names n : ℕ) : Type 0 where
  pub some : 1 ≤ names
  pub most : names ≤ 32
  pub few : n ≤ 65535
  pub room : n * names ≤ length states
  pub codes : (i : ℕ) → i < length states → get_or states i 0 < 8

-- n rows, asked of all alternatives
pub record RowsAsked (tree : List ℕ) (names : ℕ) (states steps tests edges operands : List ℕ) (n : ℕ)
    : Type 0 where
  pub shape : Shape tree names steps tests edges operands
  pub rows : Rows states names n

-- and lists with room for n answers and n numbers tried
pub record FillAsked (tree : List ℕ) (names : ℕ) (states steps tests edges operands : List ℕ) (n : ℕ)
    (answers tried : List ℕ) : Type 0 where
  pub asked : RowsAsked tree names states steps tests edges operands n
  pub room : n ≤ length answers
  pub space : n ≤ length tried

-- of n rows: each one's answer and number tried; what stands behind them stays
pub record Filled (st : Boolean → ℕ → ℕ) (xs : List Alternative) (n : ℕ)
    (answers tried answers' tried' : List ℕ)
    : Type 0 where
  pub answered : answers' ≡ front (listed 0 n (answer_of st xs)) answers
  pub counted : tried' ≡ front (listed 0 n (tries st xs)) tried

-- how many of n rows have an answer, by its number
unfoldable pub total_of : (Boolean → ℕ → ℕ) → List Alternative → ℕ → ℕ → ℕ
total_of st xs n a = count n (λ i. eqb (answer_of st xs i) a)

pub record TotalsOf (st : Boolean → ℕ → ℕ) (xs : List Alternative) (n yes no unknown : ℕ) : Type 0 where
  pub yeses : yes ≡ total_of st xs n 1
  pub noes : no ≡ total_of st xs n 0
  pub unknowns : unknown ≡ total_of st xs n 2

-- the same of a scene and lists
abbrev pub RowsAskedOn : Scene → Lists → ℕ → Type 0
RowsAskedOn x l n =
    RowsAsked x.tree.now x.names x.states.now l.steps.now l.tests.now l.edges.now l.operands.now n

abbrev pub FillAskedOn : Scene → Lists → ℕ → List ℕ → List ℕ → Type 0
FillAskedOn x l n answers tried =
    FillAsked x.tree.now x.names x.states.now l.steps.now l.tests.now l.edges.now l.operands.now n answers tried

abbrev pub FilledOn : Scene → Lists → ℕ → List ℕ → List ℕ → List ℕ → List ℕ → Type 0
FilledOn x l n answers tried answers' tried' =
    Filled (state_on x) (alternatives_on x l) n answers tried answers' tried'

abbrev pub TotalsOn : Scene → Lists → ℕ → ℕ → ℕ → ℕ → Type 0
TotalsOn x l n y f u = TotalsOf (state_on x) (alternatives_on x l) n y f u
