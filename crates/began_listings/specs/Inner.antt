-- What the functions inside ask and give. They speak of the alternatives that lists in memory stand for.
--   row_text, rows_text, listing_by     a row's line, all rows' lines, the whole
--   DatedRow, DatedRows              a row, all rows, asked of the lists
--   Adding, Adds                     one more row is measured
--   Measured, MoreAsked              what is measured of the rows before one
--   RowPut, RowsPut                  a row's line, all rows' lines have room
--   DatedRowOn, .., RowsPutOn        the same of a scene and lists as code has them
use Rattle.std.specs.Prelude.{ℕ, ◌+◌, ◌*◌, ◌<◌, ◌≤◌, ◌≡◌, List, eqb, length, get_or, if◌then◌else◌}
use Rattle.basics.specs.Memory.{Room}
use Rattle.basics.specs.Text.{joined}
use Rattle.basics.specs.Words.{listed}
use Rattle.alf.specs.declared.Rules.{Rules}
use Rattle.alf.specs.Expressions.{Boolean}
use Rattle.alf.specs.Values.{state_at}
use Rattle.alf.specs.Alternatives.{Alternative, answer_of}
use Rattle.alf.specs.Beginnings.{began}
use Rattle.alternatives.specs.declared.lists.Lists.{Lists}
use Rattle.alternatives.specs.InMemory.{alternatives_of_lem}
use Rattle.matcher.specs.declared.scenes.Scene.{Scene}
use Rattle.matcher.specs.Answers.{RowAsked}
use Rattle.matcher.specs.Tables.{RowsAsked}
use Rattle.began_lines.specs.BeganListing.{began_line, began_lines, answering, began_listing}
use Rattle.began_listings.specs.declared.rows.Sums.{Sums}

abbrev pub row_text : (Boolean → ℕ → ℕ) → List ℕ → List Alternative → ℕ → List ℕ
row_text st times xs i = began_line (get_or times i 0) (answer_of st xs i) (began st times xs i)

abbrev pub rows_text : (Boolean → ℕ → ℕ) → List ℕ → List Alternative → List ℕ
rows_text st times xs = began_lines times (answer_of st xs) (began st times xs)

abbrev pub listing_by : (Boolean → ℕ → ℕ) → List ℕ → List Alternative → List ℕ
listing_by st times xs = began_listing times (answer_of st xs) (began st times xs)

-- a row that has a time; as many rows as times
pub record DatedRow (tree : List ℕ) (names : ℕ) (states steps tests edges operands times : List ℕ) (row : ℕ)
    : Type 0 where
  pub asked : RowAsked tree names states steps tests edges operands row
  pub timed : row < length times

pub record DatedRows (tree : List ℕ) (names : ℕ) (states steps tests edges operands times : List ℕ) : Type 0 where
  pub asked : RowsAsked tree names states steps tests edges operands (length times)

-- one more row, a line of so many bytes and an answer by its number
pub record Adding (m : Sums) (size : ℕ) : Type 0 where
  pub small : m.size ≤ 3276750
  pub few : size ≤ 50
  pub yeses : m.yes ≤ 65535
  pub noes : m.no ≤ 65535
  pub unknowns : m.unknown ≤ 65535

pub record Adds (m : Sums) (a size : ℕ) (r : Sums) : Type 0 where
  pub bytes : r.size ≡ m.size + size
  pub yeses : r.yes ≡ m.yes + (if eqb a 1 then 1 else 0)
  pub noes : r.no ≡ m.no + (if eqb a 0 then 1 else 0)
  pub unknowns : r.unknown ≡ m.unknown + (if eqb a 2 then 1 else 0)

-- the lines of the rows before i, and these rows' totals
pub record Measured (st : Boolean → ℕ → ℕ) (times : List ℕ) (xs : List Alternative) (m : Sums) (i : ℕ)
    : Type 0 where
  pub bytes : m.size ≡ length (joined (listed 0 i (row_text st times xs)))
  pub few : m.size ≤ 50 * i
  pub yeses : m.yes ≡ answering (answer_of st xs) i 1
  pub noes : m.no ≡ answering (answer_of st xs) i 0
  pub unknowns : m.unknown ≡ answering (answer_of st xs) i 2

pub record MoreAsked (ρ : Rules) (tree : List ℕ) (names : ℕ) (states steps tests edges operands times : List ℕ)
    (row : ℕ) (m : Sums) : Type 0 where
  pub rows : DatedRows tree names states steps tests edges operands times
  pub there : row < length times
  pub measured :
      Measured (state_at ρ names states) times (alternatives_of_lem tree names steps tests edges operands) m row

-- there is room
pub record RowPut (ρ : Rules) (tree : List ℕ) (names : ℕ) (states steps tests edges operands times : List ℕ)
    (row : ℕ) (out : List ℕ) (at : ℕ) : Type 0 where
  pub rows : DatedRows tree names states steps tests edges operands times
  pub there : row < length times
  pub room :
      Room out at (row_text (state_at ρ names states) times (alternatives_of_lem tree names steps tests edges operands) row)

pub record RowsPut (ρ : Rules) (tree : List ℕ) (names : ℕ) (states steps tests edges operands times : List ℕ)
    (out : List ℕ) (at : ℕ) : Type 0 where
  pub rows : DatedRows tree names states steps tests edges operands times
  pub room :
      Room out at (rows_text (state_at ρ names states) times (alternatives_of_lem tree names steps tests edges operands))

-- the same of a scene and lists
abbrev pub DatedRowOn : Scene → Lists → List ℕ → ℕ → Type 0
DatedRowOn x l times row =
    DatedRow x.tree.now x.names x.states.now l.steps.now l.tests.now l.edges.now l.operands.now times row

abbrev pub DatedRowsOn : Scene → Lists → List ℕ → Type 0
DatedRowsOn x l times =
    DatedRows x.tree.now x.names x.states.now l.steps.now l.tests.now l.edges.now l.operands.now times

abbrev pub MoreAskedOn : Scene → Lists → List ℕ → ℕ → Sums → Type 0
MoreAskedOn x l times row m =
    MoreAsked x.rules x.tree.now x.names x.states.now l.steps.now l.tests.now l.edges.now l.operands.now times row m

abbrev pub RowPutOn : Scene → Lists → List ℕ → ℕ → List ℕ → ℕ → Type 0
RowPutOn x l times row out at =
    RowPut x.rules x.tree.now x.names x.states.now l.steps.now l.tests.now l.edges.now l.operands.now times row out at

abbrev pub RowsPutOn : Scene → Lists → List ℕ → List ℕ → ℕ → Type 0
RowsPutOn x l times out at =
    RowsPut x.rules x.tree.now x.names x.states.now l.steps.now l.tests.now l.edges.now l.operands.now times out at
