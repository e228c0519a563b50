-- What the laboratory is asked: a trace file, and a text. As document 01 reads them, the file is the bytes of a trace,
-- whichever of `RW` and `RL` the rows have that fit their times,
-- and the text, of whatever length, gives an expression for the trace's names. The answers are those of this
-- expression on this trace. A text over 4,096 bytes is refused, but its tree can be handed to the calls as any other,
-- so a question is as good as a trace and an accepted tree.
--   Asked                     the file, the text, and what document 01 reads in them
--   Question, Formula         asked for a vector expression, a pattern; for a boolean expression
--   meant_by                   a pattern as the rules read it (document 02, [2])
--   answer_on, tries_on, began_on     a pattern's answer at a row of a trace, how many alternatives are tried there, and
--                             the time where the match began
--   answer_at, tries_at, began_at     the same on the question's own trace
--   value_of, state_of          a boolean expression's value and state at a row of the question's trace
--   K                         the steps of a pattern's longest alternative
--   tree_of                    the bytes that the calls take for the expression
--   names_of                   how many names there are
use Rattle.std.specs.Prelude.{ℕ, ◌≡◌, List}
use Rattle.alf.specs.Names.{names_in}
use Rattle.alf.specs.declared.Sort.{Sort}
use Rattle.alf.specs.declared.Sort.TheVariants as sort
use Rattle.alf.specs.Expressions.{Boolean, Vector, Expression, boolean, vector}
use Rattle.alf.specs.Bytes.{bytes_of}
use Rattle.alf.specs.declared.Rules.{Rules}
use Rattle.alf.specs.Values.{state_at, value_at}
use Rattle.alf.specs.Windows.{row_answer}
use Rattle.alf.specs.Alternatives.{alternatives, tries, steps_of}
use Rattle.alf.specs.Beginnings.{Began}
use Rattle.alf.specs.Steady.{meant}
use Rattle.alf.specs.Beginnings.{began}
use Rattle.trace_format.specs.Format.{Trace, Fitting, file_in}
use Rattle.reader.specs.Reading.{Gives}

pub record Asked {A : Type 0} (into : A → Expression) (sort : Sort) (file text : List ℕ) : Type 0 where
  pub rules : Rules
  pub names : List ℕ
  pub times : List ℕ
  pub states : List ℕ
  pub rows : ℕ
  pub trace : Trace names times states rows
  pub widths : ℕ → ℕ
  pub fitting : Fitting widths times rows
  pub read : file ≡ file_in widths names times states rows
  pub pattern : A
  pub given : Gives rules names text sort (into pattern)

abbrev pub Question : List ℕ → List ℕ → Type 0
Question = Asked vector sort.Vector

abbrev pub Formula : List ℕ → List ℕ → Type 0
Formula = Asked boolean sort.Boolean

module _ {A : Type 0} {into : A → Expression} {sort : Sort} {file text : List ℕ} where
  -- how many names; the bytes of the expression, as the calls take it
  abbrev pub names_of : Asked into sort file text → ℕ
  names_of q = names_in q.names

  abbrev pub tree_of : Asked into sort file text → List ℕ
  tree_of q = bytes_of (into q.pattern)

module _ {file text : List ℕ} where
  -- the pattern as the rules read it
  abbrev pub meant_by : Question file text → Vector
  meant_by q = meant q.rules q.pattern

  -- the answer of the pattern at a row of a trace with the question's names, as document 01 defines and numbers it; and
  -- how many of its alternatives are tried there
  abbrev pub answer_on : Question file text → List ℕ → ℕ → ℕ
  answer_on q states = row_answer (state_at q.rules (names_of q) states) (meant_by q)

  abbrev pub tries_on : Question file text → List ℕ → ℕ → ℕ
  tries_on q states = tries (state_at q.rules (names_of q) states) (alternatives (meant_by q))

  -- and where the match began, with the times of the rows (document 02, [12])
  abbrev pub began_on : Question file text → List ℕ → List ℕ → ℕ → Began
  began_on q times states = began (state_at q.rules (names_of q) states) times (alternatives (meant_by q))

  -- on the question's own trace
  abbrev pub answer_at : Question file text → ℕ → ℕ
  answer_at q = answer_on q q.states

  abbrev pub tries_at : Question file text → ℕ → ℕ
  tries_at q = tries_on q q.states

  abbrev pub began_at : Question file text → ℕ → Began
  began_at q = began_on q q.times q.states

  -- the steps of the longest alternative
  abbrev pub K : Question file text → ℕ
  K q = steps_of (meant_by q)

  -- the value and the state of a boolean expression at a row
  abbrev pub value_of : Formula file text → ℕ → ℕ
  value_of q = value_at q.rules (names_of q) q.states q.pattern

  abbrev pub state_of : Formula file text → ℕ → ℕ
  state_of q = state_at q.rules (names_of q) q.states q.pattern
