-- What reading a text as a trace comes to: the trace that it is, or a refusal.
--   head_of, rows_of, name_count, row_count     the head of a text, its rows, and how many there are
--   read_order                               the refusals of the text in its order, then 9 for the first short list
--   Made, MakesTrace                        the trace in the three lists, or the lists as before
--   Checked, Checks                         what the first pass comes to
use Rattle.std.specs.Prelude.{Err, Ok}
use Rattle.std.specs.Prelude.{ℕ, ◌≡◌, List, [], ◌++◌, length, get_or, drop}
use Rattle.alf.specs.Refusals.{Order, RefusedBy, Passed}
use Rattle.basics.specs.Memory.{front}
use Rattle.trace_reader.specs.Reading.{Reading}
use Rattle.trace_reader.specs.Reading.{room_order, Untouched}
use Rattle.trace_texts.specs.Words.{Line, line, lines_of}
use Rattle.trace_texts.specs.Texts.{name_words, names_made, times_made, states_made, text_order}

abbrev pub head_of : List ℕ → Line
head_of text = get_or (lines_of text) 0 (line [] 0)

abbrev pub rows_of : List ℕ → List Line
rows_of text = drop 1 (lines_of text)

abbrev pub name_count : List ℕ → ℕ
name_count text = length (name_words (head_of text))

abbrev pub row_count : List ℕ → ℕ
row_count text = length (rows_of text)

abbrev pub read_order : List ℕ → List ℕ → List ℕ → List ℕ → Order
read_order text names times states = text_order text ++ room_order names times states (name_count text) (row_count text)

-- nothing is refused, and the text's trace stands at the front of the lists
pub record Made (text names times states : List ℕ) (k n : ℕ) (names' times' states' : List ℕ) : Type 0 where
  pub passes : Passed (read_order text names times states)
  pub named : k ≡ name_count text
  pub counted : n ≡ row_count text
  pub names_now : names' ≡ front (names_made (head_of text)) names
  pub times_now : times' ≡ front (times_made (rows_of text)) times
  pub states_now : states' ≡ front (states_made (name_count text) (rows_of text)) states

unfoldable pub MakesTrace : List ℕ → List ℕ → List ℕ → List ℕ → List ℕ → List ℕ → List ℕ → Reading → Type 0
MakesTrace text names times states names' times' states' (Ok s) =
    Made text names times states s.names s.rows names' times' states'
MakesTrace text names times states names' times' states' (Err r) =
    RefusedBy (read_order text names times states) r × Untouched names times states names' times' states'

-- the first pass
pub record Checked (text : List ℕ) (k n : ℕ) : Type 0 where
  pub passes : Passed (text_order text)
  pub named : k ≡ name_count text
  pub counted : n ≡ row_count text

unfoldable pub Checks : List ℕ → Reading → Type 0
Checks text (Ok s) = Checked text s.names s.rows
Checks text (Err r) = RefusedBy (text_order text) r
