-- The rows of a trace as a text, line by line.
--   TimeIn, RowIn                   a row starts in a text; it has so many names
--   TimedAt                         its time
--   early, time_order, rest_order     what is asked of a row's time; of the rest of its line
--   lines_order                      of all rows
use Rattle.std.specs.Prelude.{ℕ, ◌+◌, ◌<◌, ◌≤◌, ◌≡◌, Bool, false, List, [], ◌∷◌, ◌++◌, length, get_or, Option}
use Rattle.alf.specs.Refusals.{Order, check, At}
use Rattle.trace_texts.specs.Words.{Line}
use Rattle.trace_texts.specs.Texts.{none, is_time, time_of_lem, state_word, states_order, rows_order}
use Rattle.trace_texts.specs.Finding.{from}
use Rattle.text_checks.specs.Inner.{LineIn, ReadsTime}

-- a line with a word starts in a text
pub record TimeIn (text : List ℕ) (p : ℕ) : Type 0 where
  pub within : p ≤ length text
  pub some : 0 < length (from text p).first.words

pub record RowIn (text : List ℕ) (p k : ℕ) : Type 0 where
  pub timed : TimeIn text p
  pub names : LineIn text p k

-- where a row's time stands, and which it is
pub record TimedAt (row : Line) (at : ℕ) (time : Option ℕ) : Type 0 where
  pub place : at ≡ (get_or row.words 0 none).at
  pub reads : ReadsTime (get_or row.words 0 none).bytes time

-- it is not above the last
abbrev pub early : ℕ → ℕ → Line → Type 0
early r last row = (0 < r) × (time_of_lem row ≤ last)

-- the parts of `row_order`: 11 for a 65,536th row and for what is no time, 13 for an early one
abbrev pub time_order : ℕ → Type 0 → Line → Order
time_order r soon row =
    check 11 (At (get_or row.words 0 none).at (65535 ≤ r))
    ∷ check 11 (At (get_or row.words 0 none).at (is_time (get_or row.words 0 none).bytes ≡ false))
    ∷ check 13 (At (get_or row.words 0 none).at soon)
    ∷ []

-- the states, and 11 for a word behind them where nothing is passed over
abbrev pub rest_order : ℕ → Bool → Line → Order
rest_order k passed row =
    states_order row k
    ++ (check 11 (At (state_word row k).at ((passed ≡ false) × (k + 1 < length row.words))) ∷ [])

-- all rows, and 14 at the text's end where there is none
abbrev pub lines_order : ℕ → Bool → ℕ → List Line → Order
lines_order k passed size rows =
    rows_order k passed rows (length rows) ++ (check 14 (At size (length rows ≡ 0)) ∷ [])
