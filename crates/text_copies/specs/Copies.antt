-- The trace that a text is, copied out of it.
--   codes_at                       the codes of a row
--   NamesFit, CodesFit, RowsFit   there is room, and what is copied is good
--   RowsMade                      times and states are at the front
use Rattle.std.specs.Prelude.{ℕ, ◌+◌, ◌<◌, ◌≤◌, ◌≡◌, true, List, [], length, get_or}
use Rattle.basics.specs.Words.{listed}
use Rattle.basics.specs.Memory.{front}
use Rattle.trace_texts.specs.Words.{Line, line}
use Rattle.trace_texts.specs.Texts.{none, name_words, is_time, code_of, state_word, names_made, times_made, states_made}
use Rattle.trace_texts.specs.Finding.{from, said_from}

abbrev pub codes_at : ℕ → Line → List ℕ
codes_at k row = listed 0 k (λ i. code_of (state_word row i).bytes)

-- k names of at most 32 bytes, and room for their slots
pub record NamesFit (text : List ℕ) (p k : ℕ) (out : List ℕ) : Type 0 where
  pub within : p ≤ length text
  pub counted : k ≡ length (name_words (from text p).first)
  pub short : (i : ℕ) → i < k → length (get_or (name_words (from text p).first) i none).bytes ≤ 32
  pub room : length (names_made (from text p).first) ≤ length out

-- room for k codes
pub record CodesFit (text : List ℕ) (p k : ℕ) (out : List ℕ) (at : ℕ) : Type 0 where
  pub within : p ≤ length text
  pub few : k ≤ 32
  pub room : at + k ≤ length out

-- n rows with a time each, and room for all
pub record RowsFit (text : List ℕ) (p k n : ℕ) (times states : List ℕ) : Type 0 where
  pub within : p ≤ length text
  pub few : k ≤ 32
  pub counted : n ≡ length (said_from text p)
  pub timely : (r : ℕ) → r < n → is_time (get_or (get_or (said_from text p) r (line [] 0)).words 0 none).bytes ≡ true
  pub times_room : length (times_made (said_from text p)) ≤ length times
  pub states_room : length (states_made k (said_from text p)) ≤ length states

pub record RowsMade (k : ℕ) (rows : List Line) (times states times' states' : List ℕ) : Type 0 where
  pub times_now : times' ≡ front (times_made rows) times
  pub states_now : states' ≡ front (states_made k rows) states
