-- The program `show` prints the activity listing, and a text that it printed is read again as the trace that it showed.
--   ReadAs         a text that is not refused, and what is read in it
--   shown_read     the activity listing of a trace is read as the trace
use Prim.Native.Nat.{ℕ}
use native.Mathlib.Omega.{arith}
use mathlib.Core.Path.{◌≡◌, refl}
use mathlib.Core.List.{List, [], ◌∷◌, map}
use lib.ListN.{length, get_or}
use Rattle.basics.specs.Words.{listed}
use Rattle.alf.specs.Names.{names_in}
use Rattle.alf.specs.Refusals.{Passed}
use Rattle.trace_format.specs.Format.{Trace}
use Rattle.activity.specs.Activity.{activity_text}
use Rattle.trace_texts.specs.Words.{Line, lines_of}
use Rattle.trace_texts.specs.Texts.{name_words}
use Rattle.trace_texts.specs.Texts.{names_made, times_made, states_made}
use Rattle.trace_texts.specs.Texts.{text_order}
use Rattle.trace_texts.proofs.Splitting.{said_by, spelt}
use Rattle.trace_text_laws.proofs.ShownLines.{head_words, row_words}
use Rattle.trace_text_laws.proofs.ShownLines.{listing_spelt}
use Rattle.trace_text_laws.proofs.Shown.{said_passes, said_names, said_times, said_states}

-- The listing is read as the trace.
pub record ReadAs (text names times states : List ℕ) : Type 0 where
  pub head : Line
  pub rows : List Line
  pub are : lines_of text ≡ head ∷ rows
  pub passes : Passed (text_order text)
  pub names_read : names_made head ≡ names
  pub times_read : times_made rows ≡ times
  pub states_read : states_made (length (name_words head)) rows ≡ states

read_as : {names times states : List ℕ} {n : ℕ} → Trace names times states n → (text : List ℕ) (ls : List Line)
    → lines_of text ≡ ls
    → map said_by ls
    ≡ head_words names (names_in names) ∷ listed 0 n (λ r. row_words names (names_in names) states (get_or times r 0) r)
    → ReadAs text names times states
unfolding text_order
read_as t text [] e said = let z : ◌≡◌ {A = ℕ} 0 1 = cc in absurd (omega arith)
read_as {names} {times} {states} {n} t text (head ∷ rows) e said =
    let first : said_by head ≡ head_words names (names_in names) = cc in
    let rest : map said_by rows ≡ listed 0 n (λ r. row_words names (names_in names) states (get_or times r 0) r) = cc in
    record {
      head = head;
      rows = rows;
      are = e;
      passes = rw e (said_passes t head rows first rest (length text));
      names_read = said_names t head rows first rest;
      times_read = said_times t head rows first rest;
      states_read = said_states t head rows first rest;
    }

pub shown_read : {names times states : List ℕ} {n : ℕ} → Trace names times states n
    → ReadAs (activity_text names times states n) names times states
unfolding lines_of
shown_read {names} {times} {states} {n} t =
    read_as t (activity_text names times states n) (lines_of (activity_text names times states n)) refl
    (spelt (listing_spelt t) 0)
