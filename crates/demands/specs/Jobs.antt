-- Demand 1, for the calls that the program makes: from a text and a trace to a text, a line of the table, the
-- alternatives as lines, a corrected row, a trace with pins overwritten. Each has one result and one memory; refused,
-- the memory is as it was.
--   Single          any two results, and the memory with each, coincide
--   Demand1Jobs     what is promised of these calls
use Rattle.std.specs.Prelude.{Err}
use Rattle.std.specs.Prelude.{ℕ, ◌≡◌, List}
use Rattle.alternative_listings.specs.Calls.{WritesAlternatives}
use Rattle.column_listings.specs.Calls.{ValuesText}
use Rattle.row_listings.specs.Listings.{ListsPattern, ListsValues}
use Rattle.began_texts.specs.TextBegan.{ListsBeganText}
use Rattle.blank_calls.specs.Blanking.{Blanks}
use Rattle.kept_texts.specs.Keeping.{KeepsText}
use Rattle.jobs.specs.Counting.{CountsText}
use Rattle.jobs.specs.Lines.{TableLine}
use Rattle.letter_corrections.specs.Correcting.{CorrectsLetters}
use Rattle.alternative_listings.specs.AlternativesText.{RewritesText}
use Rattle.demands.specs.Promises.{Promised, One}
use Rattle.alf.specs.declared.Rules.{Rules}
use Rattle.alf.specs.declared.Sort.{Sort}

-- a call whose result tells of more than one refusal
pub record Single {R M : Type 0} (allows : R → M → Type 0) : Type 0 where
  pub one : (a b : R) (m n : M) → allows a m → allows b n → (a ≡ b) × (m ≡ n)

pub record Demand1Jobs (ρ : Rules) : Type 0 where
  pub count_text_lem : (names : List ℕ) (n : ℕ) (states text : List ℕ) → One (CountsText ρ names n states text)
  pub table_line : (names : List ℕ) (n : ℕ) (states text out : List ℕ)
      → Single (λ r m. TableLine ρ names n states text out m r)
  pub list_text : (names times states text out : List ℕ)
      → Promised Err (λ r m. ListsPattern ρ names times states text out m r) out
  pub list_began_text : (names times states text out : List ℕ)
      → Promised Err (λ r m. ListsBeganText ρ names times states text out m r) out
  pub values_text : (names times states text out : List ℕ)
      → Promised Err (λ r m. ListsValues ρ names times states text out m r) out
  pub list_values_lem : (times values out : List ℕ) → Promised Err (λ r m. ValuesText times values out m r) out
  pub alternatives_text : (names text out : List ℕ) → Single (λ r m. RewritesText ρ names text out m r)
  pub write_alternatives_lem : (names tree out : List ℕ) → Single (λ r m. WritesAlternatives ρ names tree out m r)
  pub correct_letters : (names n : ℕ) (states : List ℕ) (row : ℕ) (letters : List ℕ)
      → Promised Err (λ r m. CorrectsLetters names n states row letters m r) states
  pub keep_text : (names text : List ℕ) (sort : Sort) (kept : List ℕ)
      → Promised Err (λ r m. KeepsText ρ names text sort kept m r) kept
  pub blank : (names n : ℕ) (states kept : List ℕ) → Promised Err (λ r m. Blanks names n states kept m r) states
