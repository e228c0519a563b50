-- The totals of a pattern's text on a trace of n rows: document 01's totals of the vector expression that the text
-- gives, as the rules read it (document 02, [2]), or a refusal.
--   trace_checks    18 and 15 of the trace
--   count_order     18 and 12 of the names, 1 to 8 of the text; then 18 and 15 of the trace. 10 is not among them: the
--                  tree comes from a text, so it is accepted
--   TotalsText     the totals of the pattern that the text gives
--   CountsIn, CountsText     what the call comes to
use Rattle.std.specs.Prelude.{Err, Ok}
use Rattle.std.specs.Prelude.{ℕ, List, [], ◌∷◌, ◌++◌, length}
use Rattle.alf.specs.declared.Rules.{Rules}
use Rattle.alf.specs.Names.{names_in}
use Rattle.alf.specs.declared.Sort.TheVariants as sort
use Rattle.alf.specs.Expressions.{Vector, vector}
use Rattle.alf.specs.Steady.{meant}
use Rattle.alf.specs.Values.{state_at}
use Rattle.alf.specs.Traces.{Totals}
use Rattle.alf.specs.Refusals.{Order, check, bad_lists, bad_code, Passed}
use Rattle.tokens.specs.Extents.{RefusedIn}
use Rattle.reader.specs.Reading.{read_order, Gives}
use Rattle.matching_calls.specs.Matching.{Counting}
use Rattle.judging.specs.Orders.{Rows}

-- 18 and 15 of a trace of n rows
abbrev pub trace_checks : ℕ → ℕ → List ℕ → Order
trace_checks k n states = check 18 (bad_lists (Rows k n (length states))) ∷ check 15 (bad_code states) ∷ []

abbrev pub count_order : Rules → List ℕ → ℕ → List ℕ → List ℕ → Order
count_order ρ names n states text = read_order ρ names text sort.Vector ++ trace_checks (names_in names) n states

-- the totals of the pattern that the text gives, as it is read
pub record TotalsText (ρ : Rules) (names : List ℕ) (n : ℕ) (states text : List ℕ) (yes no unknown : ℕ) : Type 0 where
  pub pattern : Vector
  pub given : Gives ρ names text sort.Vector (vector pattern)
  pub totals : Totals (state_at ρ (names_in names) states) (meant ρ pattern) n yes no unknown

-- counted, where no row of the order holds; else refused, and what is refused of the text is shown
unfoldable pub CountsIn : List ℕ → Order → (ℕ → ℕ → ℕ → Type 0) → Counting → Type 0
CountsIn text o right (Ok t) = Passed o × right t.yes t.no t.unknown
CountsIn text o right (Err r) = RefusedIn text o r

pub record CountsText (ρ : Rules) (names : List ℕ) (n : ℕ) (states text : List ℕ) (r : Counting) : Type 0 where
  pub comes : CountsIn text (count_order ρ names n states text) (TotalsText ρ names n states text) r
