-- Document 01, "Table T and its answers": what each of the cases 1 to 12 says, from its text to its answers. The table
-- of the cases, with the document's texts, and the trace T stand in alf/specs/TableT.
--   Answered      a text of a vector expression, and its answers at rows 0 to 5
--   Valued        a text of a boolean expression, and its values there
--   Corrected     the answers once a row is corrected, and the entries that are rewritten
--   Stands        what a case of the table says
--   AllStand      each of some cases does
use Rattle.std.specs.Prelude.{ℕ, ◌≡◌, List}
use Rattle.basics.specs.Words.{listed, All}
use Rattle.alf.specs.declared.Rules.{Rules}
use Rattle.alf.specs.declared.Sort.TheVariants as sort
use Rattle.alf.specs.Expressions.{Boolean, Vector, boolean, vector}
use Rattle.alf.specs.Values.{value_at}
use Rattle.alf.specs.Traces.{corrected}
use Rattle.alf.specs.Steady.{meant}
use Rattle.alf.specs.TableT.{names, rows, slots, states, Case, answers, values, correction, numbers, entries}
use Rattle.reader.specs.Reading.{Gives}

-- for the names A, B, C the text gives the pattern p; on T, p, as the rules read it, answers ns, a number for each row
pub record Answered (ρ : Rules) (text : List ℕ) (p : Vector) (ns : List ℕ) : Type 0 where
  pub gives : Gives ρ slots text sort.Vector (vector p)
  pub answers_are : numbers ρ states (meant ρ p) ≡ ns

-- for the names A, B, C the text gives the boolean expression c; on T, c has the values vs
pub record Valued (ρ : Rules) (text : List ℕ) (c : Boolean) (vs : List ℕ) : Type 0 where
  pub gives : Gives ρ slots text sort.Boolean (boolean c)
  pub values_are : listed 0 rows (value_at ρ names states c) ≡ vs

-- for the names A, B, C the text gives the pattern p; on T with the states `new` in row r, p answers ns, and of a list
-- of answers the correction of row r rewrites the entries es
pub record Corrected (ρ : Rules) (text : List ℕ) (p : Vector) (r : ℕ) (new ns es : List ℕ) : Type 0 where
  pub gives : Gives ρ slots text sort.Vector (vector p)
  pub answers_are : numbers ρ (corrected names states r new) (meant ρ p) ≡ ns
  pub entries_are : entries (meant ρ p) r ≡ es

unfoldable pub Stands : Rules → Case → Type 0
Stands ρ (answers text p ns) = Answered ρ text p ns
Stands ρ (values text c vs) = Valued ρ text c vs
Stands ρ (correction text p r new ns es) = Corrected ρ text p r new ns es

abbrev pub AllStand : Rules → List Case → Type 0
AllStand ρ = All (Stands ρ)
