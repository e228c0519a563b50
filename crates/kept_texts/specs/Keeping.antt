-- Document 02, [11]: the pins that a text's expression names, as it is written, are kept too; or refused.
--   keep_order     all that reading refuses; then 18 for a table that has not an entry for each name
--   KeepsText     what the call comes to
-- The rules do not change which pins are named. They are handed in because reading counts limit 8 by them.
use Rattle.std.specs.Prelude.{Err, Ok}
use Rattle.std.specs.Prelude.{ℕ, ◌≡◌, List, [], ◌∷◌, ◌++◌, length}
use Rattle.basics.specs.declared.Refusal.{Refusal}
use Rattle.basics.specs.Refusing.{Outcome}
use Rattle.alf.specs.declared.Rules.{Rules}
use Rattle.alf.specs.declared.Sort.{Sort}
use Rattle.alf.specs.Names.{names_in}
use Rattle.alf.specs.Expressions.{Expression}
use Rattle.alf.specs.Refusals.{Order, check, bad_lists, Passed}
use Rattle.tokens.specs.Extents.{RefusedIn}
use Rattle.reader.specs.Reading.{read_order, Gives}
use Rattle.named_pins.specs.Pins.{named}
use Rattle.named_pins.specs.Tables.{joined}

-- a table has an entry for each name
abbrev pub table_checks : List ℕ → List ℕ → Order
table_checks names kept = check 18 (bad_lists (length kept ≡ names_in names)) ∷ []

abbrev pub keep_order : Rules → List ℕ → List ℕ → Sort → List ℕ → Order
keep_order ρ names text sort kept = read_order ρ names text sort ++ table_checks names kept

-- done: the text gives an expression, and the table keeps its pins too; refused: the table is as before
pub data KeepsText (ρ : Rules) (names text : List ℕ) (sort : Sort) (kept kept' : List ℕ) : Outcome → Type 0 where
  keeps :
      {m : ℕ} (x : Expression) →
      Passed (keep_order ρ names text sort kept) →
      Gives ρ names text sort x →
      m ≡ names_in names →
      kept' ≡ joined (named x) kept →
      KeepsText ρ names text sort kept kept' (Ok m)
  refuses :
      {r : Refusal} →
      RefusedIn text (keep_order ρ names text sort kept) r →
      kept' ≡ kept →
      KeepsText ρ names text sort kept kept' (Err r)
