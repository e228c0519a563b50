-- Listings of what a text gives, on a trace: a pattern's text comes to the listing of its answers, the text of a
-- boolean expression to the listing of its values; or refused. The pattern is taken as the rules read it (document 02,
-- [2]).
--   OfGiven                      a row of the order that speaks of what the text gives
--   list_order                    the refusals in their order
--   ListsPattern, ListsValues    what the calls come to: one contract, Lists, over what the text gives
--   ListsAs                      what the function inside gives
-- That result and buffer follow from the input is a law.
use Rattle.std.specs.Prelude.{Err, Ok}
use Rattle.std.specs.Prelude.{ℕ, ◌/◌, ◌≡◌, List, [], ◌∷◌, ◌++◌, length}
use Rattle.alf.specs.declared.Rules.{Rules}
use Rattle.alf.specs.declared.Sort.{Sort}
use Rattle.alf.specs.declared.Sort.TheVariants as the_sort
use Rattle.basics.specs.declared.Refusal.{Refusal}
use Rattle.basics.specs.Refusing.{Outcome}
use Rattle.alf.specs.Expressions.{Expression, boolean, vector}
use Rattle.alf.specs.Steady.{meant}
use Rattle.alf.specs.Refusals.{Row, Order, check, no_room, Passed}
use Rattle.tokens.specs.Extents.{RefusedIn}
use Rattle.reader.specs.Reading.{read_order, Gives}
use Rattle.basics.specs.Memory.{after, front}
use Rattle.tree_listings.specs.TreeTexts.{pattern_listing}
use Rattle.expression_listings.specs.TreeListings.{value_listing, rows_order}

-- a row that speaks of what the text gives, as an expression of the sort
pub record OfGiven {A : Type 0} (ρ : Rules) (into : A → Expression) (names text : List ℕ) (sort : Sort)
    (row : A → Row) (p : ℕ) : Type 0 where
  pub it : A
  pub given : Gives ρ names text sort (into it)
  pub holds : row it p

-- all that reading refuses, then 18 and 15 of the trace, then 9
abbrev pub list_order :
    {A : Type 0} → Rules → (A → Expression) → Sort → (A → List ℕ) → List ℕ → List ℕ → List ℕ
    → List ℕ → ℕ
    → Order
list_order ρ into sort shown names times states text room =
    read_order ρ names text sort
    ++ rows_order (length names / 32) times states
    (check 9 (OfGiven ρ into names text sort (λ x. no_room (length (shown x)) room)) ∷ [])

-- done: the text gives something, and its listing is at the front of the buffer; refused: the buffer is as before
pub data Lists {A : Type 0} (ρ : Rules) (into : A → Expression) (sort : Sort) (shown : A → List ℕ)
    (names times states text out out' : List ℕ) : Outcome → Type 0 where
  lists :
      {m : ℕ} (x : A) →
      Passed (list_order ρ into sort shown names times states text (length out)) →
      Gives ρ names text sort (into x) →
      m ≡ length (shown x) →
      out' ≡ after (front (shown x) out) out (Ok m) →
      Lists ρ into sort shown names times states text out out' (Ok m)
  refuses :
      {r : Refusal} →
      RefusedIn text (list_order ρ into sort shown names times states text (length out)) r →
      out' ≡ out →
      Lists ρ into sort shown names times states text out out' (Err r)

-- of names, times, states, a text, and the buffer before and after
abbrev pub ListsPattern : Rules → List ℕ → List ℕ → List ℕ → List ℕ → List ℕ → List ℕ → Outcome
    → Type 0
ListsPattern ρ names times states =
    Lists ρ vector the_sort.Vector (λ p. pattern_listing ρ (length names / 32) times states (meant ρ p)) names times
    states

abbrev pub ListsValues : Rules → List ℕ → List ℕ → List ℕ → List ℕ → List ℕ → List ℕ → Outcome
    → Type 0
ListsValues ρ names times states =
    Lists ρ boolean the_sort.Boolean (value_listing ρ (length names / 32) times states) names times states

-- either, by the sort
unfoldable pub ListsAs : Rules → Sort → List ℕ → List ℕ → List ℕ → List ℕ → List ℕ → List ℕ → Outcome
    → Type 0
ListsAs ρ the_sort.Vector = ListsPattern ρ
ListsAs ρ the_sort.Boolean = ListsValues ρ
