-- The listing with where each match began (document 02, [12]), of the pattern that a text gives, on a trace; or
-- refused. The pattern is taken as the rules read it.
--   shown            the listing of a pattern
--   timed_trace, text_order     the refusals in their order
--   ListsBeganText   what the call comes to
-- That result and buffer follow from the input is a law.
use Rattle.std.specs.Prelude.{Err, Ok}
use Rattle.std.specs.Prelude.{ℕ, ◌/◌, ◌≡◌, List, [], ◌∷◌, ◌++◌, length}
use Rattle.basics.specs.declared.Refusal.{Refusal}
use Rattle.basics.specs.Refusing.{Outcome}
use Rattle.basics.specs.Memory.{after, front}
use Rattle.alf.specs.declared.Rules.{Rules}
use Rattle.alf.specs.declared.Sort.TheVariants as sort
use Rattle.alf.specs.Expressions.{Vector, vector}
use Rattle.alf.specs.Steady.{meant}
use Rattle.alf.specs.Refusals.{Order, check, bad_lists, bad_code, early_row, no_room, Passed}
use Rattle.tokens.specs.Extents.{RefusedIn}
use Rattle.reader.specs.Reading.{read_order, Gives}
use Rattle.judging.specs.Orders.{Rows}
use Rattle.row_listings.specs.Listings.{OfGiven}
use Rattle.began_listings.specs.BeganTexts.{pattern_began}

abbrev pub shown : Rules → List ℕ → List ℕ → List ℕ → Vector → List ℕ
shown ρ names times states p = pattern_began ρ (length names / 32) times states (meant ρ p)

-- 18, 15 and 13 of a trace, and what comes then
abbrev pub timed_trace : ℕ → List ℕ → List ℕ → Order → Order
timed_trace k times states rest =
    check 18 (bad_lists (Rows k (length times) (length states)))
    ∷ check 15 (bad_code states)
    ∷ check 13 (early_row times)
    ∷ rest

-- all that reading refuses, then 18, 15 and 13 of the trace, then 9
abbrev pub text_order : Rules → List ℕ → List ℕ → List ℕ → List ℕ → ℕ → Order
text_order ρ names times states text room =
    read_order ρ names text sort.Vector
    ++ timed_trace (length names / 32) times states
    (check 9 (OfGiven ρ vector names text sort.Vector (λ p. no_room (length (shown ρ names times states p)) room))
    ∷ [])

-- done: the text gives a pattern, and its listing is at the front of the buffer; refused: the buffer is as before
pub data ListsBeganText (ρ : Rules) (names times states text out out' : List ℕ) : Outcome → Type 0 where
  lists :
      {m : ℕ} (p : Vector) →
      Passed (text_order ρ names times states text (length out)) →
      Gives ρ names text sort.Vector (vector p) →
      m ≡ length (shown ρ names times states p) →
      out' ≡ after (front (shown ρ names times states p) out) out (Ok m) →
      ListsBeganText ρ names times states text out out' (Ok m)
  refuses :
      {r : Refusal} →
      RefusedIn text (text_order ρ names times states text (length out)) r →
      out' ≡ out →
      ListsBeganText ρ names times states text out out' (Err r)
