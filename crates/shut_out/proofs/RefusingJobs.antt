-- Shut out: "refusing everything (the table says 'exactly when')", for the calls that go from a text to what is asked
-- of it. Good input is a text of at most 4,096 bytes that gives an expression over good names (Readable), a good trace
-- (GoodTrace), and room for what is to be written.
--   Countable, count_text_lem                   the totals of a text
--   InLine, counted_in_line, table_line     its line: what is counted is count_text's; the line is refused with 9 only
--   LettersGood, correct_letters            the correction of a row by letters
--   TextListable, list_text, values_text    the listings of what a text gives
-- `list_values` stands in Refusing, the alternatives as lines in RefusingAlternatives. `add`, `no_sums` and
-- `row_number_lem` have nothing to refuse.
use Rattle.std.specs.Prelude.{Err, Ok}
use Prim.Native.Nat.{ℕ, ◌/◌, ◌<◌, ◌≤◌}
use native.Mathlib.Omega.{arith}
use mathlib.Core.Path.{◌≡◌, refl}
use mathlib.Core.Logic.{◌⊎◌, inl, inr}
use mathlib.Core.List.{List, map}
use lib.ListN.{length}
use Rattle.alf.specs.declared.Rules.{Rules}
use Rattle.alf.specs.declared.Sort.{Sort}
use Rattle.alf.specs.declared.Sort.TheVariants as sort
use Rattle.basics.specs.Refusing.{Outcome}
use Rattle.alf.specs.Expressions.{Boolean, Vector, Expression, boolean, vector}
use Rattle.alf.specs.Steady.{meant}
use Rattle.alf.specs.Refusals.{Order, Passed, Comes}
use Rattle.alf.proofs.Orders.{passed_both}
use Rattle.reader.specs.Reading.{read_order, Gives}
use Rattle.states.specs.FirstBadCode.{Codes}
use Rattle.matching_calls.specs.Matching.{Counting}
use Rattle.basics.specs.Memory.{after}
use Rattle.call_laws.proofs.Passing.{codes_never}
use Rattle.figures.specs.Delivering.{line_order}
use Rattle.tree_listings.specs.TreeTexts.{pattern_listing}
use Rattle.row_listings.specs.Listings.{list_order}
use Rattle.expression_listings.specs.TreeListings.{value_listing}
use Rattle.row_listings.specs.Listings.{Lists, lists, refuses, ListsPattern, ListsValues}
use Rattle.row_listings.proofs.TextListings.{vector_one, boolean_one}
use Rattle.row_listings.proofs.ListingTheorems.{lists_unique}
use Rattle.jobs.specs.Counting.{count_order, TotalsText, CountsIn, CountsText}
use Rattle.jobs.specs.Lines.{line_of, TableLine}
use Rattle.state_letters.specs.Letters.{state_of}
use Rattle.letter_corrections.specs.Correcting.{letters_order, CorrectsLetters}
use Rattle.jobs.proofs.TextCounts.{counts_unique}
use Rattle.letter_corrections.proofs.LetterCorrections.{letters_unique}
use Rattle.shut_out.specs.Reasons.{IsRefusal, Exactly, ExactlyIn}
use Rattle.shut_out.proofs.Reasons.{exactly, exactly_in, narrowed, comes_parts, ComesIn, comes_in_parts, None}
use Rattle.shut_out.proofs.Reasons.{both}
use Rattle.shut_out.proofs.Refusing.{line}
use Rattle.shut_out.proofs.RefusingRows.{GoodTrace}
use Rattle.shut_out.proofs.RefusingTexts.{Readable, read_passes}

-- The totals of a text, and its line.
module _ (ρ : Rules) (names : List ℕ) (n : ℕ) (states text : List ℕ) where
  pub record Countable : Type 0 where
    pub readable : Readable ρ names text sort.Vector
    pub trace : GoodTrace (length names / 32) n states

  count_passes : Countable → Passed (count_order ρ names n states text)
  unfolding Passed
  count_passes g =
      passed_both (read_order ρ names text sort.Vector) _ (read_passes ρ names text sort.Vector g.readable)
      (λ p a. a.given g.trace.lists, (codes_never states g.trace.codes, tt))

  text_parts : (x : Counting)
      → CountsIn text (count_order ρ names n states text) (TotalsText ρ names n states text) x
      → Passed (count_order ρ names n states text) ⊎ IsRefusal Err x
  unfolding CountsIn
  text_parts (Ok t) w = inl w.0
  text_parts (Err r) w = inr (r, refl)

  pub count_text_lem : ExactlyIn {M = None} text Countable (count_order ρ names n states text) Err
      (λ r m. CountsText ρ names n states text r) tt
  unfolding CountsIn
  count_text_lem =
      exactly_in text count_passes
      (record {
        reason = λ r m w. w.comes;
        parts = λ x m w. text_parts x w.comes;
        refuses = λ r h. record { comes = h };
        one = both (λ a b x y. counts_unique x y);
      })

  module _ (out : List ℕ) where
    -- c is counted, whatever is written
    pub record InLine (c : Counting) : Type 0 where
      pub written : Outcome
      pub out' : List ℕ
      pub made : TableLine ρ names n states text out out' (record { counted = c; written = written })

    pub counted_in_line :
        ExactlyIn {M = None} text Countable (count_order ρ names n states text) Err
        (λ r m. InLine r) tt
    counted_in_line = narrowed count_text_lem (λ x m w. w.made.counts)

    -- whatever is counted, the line is refused with 9, where there is no room for it
    pub table_line : (c : Counting)
        → Exactly (length (line_of text n c) ≤ length out) (line_order (line_of text n c) (length out)) Err
        (λ r m. TableLine ρ names n states text out m (record { counted = c; written = r })) out
    table_line c = narrowed (line out (line_of text n c)) (λ x m w. w.writes)

-- The correction of a row by letters.
module _ (k n : ℕ) (states : List ℕ) (row : ℕ) (letters : List ℕ) where
  pub record LettersGood : Type 0 where
    pub trace : GoodTrace k n states
    pub full : length letters ≡ k
    pub known : Codes (map state_of letters)
    pub there : row < n

  letters_pass : LettersGood → Passed (letters_order k n states row letters)
  unfolding Passed
  letters_pass g = (
    λ p a. a.given (record { rows = g.trace.lists; full = g.full }),
    (
      codes_never states g.trace.codes,
      (codes_never (map state_of letters) g.known, (λ p a. omega (arith, g.there, a.given), tt)),
    ),
  )

  pub correct_letters : Exactly LettersGood (letters_order k n states row letters) Err
      (λ r m. CorrectsLetters k n states row letters m r) states
  unfolding Comes after
  correct_letters =
      exactly letters_pass
      (record {
        reason = λ r m w. w.comes;
        parts = λ x m w. comes_parts _ _ x w.comes;
        refuses = λ r h. record { comes = h; memory = refl };
        one = λ a b x y v w. letters_unique v w;
      })

-- The listing of what a text gives.
module _ (ρ : Rules) {A : Type 0} (into : A → Expression) (of : Sort) (shown : A → List ℕ)
    (names times states text out : List ℕ) where
  pub record TextListable : Type 0 where
    pub readable : Readable ρ names text of
    pub trace : GoodTrace (length names / 32) (length times) states
    pub room : (x : A) → Gives ρ names text of (into x) → length (shown x) ≤ length out

  abbrev whole : Order
  whole = list_order ρ into of shown names times states text (length out)

  texts_pass : TextListable → Passed whole
  unfolding Passed
  texts_pass g =
      passed_both (read_order ρ names text of) _ (read_passes ρ names text of g.readable) (
        λ p a. a.given g.trace.lists,
        (
          codes_never states g.trace.codes,
          (λ p a. omega (arith, g.room a.it a.given, a.holds.given), tt),
        ),
      )

  lists_comes : {x : Outcome} {m : List ℕ} → Lists ρ into of shown names times states text out m x
      → ComesIn text whole x
  unfolding ComesIn
  lists_comes (lists x p g e h) = p
  lists_comes (refuses a h) = a

  lists_exactly : ((a b : A) → into a ≡ into b → a ≡ b) → ExactlyIn text TextListable whole Err
      (λ r m. Lists ρ into of shown names times states text out m r) out
  unfolding ComesIn
  lists_exactly one =
      exactly_in text texts_pass
      (record {
        reason = λ r m w. lists_comes w;
        parts = λ x m w. comes_in_parts text whole x (lists_comes w);
        refuses = λ r h. refuses h refl;
        one = λ a b m n x y. lists_unique ρ into one of shown names times states text x y;
      })

module _ (names times states text out : List ℕ) where
  abbrev pub answers_shown : Rules → Vector → List ℕ
  answers_shown ρ p = pattern_listing ρ (length names / 32) times states (meant ρ p)

  abbrev pub values_shown : Rules → Boolean → List ℕ
  values_shown ρ = value_listing ρ (length names / 32) times states

  pub list_text : (ρ : Rules)
      → ExactlyIn text (TextListable ρ vector sort.Vector (answers_shown ρ) names times states text out)
      (list_order ρ vector sort.Vector (answers_shown ρ) names times states text (length out)) Err
      (λ r m. ListsPattern ρ names times states text out m r) out
  list_text ρ = lists_exactly ρ vector sort.Vector (answers_shown ρ) names times states text out vector_one

  pub values_text : (ρ : Rules)
      → ExactlyIn text (TextListable ρ boolean sort.Boolean (values_shown ρ) names times states text out)
      (list_order ρ boolean sort.Boolean (values_shown ρ) names times states text (length out)) Err
      (λ r m. ListsValues ρ names times states text out m r) out
  values_text ρ = lists_exactly ρ boolean sort.Boolean (values_shown ρ) names times states text out boolean_one
