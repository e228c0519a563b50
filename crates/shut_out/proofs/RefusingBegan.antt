-- The listing with where each match began, from a text: refused exactly where its order says.
--   Listable          a text that gives a pattern, a trace with times that rise, and room
--   list_began_text   no refusal without reason, no acceptance without reason, no other number, place or memory
use Rattle.std.specs.Prelude.{Err}
use Prim.Native.Nat.{ℕ, ◌/◌, ◌≤◌}
use native.Mathlib.Omega.{arith}
use mathlib.Core.Path.{◌≡◌, refl}
use mathlib.Core.List.{List}
use lib.ListN.{length}
use Rattle.basics.specs.Refusing.{Outcome}
use Rattle.alf.specs.declared.Rules.{Rules}
use Rattle.alf.specs.declared.Sort.TheVariants as sort
use Rattle.alf.specs.Expressions.{Vector, vector}
use Rattle.alf.specs.Refusals.{Order, Passed, Rising}
use Rattle.alf.proofs.Orders.{passed_both}
use Rattle.reader.specs.Reading.{read_order, Gives}
use Rattle.call_laws.proofs.Passing.{codes_never, times_never}
use Rattle.began_texts.specs.TextBegan.{shown, text_order, ListsBeganText, lists, refuses}
use Rattle.began_texts.proofs.Theorems.{began_text_unique}
use Rattle.shut_out.specs.Reasons.{ExactlyIn}
use Rattle.shut_out.proofs.Reasons.{exactly_in, ComesIn, comes_in_parts}
use Rattle.shut_out.proofs.RefusingRows.{GoodTrace}
use Rattle.shut_out.proofs.RefusingTexts.{Readable, read_passes}

module _ (ρ : Rules) (names times states text out : List ℕ) where
  pub record Listable : Type 0 where
    pub readable : Readable ρ names text sort.Vector
    pub trace : GoodTrace (length names / 32) (length times) states
    pub rising : Rising times
    pub room : (p : Vector) → Gives ρ names text sort.Vector (vector p)
        → length (shown ρ names times states p) ≤ length out

  abbrev whole : Order
  whole = text_order ρ names times states text (length out)

  passes : Listable → Passed whole
  unfolding Passed
  passes g =
      passed_both (read_order ρ names text sort.Vector) _ (read_passes ρ names text sort.Vector g.readable) (
        λ p a. a.given g.trace.lists,
        (
          codes_never states g.trace.codes,
          (
            times_never times g.rising,
            (λ p a. omega (arith, g.room a.it a.given, a.holds.given), tt),
          ),
        ),
      )

  comes : {x : Outcome} {m : List ℕ} → ListsBeganText ρ names times states text out m x → ComesIn text whole x
  unfolding ComesIn
  comes (lists p q g e h) = q
  comes (refuses a h) = a

  pub list_began_text : ExactlyIn text Listable whole Err
      (λ r m. ListsBeganText ρ names times states text out m r) out
  unfolding ComesIn
  list_began_text =
      exactly_in text passes
      (record {
        reason = λ r m w. comes w;
        parts = λ x m w. comes_in_parts text whole x (comes w);
        refuses = λ r h. refuses h refl;
        one = λ a b m n x y. began_text_unique ρ names times states text x y;
      })
