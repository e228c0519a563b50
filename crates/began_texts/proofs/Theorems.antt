-- What the listing of a text comes to.
--   began_text_unique   result and buffer afterwards follow from the input
--   began_text_stays    refused, the buffer is as before
use Rattle.std.specs.Prelude.{Err, Ok}
use Prim.Native.Nat.{ℕ, ◌/◌}
use mathlib.Core.Path.{◌≡◌, ap, sym, ◌∙◌}
use mathlib.Core.List.{List, [], ◌∷◌}
use lib.ListN.{length}
use Rattle.basics.specs.declared.Refusal.{Refusal}
use Rattle.basics.specs.Refusing.{Outcome}
use Rattle.basics.specs.Memory.{after, front}
use Rattle.alf.specs.declared.Rules.{Rules}
use Rattle.alf.specs.declared.Sort.TheVariants as sort
use Rattle.alf.specs.Expressions.{Vector, vector}
use Rattle.alf.specs.Refusals.{check, no_room}
use Rattle.alf.proofs.Outcomes.{Fixed, at_fixed, first_fixed, refused_passed}
use Rattle.alf.proofs.Orders.{Sole, sole_both, sole_fixed}
use Rattle.tokens.proofs.ShownBytes.{refused_in_unique}
use Rattle.reader.specs.Reading.{read_order, Gives}
use Rattle.reader.proofs.Unique.{gives_unique}
use Rattle.text_laws.proofs.ReadTrees.{read_sole}
use Rattle.row_listings.specs.Listings.{OfGiven}
use Rattle.row_listings.proofs.TextListings.{vector_one}
use Rattle.began_texts.specs.TextBegan.{shown, timed_trace, text_order, ListsBeganText, lists, refuses}

module _ (ρ : Rules) (names times states text : List ℕ) where
  given_one_lem : {a b : Vector} → Gives ρ names text sort.Vector (vector a) → Gives ρ names text sort.Vector (vector b)
      → a ≡ b
  given_one_lem g h = vector_one _ _ (gives_unique g h)

  room_fixed : (room : ℕ)
      → Fixed (OfGiven ρ vector names text sort.Vector (λ y. no_room (length (shown ρ names times states y)) room))
  room_fixed room p q a b =
      a.holds.there ∙ ap (λ (x : Vector). length (shown ρ names times states x)) (given_one_lem a.given b.given)
      ∙ sym b.holds.there

  order_sole : (room : ℕ) → Sole (text_order ρ names times states text room)
  order_sole room =
      sole_both (read_order ρ names text sort.Vector) _ (read_sole ρ names text sort.Vector)
      (sole_fixed
      (timed_trace (length names / 32) times states
      (check 9 (OfGiven ρ vector names text sort.Vector (λ y. no_room (length (shown ρ names times states y)) room))
      ∷ []))
      (at_fixed _ _, (first_fixed _, (first_fixed _, (room_fixed room, tt)))))

  pub began_text_unique : {out x y : List ℕ} {r s : Outcome} → ListsBeganText ρ names times states text out x r
      → ListsBeganText ρ names times states text out y s
      → (r ≡ s) × (x ≡ y)
  unfolding after
  began_text_unique {out} (lists a p g k h) (lists b q j l i) =
      let e = given_one_lem g j in (
        ap Ok (k ∙ ap (λ (z : Vector). length (shown ρ names times states z)) e ∙ sym l),
        h ∙ ap (λ (z : Vector). front (shown ρ names times states z) out) e ∙ sym i,
      )
  began_text_unique (lists a p g k h) (refuses b i) = absurd (refused_passed _ _ _ p b.by)
  began_text_unique (refuses a h) (lists b q j l i) = absurd (refused_passed _ _ _ q a.by)
  began_text_unique {out} (refuses a h) (refuses b i) =
      (ap Err (refused_in_unique text _ (order_sole (length out)) a b), h ∙ sym i)

  pub began_text_stays : {out out' : List ℕ} {r : Refusal}
      → ListsBeganText ρ names times states text out out' (Err r)
      → out' ≡ out
  began_text_stays (refuses h e) = e
