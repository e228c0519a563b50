-- What the listings of texts come to.
--   list_text_unique, values_text_unique    result and buffer afterwards follow from the input
--   lists_stays                             refused, the buffer is as before
use Rattle.std.specs.Prelude.{Err, Ok}
use Prim.Native.Nat.{ℕ, ◌/◌}
use mathlib.Core.Path.{◌≡◌, ap, sym, ◌∙◌}
use mathlib.Core.List.{List, [], ◌∷◌, ◌++◌}
use lib.ListN.{length, drop}
use Rattle.tokens.proofs.ShownBytes.{refused_in_unique}
use Rattle.alf.specs.declared.Rules.{Rules}
use Rattle.alf.specs.declared.Sort.{Sort}
use Rattle.alf.specs.declared.Sort.TheVariants as the_sort
use Rattle.basics.specs.declared.Refusal.{Refusal}
use Rattle.basics.specs.Refusing.{Outcome}
use Rattle.alf.specs.Expressions.{Expression, boolean, vector}
use Rattle.alf.specs.Refusals.{check, no_room}
use Rattle.alf.proofs.Outcomes.{Fixed, at_fixed, first_fixed, refused_passed}
use Rattle.alf.proofs.Orders.{Sole, sole_both, sole_fixed}
use Rattle.reader.specs.Reading.{read_order, Gives}
use Rattle.reader.proofs.Unique.{gives_unique}
use Rattle.text_laws.proofs.ReadTrees.{read_sole}
use Rattle.basics.specs.Memory.{after}
use Rattle.row_listings.specs.Listings.{OfGiven, list_order}
use Rattle.expression_listings.specs.TreeListings.{rows_order}
use Rattle.row_listings.specs.Listings.{Lists, lists, refuses, ListsPattern, ListsValues}
use Rattle.row_listings.proofs.TextListings.{vector_one, boolean_one}

module _ {A : Type 0} (ρ : Rules) (into : A → Expression) (one : (a b : A) → into a ≡ into b → a ≡ b)
    (sort : Sort) (shown : A → List ℕ) (names times states text : List ℕ) where
  given_one_lem : {a b : A} → Gives ρ names text sort (into a) → Gives ρ names text sort (into b) → a ≡ b
  given_one_lem g h = one _ _ (gives_unique g h)

  room_fixed : (room : ℕ) → Fixed (OfGiven ρ into names text sort (λ y. no_room (length (shown y)) room))
  room_fixed room p q a b =
      a.holds.there ∙ ap (λ (x : A). length (shown x)) (given_one_lem a.given b.given) ∙ sym b.holds.there

  order_sole : (room : ℕ) → Sole (list_order ρ into sort shown names times states text room)
  order_sole room =
      sole_both (read_order ρ names text sort) _ (read_sole ρ names text sort)
      (sole_fixed
      (rows_order (length names / 32) times states
      (check 9 (OfGiven ρ into names text sort (λ y. no_room (length (shown y)) room)) ∷ []))
      (at_fixed _ _, (first_fixed _, (room_fixed room, tt))))

  pub lists_unique : {out x y : List ℕ} {r s : Outcome} → Lists ρ into sort shown names times states text out x r
      → Lists ρ into sort shown names times states text out y s
      → (r ≡ s) × (x ≡ y)
  unfolding after
  lists_unique {out} (lists a p g k h) (lists b q j l i) =
      let e = given_one_lem g j in (
        ap Ok (k ∙ ap (λ (z : A). length (shown z)) e ∙ sym l),
        h ∙ ap (λ (z : A). shown z ++ drop (length (shown z)) out) e ∙ sym i,
      )
  lists_unique (lists a p g k h) (refuses b i) = absurd (refused_passed _ _ _ p b.by)
  lists_unique (refuses a h) (lists b q j l i) = absurd (refused_passed _ _ _ q a.by)
  lists_unique {out} (refuses a h) (refuses b i) =
      (ap Err (refused_in_unique text _ (order_sole (length out)) a b), h ∙ sym i)

module _ {names times states text out x y : List ℕ} {r s : Outcome} where
  pub list_text_unique : (ρ : Rules) → ListsPattern ρ names times states text out x r
      → ListsPattern ρ names times states text out y s
      → (r ≡ s) × (x ≡ y)
  list_text_unique ρ = lists_unique ρ vector vector_one the_sort.Vector _ names times states text

  pub values_text_unique : (ρ : Rules) → ListsValues ρ names times states text out x r
      → ListsValues ρ names times states text out y s
      → (r ≡ s) × (x ≡ y)
  values_text_unique ρ = lists_unique ρ boolean boolean_one the_sort.Boolean _ names times states text

pub lists_stays : {A : Type 0} {ρ : Rules} {into : A → Expression} {sort : Sort} {shown : A → List ℕ}
    {names times states text out out' : List ℕ} {r : Refusal}
    → Lists ρ into sort shown names times states text out out' (Err r) → out' ≡ out
lists_stays (refuses h e) = e
