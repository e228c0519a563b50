-- From a text to the listing of what it gives.
--   pattern_refused, values_refused    a text that is refused
--   found_listing                any other: the listing of what is read is that of the expression given
--   text_lists                   with the listing of the rows, the contract, for either sort
--   pattern_lists, values_lists  for a pattern, for a boolean expression
--   sort_refused, sort_lists     for either, by the sort
--   vector_one, boolean_one      either is one expression
use Rattle.std.specs.Prelude.{Err, Ok}
use Prim.Native.Nat.{ℕ, ◌/◌}
use mathlib.Core.Path.{◌≡◌, refl, ap, ◌∙◌}
use mathlib.Core.Logic.{inl, inr}
use mathlib.Core.List.{List, [], ◌∷◌}
use lib.ListN.{length, take}
use Rattle.alf.specs.declared.Rules.{Rules}
use Rattle.alf.specs.declared.Sort.{Sort}
use Rattle.alf.specs.declared.Sort.TheVariants as the_sort
use Rattle.basics.specs.Refusing.{Outcome}
use Rattle.alf.specs.Expressions.{Boolean, Vector, Expression, boolean, vector}
use Rattle.alf.specs.Steady.{meant}
use Rattle.basics.specs.Words.{all}
use Rattle.basics.specs.declared.Refusal.{Refusal}
use Rattle.alf.specs.States.{among}
use Rattle.alf.specs.Refusals.{check, no_room, RefusedWith, RefusedBy, Passed, Comes, numbers_of}
use Rattle.alf.proofs.Orders.{passed_both}
use Rattle.tokens.specs.Extents.{RefusedIn}
use Rattle.tokens.proofs.ShownBytes.{in_first, in_then, in_silent}
use Rattle.acceptance.proofs.Acceptance.{decoded}
use Rattle.reader.specs.declared.Read.{Read}
use Rattle.reader.specs.Reading.{read_order, Gives, ReadsText}
use Rattle.reader.proofs.Unique.{gives_unique}
use Rattle.text_laws.proofs.ReadTrees.{Found, read_refused, found_decodes, found_vector, vector_given, found_boolean}
use Rattle.basics.specs.Memory.{after, front}
use Rattle.tree_listings.specs.TreeTexts.{pattern_listing}
use Rattle.row_listings.specs.Listings.{OfGiven}
use Rattle.expression_listings.specs.TreeListings.{value_listing, rows_order}
use Rattle.row_listings.specs.Listings.{Lists, lists, refuses, ListsPattern, ListsValues}
use Rattle.expression_listings.specs.TreeListings.{RowsText, listing_of}
use Rattle.row_listings.specs.Listings.{ListsAs}
use Rattle.expression_listings.specs.TreeListings.{tree_listing}
use Rattle.expression_listings.proofs.RowListings.{text_as}

found_listing : (ρ : Rules) {names text : List ℕ} {sort : Sort} {r : Read} (f : Found ρ names text sort r)
    (times states : List ℕ)
    → tree_listing ρ (length names / 32) times states (take r.len r.tree)
    ≡ listing_of ρ (length names / 32) times states f.it
found_listing ρ {names} {r = r} f times states =
    ap (listing_of ρ (length names / 32) times states)
    (decoded (length names / 32) (take r.len r.tree) f.it (found_decodes f))

-- the contract, for what the text gives
module _ {A : Type 0} (ρ : Rules) (into : A → Expression) (one : (a b : A) → into a ≡ into b → a ≡ b)
    (sort : Sort) (shown : A → List ℕ) (names times states text : List ℕ) where
  text_refused : {r : Refusal} {out : List ℕ} → ReadsText ρ names text sort (Err r)
      → Lists ρ into sort shown names times states text out out (Err r)
  text_refused h = refuses (in_first text (read_order ρ names text sort) _ (read_refused h)) refl

  module _ (x : A) (g : Gives ρ names text sort (into x)) where
    room_refused : (room q p : ℕ)
        → RefusedWith (rows_order (length names / 32) times states (check 9 (no_room (length (shown x)) room) ∷ []))
        q p
        → RefusedWith (rows_order (length names / 32) times states
        (check 9 (OfGiven ρ into names text sort (λ y. no_room (length (shown y)) room)) ∷ [])) q p
    unfolding RefusedWith
    room_refused room q p (inl h) = inl h
    room_refused room q p (inr (n, inl h)) = inr (n, inl h)
    room_refused room q p (inr (n, inr (m, inl (e, a)))) =
        inr (n, inr (m, inl (e, record { it = x; given = g; holds = a })))
    room_refused room q p (inr (n, inr (m, inr (o, h)))) = absurd h

    -- 18, 15 and 9 show no bytes of the text
    rows_shown : (room : ℕ) {r : Refusal}
        → RefusedBy (rows_order (length names / 32) times states (check 9 (no_room (length (shown x)) room) ∷ [])) r
        → RefusedIn text (rows_order (length names / 32) times states
        (check 9 (OfGiven ρ into names text sort (λ y. no_room (length (shown y)) room)) ∷ [])) r
    unfolding all numbers_of among
    rows_shown room h =
        in_silent text _ refl (record { by = room_refused room _ _ h.by; bare = h.bare })

    room_passed : (room : ℕ)
        → Passed (rows_order (length names / 32) times states (check 9 (no_room (length (shown x)) room) ∷ []))
        → Passed (rows_order (length names / 32) times states
        (check 9 (OfGiven ρ into names text sort (λ y. no_room (length (shown y)) room)) ∷ []))
    unfolding Passed
    room_passed room (n, (m, (o, u))) = (
      n,
      (m, (λ p a. o p (rw (one _ _ (gives_unique a.given g)) at a.holds), tt)),
    )

    comes_listed : (out out' : List ℕ) → Passed (read_order ρ names text sort) → (r : Outcome)
        → Comes (rows_order (length names / 32) times states
        (check 9 (no_room (length (shown x)) (length out)) ∷ [])) (λ m. m ≡ length (shown x)) r
        → out' ≡ after (front (shown x) out) out r
        → Lists ρ into sort shown names times states text out out' r
    unfolding Comes after
    comes_listed out out' p (Ok m) h e =
        lists x (passed_both (read_order ρ names text sort) _ p (room_passed (length out) h.0)) g h.1 e
    comes_listed out out' p (Err r) h e =
        refuses (in_then text (read_order ρ names text sort) _ p (rows_shown (length out) h)) e

    pub text_lists : {out out' : List ℕ} {r : Outcome} → Passed (read_order ρ names text sort)
        → RowsText (length names / 32) times states (shown x) out out' r
        → Lists ρ into sort shown names times states text out out' r
    text_lists {r = r} p h = comes_listed _ _ p r h.outcome h.memory

-- a pattern, and a boolean expression
pub vector_one : (p q : Vector) → vector p ≡ vector q → p ≡ q
vector_one p q e = cc

pub boolean_one : (b c : Boolean) → boolean b ≡ boolean c → b ≡ c
boolean_one b c e = cc

module _ {names times states text out : List ℕ} {r : Refusal} where
  pub pattern_refused : (ρ : Rules) → ReadsText ρ names text the_sort.Vector (Err r)
      → ListsPattern ρ names times states text out out (Err r)
  pattern_refused ρ = text_refused ρ vector vector_one the_sort.Vector _ names times states text

  pub values_refused : (ρ : Rules) → ReadsText ρ names text the_sort.Boolean (Err r)
      → ListsValues ρ names times states text out out (Err r)
  values_refused ρ = text_refused ρ boolean boolean_one the_sort.Boolean _ names times states text

module _ {names times states text out out' : List ℕ} {rd : Read} {r : Outcome} where
  pub pattern_lists : (ρ : Rules) → Found ρ names text the_sort.Vector rd
      → RowsText (length names / 32) times states
      (tree_listing ρ (length names / 32) times states (take rd.len rd.tree)) out out' r
      → ListsPattern ρ names times states text out out' r
  unfolding listing_of
  pattern_lists ρ f h =
      let v = found_vector f in
      text_lists ρ vector vector_one the_sort.Vector
      (λ p. pattern_listing ρ (length names / 32) times states (meant ρ p)) names times states text v.p
      (vector_given f) f.passed
      (text_as (found_listing ρ f times states ∙ ap (listing_of ρ (length names / 32) times states) v.is_vector_lem) h)

  pub values_lists : (ρ : Rules) → Found ρ names text the_sort.Boolean rd
      → RowsText (length names / 32) times states
      (tree_listing ρ (length names / 32) times states (take rd.len rd.tree)) out out' r
      → ListsValues ρ names times states text out out' r
  unfolding listing_of
  values_lists ρ f h =
      let b = found_boolean f in
      text_lists ρ boolean boolean_one the_sort.Boolean (value_listing ρ (length names / 32) times states) names times
      states text b.c (rw b.is_boolean_lem at f.gives) f.passed
      (text_as (found_listing ρ f times states ∙ ap (listing_of ρ (length names / 32) times states) b.is_boolean_lem) h)

-- by the sort
pub sort_refused : (ρ : Rules) (sort : Sort) {names text : List ℕ} (times states out : List ℕ) {r : Refusal}
    → ReadsText ρ names text sort (Err r)
    → ListsAs ρ sort names times states text out out (Err r)
unfolding ListsAs
sort_refused ρ the_sort.Vector times states out h = pattern_refused _ h
sort_refused ρ the_sort.Boolean times states out h = values_refused _ h

pub sort_lists : (ρ : Rules) (sort : Sort) {names text : List ℕ} {out out' : List ℕ} (times states : List ℕ)
    {rd : Read}
    {r : Outcome}
    → Found ρ names text sort rd
    → RowsText (length names / 32) times states
    (tree_listing ρ (length names / 32) times states (take rd.len rd.tree)) out out' r
    → ListsAs ρ sort names times states text out out' r
unfolding ListsAs
sort_lists ρ the_sort.Vector times states f h = pattern_lists _ f h
sort_lists ρ the_sort.Boolean times states f h = values_lists _ f h
