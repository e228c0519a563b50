-- From a text to the listing of the pattern that it gives.
--   began_refused   a text that is refused
--   began_lists     any other: the listing of the tree that is read is that of the pattern given
use Rattle.std.specs.Prelude.{Err, Ok}
use Prim.Native.Nat.{ℕ, ◌/◌}
use mathlib.Core.Path.{◌≡◌, refl, ap}
use mathlib.Core.Logic.{inl, inr}
use mathlib.Core.List.{List, [], ◌∷◌}
use lib.ListN.{length, take}
use Rattle.basics.specs.declared.Refusal.{Refusal}
use Rattle.basics.specs.Refusing.{Outcome}
use Rattle.basics.specs.Words.{all}
use Rattle.basics.specs.Memory.{after, front}
use Rattle.alf.specs.declared.Rules.{Rules}
use Rattle.alf.specs.declared.Sort.TheVariants as sort
use Rattle.alf.specs.Expressions.{Vector, vector}
use Rattle.alf.specs.Decoder.{top_vector, Decodes}
use Rattle.alf.specs.Steady.{meant}
use Rattle.alf.specs.States.{among}
use Rattle.alf.specs.Refusals.{check, no_room, RefusedWith, RefusedBy, Passed, Comes, numbers_of}
use Rattle.alf.proofs.Orders.{passed_both}
use Rattle.tokens.specs.Extents.{RefusedIn}
use Rattle.tokens.proofs.ShownBytes.{in_first, in_then, in_silent}
use Rattle.reader.specs.declared.Read.{Read}
use Rattle.reader.specs.Reading.{read_order, Gives, ReadsText}
use Rattle.reader.proofs.Unique.{gives_unique}
use Rattle.text_laws.proofs.ReadTrees.{Found, read_refused, found_vector, vector_given, vector_decodes, found_accepted}
use Rattle.row_listings.specs.Listings.{OfGiven}
use Rattle.row_listings.proofs.TextListings.{vector_one}
use Rattle.expression_listings.proofs.RowListings.{lent_comes}
use Rattle.matching_calls.specs.Matching.{expression}
use Rattle.began_listings.specs.BeganTexts.{pattern_began, ListsBegan}
use Rattle.began_texts.specs.TextBegan.{shown, timed_trace, ListsBeganText, lists, refuses}

module _ (ρ : Rules) (names times states text : List ℕ) where
  abbrev k : ℕ
  k = length names / 32

  pub began_refused : {r : Refusal} {out : List ℕ} → ReadsText ρ names text sort.Vector (Err r)
      → ListsBeganText ρ names times states text out out (Err r)
  began_refused h = refuses (in_first text (read_order ρ names text sort.Vector) _ (read_refused h)) refl

  -- 9 of the pattern that the text gives
  module _ (x : Vector) (g : Gives ρ names text sort.Vector (vector x)) where
    abbrev needed : ℕ
    needed = length (shown ρ names times states x)

    room_refused : (room q p : ℕ) → RefusedWith (timed_trace k times states (check 9 (no_room needed room) ∷ [])) q p
        → RefusedWith (timed_trace k times states
        (check 9 (OfGiven ρ vector names text sort.Vector (λ y. no_room (length (shown ρ names times states y)) room))
        ∷ [])) q p
    unfolding RefusedWith
    room_refused room q p (inl h) = inl h
    room_refused room q p (inr (n, inl h)) = inr (n, inl h)
    room_refused room q p (inr (n, inr (m, inl h))) = inr (n, inr (m, inl h))
    room_refused room q p (inr (n, inr (m, inr (o, inl (e, a))))) =
        inr (n, inr (m, inr (o, inl (e, record { it = x; given = g; holds = a }))))
    room_refused room q p (inr (n, inr (m, inr (o, inr (u, h))))) = absurd h

    -- 18, 15, 13 and 9 show no bytes of the text
    rows_shown : (room : ℕ) {r : Refusal}
        → RefusedBy (timed_trace k times states (check 9 (no_room needed room) ∷ [])) r
        → RefusedIn text (timed_trace k times states
        (check 9 (OfGiven ρ vector names text sort.Vector (λ y. no_room (length (shown ρ names times states y)) room))
        ∷ [])) r
    unfolding all numbers_of among
    rows_shown room h = in_silent text _ refl (record { by = room_refused room _ _ h.by; bare = h.bare })

    room_passed : (room : ℕ) → Passed (timed_trace k times states (check 9 (no_room needed room) ∷ []))
        → Passed (timed_trace k times states
        (check 9 (OfGiven ρ vector names text sort.Vector (λ y. no_room (length (shown ρ names times states y)) room))
        ∷ []))
    unfolding Passed
    room_passed room (n, (m, (o, (u, t)))) = (
      n,
      (m, (o, (λ p a. u p (rw (vector_one _ _ (gives_unique a.given g)) at a.holds), tt))),
    )

    comes_listed : (out out' : List ℕ) → Passed (read_order ρ names text sort.Vector) → (r : Outcome)
        → Comes (timed_trace k times states (check 9 (no_room needed (length out)) ∷ [])) (λ m. m ≡ needed) r
        → out' ≡ after (front (shown ρ names times states x) out) out r
        → ListsBeganText ρ names times states text out out' r
    unfolding Comes after
    comes_listed out out' p (Ok m) h e =
        lists x (passed_both (read_order ρ names text sort.Vector) _ p (room_passed (length out) h.0)) g h.1 e
    comes_listed out out' p (Err r) h e =
        refuses (in_then text (read_order ρ names text sort.Vector) _ p (rows_shown (length out) h)) e

  -- the tree that is read is the pattern
  found_shown : {rd : Read} (f : Found ρ names text sort.Vector rd)
      → pattern_began ρ k times states (expression ρ (take rd.len rd.tree) k)
      ≡ shown ρ names times states (found_vector f).p
  unfolding Decodes top_vector
  found_shown f =
      ap (λ (p : Vector). pattern_began ρ k times states (meant ρ p)) (ap top_vector (vector_decodes f))

  pub began_lists : {out out' : List ℕ} {rd : Read} {r : Outcome} → Found ρ names text sort.Vector rd
      → ListsBegan ρ k (length times) (take rd.len rd.tree) times states out out' r
      → ListsBeganText ρ names times states text out out' r
  began_lists {out} {out'} {r = r} f h =
      let e = found_shown f in
      comes_listed (found_vector f).p (vector_given f) out out' f.passed r
      (rw e at (lent_comes (length times ≡ length times) _ _ refl (found_accepted f) _ _ r h.comes))
      (rw e at h.memory)
