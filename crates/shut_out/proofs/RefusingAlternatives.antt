-- Shut out: "refusing everything (the table says 'exactly when')", for the alternatives as lines: of a tree, and of a
-- text. Refused, nothing is written, and the count of tests that are shown as `...` is 0.
--   no_lines                                      such a refusal
--   Showable, write_alternatives_lem                  of a tree: 18, 12, 10, 9
--   text_order, TextShowable, alternatives_text    of a text: as it is read, then 9
use Rattle.std.specs.Prelude.{Err, Ok}
use Prim.Native.Nat.{ℕ, ◌≤◌}
use native.Mathlib.Omega.{arith}
use mathlib.Core.Path.{◌≡◌, refl}
use mathlib.Core.Logic.{◌⊎◌, inl, inr}
use mathlib.Core.List.{List, [], ◌∷◌, ◌++◌}
use lib.ListN.{length}
use Rattle.alf.specs.Names.{names_in}
use Rattle.basics.specs.declared.Refusal.{Refusal}
use Rattle.alf.specs.declared.Rules.{Rules}
use Rattle.alf.specs.declared.Sort.TheVariants as sort
use Rattle.basics.specs.Refusing.{Outcome}
use Rattle.alf.specs.Expressions.{Vector, vector}
use Rattle.alf.specs.Alternatives.{alternatives}
use Rattle.alf.specs.Steady.{meant}
use Rattle.basics.specs.Words.{all}
use Rattle.alf.specs.States.{among}
use Rattle.alf.specs.Refusals.{Order, check, no_room, RefusedWith, RefusedBy, Passed, Comes, numbers_of}
use Rattle.alf.proofs.Orders.{refused_either, passed_both}
use Rattle.tokens.specs.Extents.{other, RefusedIn}
use Rattle.tokens.proofs.ShownBytes.{extent_unique, in_first, in_then, in_silent}
use Rattle.acceptance.specs.Accepted.{Accepted}
use Rattle.reader.specs.Reading.{read_order, Gives}
use Rattle.reader.proofs.Unique.{gives_unique}
use Rattle.basics.specs.Memory.{after}
use Rattle.figures.specs.Delivering.{line_order}
use Rattle.alternative_listings.specs.declared.Lines.{Lines}
use Rattle.alternative_lines.specs.Listing.{listing}
use Rattle.alternative_listings.specs.Calls.{listing_at, order, tally, WritesAlternatives}
use Rattle.alternative_listings.proofs.Theorems.{alternatives_unique}
use Rattle.row_listings.specs.Listings.{OfGiven}
use Rattle.row_listings.proofs.TextListings.{vector_one}
use Rattle.alternative_listings.specs.AlternativesText.{RewritesText, refused, rewritten}
use Rattle.alternative_listings.proofs.AlternativesLaws.{text_unique}
use Rattle.shut_out.specs.Reasons.{IsRefusal, Exactly, ExactlyIn}
use Rattle.shut_out.proofs.Reasons.{exactly, exactly_in, ComesIn}
use Rattle.shut_out.proofs.Refusing.{GoodNames}
use Rattle.shut_out.proofs.RefusingTexts.{Readable, read_passes}

-- refused, and no test is shown as `...`
abbrev pub no_lines : Refusal → Lines
no_lines r = record { written = Err r; untold = 0 }

-- where the writing is refused, so is the whole
lines_parts : (o : Order) (made : ℕ → Type 0) (x : Lines) (n : ℕ) (w : Outcome) → x.written ≡ w
    → Comes o made w → x.untold ≡ tally n w → Passed o ⊎ IsRefusal no_lines x
unfolding Comes tally
lines_parts o made x n (Ok k) e c t = inl c.0
lines_parts o made x n (Err r) e c t = inr (r, λ i. record { written = e i; untold = t i })

-- Of a tree.
module _ (ρ : Rules) (names tree out : List ℕ) where
  pub record Showable : Type 0 where
    pub names_good : GoodNames names
    pub accepted : Accepted ρ (names_in names) sort.Vector tree
    pub room : length (listing_at ρ names tree) ≤ length out

  show_passes : Showable → Passed (order ρ names tree (length out))
  unfolding Passed order
  show_passes g = (
    λ p a. a.given g.names_good.slots,
    (
      λ p a. a.given.1 (g.names_good.good p a.given.0),
      (λ p a. a.given g.accepted, (λ p a. omega (arith, a.given, g.room), tt)),
    ),
  )

  pub write_alternatives_lem : Exactly Showable (order ρ names tree (length out)) no_lines
      (λ r m. WritesAlternatives ρ names tree out m r) out
  unfolding Comes after tally
  write_alternatives_lem =
      exactly show_passes
      (record {
        reason = λ r m w. w.outcome;
        parts = λ x m w. lines_parts _ _ x _ x.written refl w.outcome w.untold_are;
        refuses = λ r h. record { outcome = h; memory = refl; untold_are = refl };
        one = λ a b m n x y. alternatives_unique x y;
      })

-- Of a text.
module _ (ρ : Rules) (names text out : List ℕ) where
  abbrev shown : Vector → List ℕ
  shown p = listing names (alternatives (meant ρ p))

  abbrev reads : Order
  reads = read_order ρ names text sort.Vector

  abbrev nine : Order
  nine = check 9 (OfGiven ρ vector names text sort.Vector (λ p. no_room (length (shown p)) (length out))) ∷ []

  -- as the text is read, then 9
  abbrev pub text_order : Order
  text_order = reads ++ nine

  pub record TextShowable : Type 0 where
    pub readable : Readable ρ names text sort.Vector
    pub room : (p : Vector) → Gives ρ names text sort.Vector (vector p) → length (shown p) ≤ length out

  text_passes : TextShowable → Passed text_order
  unfolding Passed
  text_passes g =
      passed_both reads nine (read_passes ρ names text sort.Vector g.readable)
      (λ p a. omega (arith, g.room a.it a.given, a.holds.given), tt)

  -- the line's 9, as a row that speaks of what the text gives; it shows no bytes of the text
  nine_given : {p : Vector} → Gives ρ names text sort.Vector (vector p) → (i j : ℕ)
      → RefusedWith (line_order (shown p) (length out)) i j → RefusedWith nine i j
  unfolding RefusedWith
  nine_given {p} g i j (inl x) = inl (x.0, record { it = p; given = g; holds = x.1 })
  nine_given {p} g i j (inr x) = absurd x.1

  nine_shown : {r : Refusal} → RefusedBy nine r → RefusedIn text nine r
  unfolding all numbers_of among
  nine_shown h = in_silent text nine refl h

  with_text : {p : Vector} → Passed reads → Gives ρ names text sort.Vector (vector p) → (w : Outcome)
      → Comes (line_order (shown p) (length out)) (λ k. k ≡ length (shown p)) w → ComesIn text text_order w
  unfolding Comes ComesIn Passed
  with_text {p} passed g (Ok k) c =
      passed_both reads nine passed
      (λ q a. c.0.0 q (rw (vector_one a.it p (gives_unique a.given g)) at a.holds), tt)
  with_text {p} passed g (Err r) c =
      in_then text reads nine passed (nine_shown (record { by = nine_given g _ _ c.by; bare = c.bare }))

  text_comes : {x : Lines} {m : List ℕ} → RewritesText ρ names text out m x → ComesIn text text_order x.written
  unfolding ComesIn
  text_comes (refused a) = in_first text reads nine a
  text_comes {x} (rewritten passed g d) = with_text passed g x.written d.delivers.outcome

  shown_parts : (x : Lines) (n : ℕ) (w : Outcome) → x.written ≡ w → ComesIn text text_order w → x.untold ≡ tally n w
      → Passed text_order ⊎ IsRefusal no_lines x
  unfolding ComesIn tally
  shown_parts x n (Ok k) e c t = inl c
  shown_parts x n (Err r) e c t = inr (r, λ i. record { written = e i; untold = t i })

  text_parts : {x : Lines} {m : List ℕ} → RewritesText ρ names text out m x
      → Passed text_order ⊎ IsRefusal no_lines x
  text_parts (refused {r = r} a) = inr (r, refl)
  text_parts {x} (rewritten passed g d) =
      shown_parts x _ x.written refl (with_text passed g x.written d.delivers.outcome) d.untold_are

  text_refuses : (r : Refusal) → RefusedIn text text_order r → RewritesText ρ names text out out (no_lines r)
  unfolding RefusedWith Comes after tally among
  text_refuses r h = go (refused_either reads nine r.number r.place h.by)
    where
      go : RefusedWith reads r.number r.place ⊎ (Passed reads × RefusedWith nine r.number r.place)
          → RewritesText ρ names text out out (no_lines r)
      go (inl a) = refused (record { by = a; shows = h.shows })
      go (inr (passed, inl (e, a))) =
          rewritten {r = no_lines r} passed a.given
          (record {
            delivers =
                record {
                  outcome =
                      record {
                        by = inl (e, a.holds);
                        bare = extent_unique text _ _ h.shows (other (rw e refl) refl);
                      };
                  memory = refl;
                };
            untold_are = refl;
          })
      go (inr (passed, inr x)) = absurd x.1

  pub alternatives_text : ExactlyIn text TextShowable text_order no_lines (λ r m. RewritesText ρ names text out m r) out
  unfolding ComesIn
  alternatives_text =
      exactly_in text text_passes
      (record {
        reason = λ r m w. text_comes w;
        parts = λ x m w. text_parts w;
        refuses = text_refuses;
        one = λ a b m n x y. text_unique x y;
      })
