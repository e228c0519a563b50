-- What `alternatives_text` is proved by, and that its answer is unique.
--   refused_text      the text is refused
--   rewritten_text    the text is read, and its tree's alternatives are written
--   text_unique       outcome, count and buffer afterwards follow from the input
use Rattle.std.specs.Prelude.{Err, Ok}
use Prim.Native.Nat.{ℕ}
use mathlib.Core.Path.{◌≡◌, refl, sym, ap, ◌∙◌}
use mathlib.Core.Logic.{inl, inr}
use mathlib.Core.List.{List}
use lib.ListN.{length, take}
use Rattle.alf.specs.Names.{names_in}
use Rattle.basics.specs.declared.Refusal.{Refusal}
use Rattle.basics.specs.Refusing.{Outcome}
use Rattle.alf.specs.declared.Rules.{Rules}
use Rattle.alf.specs.declared.Sort.TheVariants as sort
use Rattle.alf.specs.Expressions.{Vector, Expression, boolean, vector}
use Rattle.alf.specs.Decoder.{Stack, Decodes, top_vector}
use Rattle.alf.specs.Alternatives.{alternatives}
use Rattle.alf.specs.Steady.{meant}
use Rattle.alf.specs.Refusals.{RefusedWith, Passed, Comes}
use Rattle.alf.proofs.Outcomes.{refused_passed}
use Rattle.names.specs.Check.{names_order}
use Rattle.alf.proofs.Orders.{passed_left}
use Rattle.acceptance.specs.Accepted.{Accepted}
use Rattle.tokens.proofs.ShownBytes.{refused_in_unique}
use Rattle.reader.specs.declared.Read.{Read}
use Rattle.reader.specs.Reading.{read_order, ReadsText}
use Rattle.reader.proofs.Unique.{gives_unique}
use Rattle.text_laws.proofs.ReadTrees.{Found, read_refused, read_sole, found_accepted, found_vector}
use Rattle.text_laws.proofs.ReadTrees.{vector_given, vector_decodes}
use Rattle.figures.specs.Delivering.{line_order}
use Rattle.figures.proofs.Delivering.{delivers_unique}
use Rattle.alternative_listings.specs.declared.Lines.{Lines}
use Rattle.alternative_texts.specs.Texts.{untold}
use Rattle.alternative_lines.specs.Listing.{listing}
use Rattle.alternative_listings.specs.Calls.{own_at, listing_at, order, tally, WritesAlternatives, DeliversLines}
use Rattle.alternative_listings.specs.AlternativesText.{RewritesText, refused, rewritten}

pub refused_text : {ρ : Rules} {names text out : List ℕ} {r : Refusal} → ReadsText ρ names text sort.Vector (Err r)
    → RewritesText ρ names text out out (record { written = Err r; untold = 0 })
refused_text h = refused (read_refused h)

-- the names and the tree of a text are good, so 9 is left
module _ (ρ : Rules) (names tree : List ℕ) (room : ℕ) (good : Passed (names_order names))
    (a : Accepted ρ (names_in names) sort.Vector tree) where
  abbrev done : ℕ → Type 0
  done k = k ≡ length (listing_at ρ names tree)

  only_nine : (n p : ℕ) → RefusedWith (order ρ names tree room) n p
      → RefusedWith (line_order (listing_at ρ names tree) room) n p
  unfolding RefusedWith Passed order
  only_nine n p (inl x) = absurd (good.0 _ x.1)
  only_nine n p (inr (m, inl x)) = absurd (good.1.0 _ x.1)
  only_nine n p (inr (m, inr (l, inl x))) = absurd (x.1.given a)
  only_nine n p (inr (m, inr (l, inr (k, x)))) = x

  nine_left : (o : Outcome) → Comes (order ρ names tree room) done o
      → Comes (line_order (listing_at ρ names tree) room) done o
  unfolding Comes Passed order
  nine_left (Ok k) x = (x.0.1.1.1, x.1)
  nine_left (Err q) x = record { by = only_nine _ _ x.by; bare = x.bare }

module _ {ρ : Rules} {names text : List ℕ} {q : Read} (f : Found ρ names text sort.Vector q) where
  abbrev tree : List ℕ
  tree = take q.len q.tree

  own : own_at ρ names tree ≡ alternatives (meant ρ (found_vector f).p)
  unfolding Decodes top_vector
  own = ap (λ (s : Stack). alternatives (meant ρ (top_vector s))) (vector_decodes f)

  pub rewritten_text : {out out' : List ℕ} {r : Lines} → WritesAlternatives ρ names tree out out' r
      → RewritesText ρ names text out out' r
  unfolding listing_at
  rewritten_text {out} {out'} {r} w =
      let good = passed_left (names_order names) _ f.passed in
      let d : DeliversLines (listing_at ρ names tree) (untold names (own_at ρ names tree)) out out' r =
      record {
        delivers =
            record {
              outcome = nine_left ρ names tree (length out) good (found_accepted f) r.written w.outcome;
              memory = w.memory;
            };
        untold_are = w.untold_are;
      } in
      rewritten f.passed (vector_given f) (rw own at d)

-- the answer is unique
abbrev Same : Lines → Lines → List ℕ → List ℕ → Type 0
Same r s a b = (r ≡ s) × (a ≡ b)

same_lines : (w : List ℕ) (n : ℕ) (out : List ℕ) {a b : List ℕ} {r s : Lines}
    → DeliversLines w n out a r → DeliversLines w n out b s → Same r s a b
same_lines w n out {r = r} {s = s} x y =
    let e = delivers_unique w out x.delivers y.delivers in
    let f : r.untold ≡ s.untold = x.untold_are ∙ ap (tally n) e.0 ∙ sym y.untold_are in
    (λ i. record { written = e.0 i; untold = f i }, e.1)

pattern_of : Expression → Vector → Vector
pattern_of (boolean c) d = d
pattern_of (vector p) d = p

pub text_unique : {ρ : Rules} {names text out a b : List ℕ} {r s : Lines} → RewritesText ρ names text out a r
    → RewritesText ρ names text out b s → Same r s a b
unfolding pattern_of
text_unique {ρ} {names} {text} (refused x) (refused y) =
    let e = refused_in_unique text (read_order ρ names text sort.Vector) (read_sole ρ names text sort.Vector) x y in
    (ap (λ (r : Refusal). record { written = Err r; untold = 0 }) e, refl)
text_unique (refused x) (rewritten h g d) = absurd (refused_passed _ _ _ h x.by)
text_unique (rewritten h g d) (refused x) = absurd (refused_passed _ _ _ h x.by)
text_unique {ρ} {names} {out = out} (rewritten {p = p} h g d) (rewritten {p = q} k f c) =
    let e : p ≡ q = ap (λ (x : Expression). pattern_of x p) (gives_unique g f) in
    same_lines (listing names (alternatives (meant ρ q))) (untold names (alternatives (meant ρ q))) out (rw e at d) c
