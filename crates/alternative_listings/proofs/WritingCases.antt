-- What `write_alternatives` and the functions inside return, case by case.
--   lines_short, lines_done      the text of the lists: 9, or at the front
--   reportable, noted_all, own-lines     the notes are the expression's own
--   tree_listed, lists_fit_lem      the lists are those of an accepted tree
--   refused_names, refused_tree, listed      the whole call
use Rattle.std.specs.Prelude.{Err, Ok}
use Prim.Native.Nat.{ℕ, ◌+◌, ◌<◌, ◌≤◌}
use native.Mathlib.Omega.{arith}
use mathlib.Core.Path.{◌≡◌, refl, sym, ap, ◌∙◌}
use mathlib.Core.Bool.{Bool, true, false}
use mathlib.Core.Logic.{inl, inr}
use mathlib.Core.List.{List, [], ◌∷◌, ◌++◌}
use lib.ListN.{length, take, drop, replicate, length-append, length-map}
use Rattle.alf.specs.Names.{names_in}
use Rattle.basics.specs.Refusing.{refusal}
use Rattle.basics.specs.Refusing.{Outcome}
use Rattle.basics.specs.declared.Refusal.{Refusal}
use Rattle.alf.specs.declared.Rules.{Rules}
use Rattle.alf.specs.declared.Sort.TheVariants.{Vector}
use Rattle.basics.specs.Words.{sum_of}
use Rattle.alf.specs.Alternatives.{Test, Alternative, contradictory}
use Rattle.alf.specs.Refusals.{RefusedWith, Passed, Comes}
use Rattle.names.specs.Check.{names_order}
use Rattle.acceptance.specs.Accepted.{Accepted}
use Rattle.alternatives.specs.InMemory.{sum, alternatives_of_lem}
use Rattle.alternatives.proofs.Cuts.{cut_length, tests_length}
use Rattle.alternatives.specs.declared.lists.Lists.{Lists}
use Rattle.rewriting.specs.declared.lists.Alternatives.{Alternatives}
use Rattle.rewriting.specs.Lists.{joined, alternatives_at, step_list, test_list, edge_list, Holds}
use Rattle.rewriting.specs.Lists.{StandFor}
use Rattle.contradictions.specs.Possible.{flag_of, flag_list, Flagged, Reported}
use Rattle.rewriting.proofs.Joining.{lengths_sum}
use Rattle.rewriting.proofs.Holding.{front_taken, step_entries, test_entries, edge_entries}
use Rattle.writer.specs.Writing.{Named}
use Rattle.basics.specs.Memory.{after}
use Rattle.names.proofs.Few.{names_few}
use Rattle.figures.specs.Delivering.{line_order}
use Rattle.figures.proofs.Delivering.{short, delivered}
use Rattle.alternative_listings.specs.declared.Lines.{Lines}
use Rattle.alternative_lines.specs.Listing.{line, lines_from, listing}
use Rattle.alternative_texts.specs.Texts.{untold_test, untold}
use Rattle.alternative_listings.specs.Calls.{own_at, listing_at, order, tally, WritesAlternatives, DeliversLines}
use Rattle.alternative_texts.specs.Inner.{Puts, all_tests}
use Rattle.alternative_lines.specs.Inner.{AllLines, flagged, lines_with, headed_lines}
use Rattle.alternative_listings.specs.Inner.{Whole, Listed, ListedOn}
use Rattle.alternative_texts.proofs.Counting.{counted_all}

-- 9, or the text at the front
pub lines_short : {w out : List ℕ} {k n : ℕ} {r : Outcome} → k ≡ length w → length out < k
    → r ≡ Err (refusal 9 k)
    → DeliversLines w n out out (record { written = r; untold = 0 })
unfolding tally
lines_short h l e = record { delivers = short h l e; untold_are = rw e refl }

pub lines_done : {w out out' : List ℕ} {k n m u r : ℕ} → k ≡ length w → k ≤ length out
    → Puts out 0 w m out' r
    → u ≡ n → DeliversLines w n out out' (record { written = Ok k; untold = u })
unfolding tally
lines_done h l p e = record { delivers = delivered h l p.put; untold_are = e }

-- the notes
module _ {names tree steps tests edges operands : List ℕ} (h : Listed names tree steps tests edges operands) where
  abbrev xs : List Alternative
  xs = alternatives_of_lem tree (names_in names) steps tests edges operands

  pub reportable : (flags : List ℕ) → length flags ≡ 64
      → Reported tree (names_in names) steps tests edges operands flags
  reportable flags e =
      record { shape = h.shape; few = names_few _ h.named.passed; room = omega (arith, h.shape.few) }

  number : length (flag_list (names_in names) xs) ≡ length steps
  unfolding flag_list alternatives_of_lem
  number = length-map xs _ ∙ cut_length steps _

  pub noted_all : {flags flags' : List ℕ} → Flagged (names_in names) xs flags flags'
      → AllLines names tree steps tests edges operands flags' 0
  noted_all {flags} f =
      let w = flag_list (names_in names) xs in
      record {
        named = h.named;
        short = h.short;
        shape = h.shape;
        flags_there =
            omega (arith, number, ap length f.flags_are, length-append w (drop (length w) flags));
        low = omega arith;
      }

flag_back : (b : Bool) → flagged (flag_of b) ≡ b
unfolding flagged flag_of
flag_back true = refl
flag_back false = refl

lines_flagged : (names : List ℕ) (i : ℕ) (xs : List Alternative) (more : List ℕ)
    → lines_with names i (flag_list (names_in names) xs ++ more) xs ≡ lines_from names i xs
unfolding lines_with lines_from line flag_list
lines_flagged names i [] [] = refl
lines_flagged names i [] (f ∷ fs) = refl
lines_flagged names i (x ∷ xs) more =
    rw (flag_back (contradictory (names_in names) x), lines_flagged names (i + 1) xs more) refl

pub own_notes : (names : List ℕ) {xs : List Alternative} {flags flags' : List ℕ} {n : ℕ} {out out' : List ℕ}
    {r : Lines} → Flagged (names_in names) xs flags flags'
    → DeliversLines (headed_lines names flags' xs) n out out' r → DeliversLines (listing names xs) n out out' r
unfolding headed_lines listing
own_notes names {xs} f d =
    rw (f.flags_are, lines_flagged names 1 xs (drop (length (flag_list (names_in names) xs)) _)) at d

-- the lists of an accepted tree
module _ {ρ : Rules} (names : List ℕ) {tree : List ℕ} {a : Alternatives} (h : Holds ρ tree (names_in names) a) where
  abbrev ys : List Alternative
  ys = alternatives_at ρ tree (names_in names)

  steps_front : take a.count a.steps ≡ step_list ys
  steps_front =
      front_taken (step_list ys) (replicate 64 0) h.filled.steps_are
      (h.long.alternatives_are ∙ sym (step_entries ys))

  tests_front : take a.step_count a.tests ≡ test_list ys
  tests_front =
      front_taken (test_list ys) (replicate 1024 0) h.filled.tests_are (h.long.steps_are ∙ sym (test_entries ys))

  edges_front : take a.test_count a.edges ≡ edge_list ys
  edges_front =
      front_taken (edge_list ys) (replicate 4096 0) h.filled.edges_are (h.long.tests_are ∙ sym (edge_entries ys))

  steps_sum : sum (take a.count a.steps) ≡ length (take a.step_count a.tests)
  unfolding step_list
  steps_sum = ap sum steps_front ∙ lengths_sum ys ∙ sym (test_entries ys) ∙ ap length (sym tests_front)

  tests_sum : sum (take a.step_count a.tests) ≡ length (take a.test_count a.edges)
  unfolding test_list
  tests_sum = ap sum tests_front ∙ lengths_sum (joined ys) ∙ sym (edge_entries ys) ∙ ap length (sym edges_front)

  abbrev all : List Test
  all = all_tests names tree (take a.test_count a.edges) (take a.test_count a.operands)

  many : length all ≡ length (take a.test_count a.edges)
  many = tests_length tree (names_in names) _ _ h.shape.known.enough

  counted : untold names (own_at ρ names tree) ≡ sum_of (untold_test names) all
  unfolding alternatives_of_lem
  counted =
      ap (untold names) (sym h.stands)
      ∙ counted_all names (take a.count a.steps) (take a.step_count a.tests) all
      (omega (arith, steps_sum)) (omega (arith, tests_sum, many))

  pub own_lists : {out out' : List ℕ} {r : Lines}
      → DeliversLines (listing names (alternatives_of_lem tree (names_in names) (take a.count a.steps)
      (take a.step_count a.tests) (take a.test_count a.edges)
      (take a.test_count a.operands)))
      (sum_of (untold_test names) all) out out' r
      → DeliversLines (listing_at ρ names tree) (untold names (own_at ρ names tree)) out out' r
  unfolding listing_at
  own_lists d = rw (h.stands, ← counted) at d

pub lists_fit_lem : {ρ : Rules} {names tree : List ℕ} {ls : Lists} → Whole ρ names tree
    → StandFor ρ tree (names_in names) ls → ListedOn names tree ls
lists_fit_lem w h = record { named = w.named; short = w.accepted.tokens; shape = h.shape }

-- the whole call
module _ (ρ : Rules) (names tree : List ℕ) (room : ℕ) where
  abbrev done : ℕ → Type 0
  done k = k ≡ length (listing_at ρ names tree)

  names_refused : (n p : ℕ) → RefusedWith (names_order names) n p → RefusedWith (order ρ names tree room) n p
  unfolding RefusedWith order
  names_refused n p (inl x) = inl x
  names_refused n p (inr (m, inl x)) = inr (m, inl x)
  names_refused n p (inr (m, inr (l, x))) = absurd x

  comes_names : (made : ℕ → Type 0) (r : Refusal) → Comes (names_order names) made (Err r)
      → Comes (order ρ names tree room) done (Err r)
  unfolding Comes
  comes_names made r x = record { by = names_refused _ _ x.by; bare = x.bare }

  comes_ten : Named names → (Accepted ρ (names_in names) Vector tree → ⊥)
      → Comes (order ρ names tree room) done (Err (refusal 10 0))
  unfolding Comes RefusedWith Passed order
  comes_ten h f =
      record {
        by = inr (h.passed.0, inr (h.passed.1.0, inl (refl, record { given = f; there = refl })));
        bare = refl;
      }

  comes_end : Named names → Accepted ρ (names_in names) Vector tree → (o : Outcome)
      → Comes (line_order (listing_at ρ names tree) room) done o → Comes (order ρ names tree room) done o
  unfolding Comes RefusedWith Passed order
  comes_end h a (Ok k) x = ((h.passed.0, (h.passed.1.0, ((λ p y. y.given a), x.0))), x.1)
  comes_end h a (Err q) x =
      record {
        by = inr (h.passed.0, inr (h.passed.1.0, inr ((λ p y. y.given a), x.by)));
        bare = x.bare;
      }

pub refused_names : {ρ : Rules} {names tree out : List ℕ} (made : ℕ → Type 0) {r : Refusal} {o : Outcome}
    → Comes (names_order names) made o → o ≡ Err r
    → WritesAlternatives ρ names tree out out (record { written = Err r; untold = 0 })
unfolding after tally
refused_names {ρ} {names} {tree} {out} made {r} x e =
    record { outcome = comes_names ρ names tree (length out) made r (rw e at x); memory = refl; untold_are = refl }

pub refused_tree : {ρ : Rules} {names tree out : List ℕ} {o : Outcome} → Named names
    → (Accepted ρ (names_in names) Vector tree → ⊥) → o ≡ Err (refusal 10 0)
    → WritesAlternatives ρ names tree out out (record { written = o; untold = 0 })
unfolding after tally
refused_tree {ρ} {names} {tree} {out} h f e =
    rw e (record { outcome = comes_ten ρ names tree (length out) h f; memory = refl; untold_are = refl })

pub listed : {ρ : Rules} {names tree out out' : List ℕ} {r : Lines} → Named names
    → Accepted ρ (names_in names) Vector tree
    → DeliversLines (listing_at ρ names tree) (untold names (own_at ρ names tree)) out out' r
    → WritesAlternatives ρ names tree out out' r
listed {ρ} {names} {tree} {out} {r = r} h a d =
    record {
      outcome = comes_end ρ names tree (length out) h a r.written d.delivers.outcome;
      memory = d.delivers.memory;
      untold_are = d.untold_are;
    }
