-- Which states a name may have by the literals that tests ask of it.
--   plain_name                            the operand is the name itself exactly if its last byte is the name's
--   test_apart, test_other, test_later, test_before     one test
--   allowed_test, allowed_append          a test and those behind it; two lists of literals
--   Allowing, allowing_first, -no, -next, -end          the tests of a step, one after the other
use Prim.Native.Nat.{ℕ, ◌+◌, ◌-◌, ◌/◌, ◌%◌, ◌<◌, ◌≤◌}
use native.Mathlib.Omega.{arith}
use mathlib.Core.Path.{◌≡◌, refl, ap, sym, ◌∙◌}
use mathlib.Core.Bool.{Bool, true, false, not, ◌&&◌}
use mathlib.Core.Logic.{◌⊎◌, inl, inr}
use mathlib.Core.List.{List, [], ◌∷◌, ◌++◌}
use lib.Dec.{eqb}
use lib.ListN.{get_or}
use borrow.Author.Tests.{eq-eqb, ne_eqb}
use Rattle.basics.specs.Words.{all}
use Rattle.alf.specs.Expressions.{Half, pair, changes, stays}
use Rattle.alf.specs.Decoder.{Stack, half_at, is_boolean, top_boolean}
use Rattle.alf.specs.Windows.{asked, YES}
use Rattle.alf.specs.Alternatives.{Test, test, is_name, halves}
use Rattle.basics.proofs.Bools.{never, equal?}
use Rattle.alf.proofs.EdgeNumbers.{edge_pair, edge_changes, edge_stays}
use Rattle.alf.proofs.Made.{Made, a_name, a_literal, a_negation, a_binary, a_choice, an_edge, a_join}
use Rattle.alf.proofs.Made.{a_condition, a_condition_before, nothing}
use Rattle.alf.proofs.Parts.{made_last}
use Rattle.trees.specs.Parts.{EndsBoolean, boolean_at}
use Rattle.trees.proofs.Starts.{of_boolean, ends_pos}
use Rattle.alternatives.specs.InMemory.{test_of, tests_of, step_in}
use Rattle.alternatives.proofs.Cuts.{part, part_first, part_next, part_last, test_at_lem, tests_length}
use Rattle.contradictions.specs.Possible.{side_of, allowed, Plain, Literals}

-- by the byte that made it
made_name : (names b n : ℕ) {s s' : Stack} → Made names b s s' → is_boolean s' ≡ true → n < 32
    → is_name n (top_boolean s') ≡ eqb b n
unfolding is_boolean top_boolean is_name
made_name names b n (a_name l u) h v = refl
made_name names b n (a_literal l u) h v = sym (ne_eqb b n (λ e. omega arith))
made_name names b n (a_negation k e) h v = sym (ne_eqb b n (λ e. omega arith))
made_name names b n (a_binary l u e) h v = sym (ne_eqb b n (λ e. omega arith))
made_name names b n (a_choice k e) h v = sym (ne_eqb b n (λ e. omega arith))
made_name names b n (an_edge l u e) h v = never h
made_name names b n (a_join l u e) h v = never h
made_name names b n (a_condition k e) h v = never h
made_name names b n (a_condition_before k e) h v = never h
made_name names b n nothing h v = never h

pub plain_name : (t : List ℕ) (names end n : ℕ) → EndsBoolean t names end → n < 32
    → is_name n (boolean_at t names end) ≡ eqb (get_or t (end - 1) 0) n
plain_name t names end n h v =
    made_name names _ n (made_last t names end (ends_pos (of_boolean h))) h.whole v

and_yes : (p : Bool) → (p && true) ≡ p
and_yes true = refl
and_yes false = refl

module _ (w : Half → Half → Half) (n s : ℕ) where
  -- a test and those behind it
  pub allowed_test : (x : Test) (xs : List Test)
      → allowed (halves w n (x ∷ xs)) s ≡ (allowed (halves w n (x ∷ [])) s && allowed (halves w n xs) s)
  unfolding allowed halves all
  allowed_test (test (pair f g) c) xs = go (is_name n c) refl
    where
      go : (b : Bool) → is_name n c ≡ b → allowed (halves w n (test (pair f g) c ∷ xs)) s
          ≡ (allowed (halves w n (test (pair f g) c ∷ [])) s && allowed (halves w n xs) s)
      go true e = rw (e, and_yes (eqb (asked (w f g) s) YES)) refl
      go false e = rw e refl
  allowed_test (test changes c) xs = refl
  allowed_test (test stays c) xs = refl

  module _ (t : List ℕ) (names end k : ℕ) where
    pub test_apart : 80 < k → true ≡ allowed (halves w n (test_of t names k end ∷ [])) s
    unfolding allowed halves all
    test_apart h = go (equal? k 81)
      where
        go : (k ≡ 81) ⊎ (k ≡ 81 → ⊥) → true ≡ allowed (halves w n (test_of t names k end ∷ [])) s
        go (inl e) = rw (edge_changes k e) refl
        go (inr e) = rw (edge_stays k (omega arith) e) refl

    module _ (h : Plain t names end n s) where
      pub test_other : (get_or t (end - 1) 0 ≡ n → ⊥) → k ≤ 80
          → true ≡ allowed (halves w n (test_of t names k end ∷ [])) s
      unfolding allowed halves all
      test_other f l =
          let e = plain_name t names end n h.ends h.a_name ∙ ne_eqb _ n f in
          rw (edge_pair k (omega arith), e) refl

      pub test_own : get_or t (end - 1) 0 ≡ n → k ≤ 80
          → eqb (asked (w (half_at (k / 9)) (half_at (k % 9))) s) 2
          ≡ allowed (halves w n (test_of t names k end ∷ [])) s
      unfolding allowed halves all
      test_own f l =
          let e = plain_name t names end n h.ends h.a_name ∙ eq-eqb _ n f in
          rw (edge_pair k (omega arith), e) (sym (and_yes _))

-- the second half is asked at the later row, the first one at the row before
module _ (later : Bool) {t : List ℕ} {names end n s k : ℕ} (h : Plain t names end n s)
    (f : get_or t (end - 1) 0 ≡ n)
    (l : k ≤ 80) {r : ℕ} where
  pub test_later : later ≡ true → r ≡ asked (half_at (k % 9)) s
      → eqb r 2 ≡ allowed (halves (side_of later) n (test_of t names k end ∷ [])) s
  unfolding side_of
  test_later e d = rw (e, d) (test_own (side_of true) n s t names end k h f l)

  pub test_before : later ≡ false → r ≡ asked (half_at (k / 9)) s
      → eqb r 2 ≡ allowed (halves (side_of later) n (test_of t names k end ∷ [])) s
  unfolding side_of
  test_before e d = rw (e, d) (test_own (side_of false) n s t names end k h f l)

and_assoc : (p q r : Bool) → (p && (q && r)) ≡ ((p && q) && r)
and_assoc true q r = refl
and_assoc false q r = refl

pub allowed_append : (ps qs : List Half) (s : ℕ) → allowed (ps ++ qs) s ≡ (allowed ps s && allowed qs s)
unfolding allowed all
allowed_append [] qs s = refl
allowed_append (p ∷ ps) qs s =
    ap (λ (b : Bool). eqb (asked p s) YES && b) (allowed_append ps qs s)
    ∙ and_assoc (eqb (asked p s) YES) (allowed ps s) (allowed qs s)

-- the tests of a step
pub record Allowing (w : Half → Half → Half) (all : List Test) (t m n s i : ℕ) : Type 0 where
  pub within : i ≤ m
  pub same : allowed (halves w n (part all t m i)) s ≡ allowed (halves w n (step_in all t m)) s

pub allowing_first : {w : Half → Half → Half} {all : List Test} {t m n s : ℕ} → Allowing w all t m n s 0
allowing_first {w} {all} {t} {m} {n} {s} =
    record { within = omega arith; same = ap (λ (xs : List Test). allowed (halves w n xs) s) (part_first all t m) }

module _ {tree : List ℕ} {names : ℕ} {edges operands : List ℕ} {t m n s : ℕ}
    (h : Literals tree names edges operands t m n s) {w : Half → Half → Half} {i : ℕ}
    (g : Allowing w (tests_of tree names edges operands) t m n s i) where
  abbrev tests : List Test
  tests = tests_of tree names edges operands

  abbrev this : Test
  this = test_of tree names (get_or edges (t + i) 0) (get_or operands (t + i) 0)

  module _ (l : i < m) where
    pub test_plain : Plain tree names (get_or operands (t + i) 0) n s
    test_plain =
        record {
          ends = h.known.boolean (t + i) (omega (arith, h.there));
          a_name = h.a_name;
          a_state = h.a_state;
        }

    next_part : part tests t m i ≡ this ∷ part tests t m (i + 1)
    next_part =
        let k = tests_length tree names edges operands h.known.enough in
        let e = test_at_lem tree names edges operands (t + i) this (omega (arith, h.there)) h.known.enough in
        part_next tests t m i this l (omega (arith, h.there))
        ∙ ap (λ (x : Test). x ∷ part tests t m (i + 1)) e

    split : (allowed (halves w n (this ∷ [])) s && allowed (halves w n (part tests t m (i + 1))) s)
        ≡ allowed (halves w n (step_in tests t m)) s
    split =
        sym (allowed_test w n s this (part tests t m (i + 1)))
        ∙ ap (λ (xs : List Test). allowed (halves w n xs) s) (sym next_part) ∙ g.same

    pub allowing_no : {r : Bool} → r ≡ allowed (halves w n (this ∷ [])) s → not r ≡ true
        → false ≡ allowed (halves w n (step_in tests t m)) s
    allowing_no {r = true} e f = never f
    allowing_no {r = false} e f =
        ap (λ (b : Bool). b && allowed (halves w n (part tests t m (i + 1))) s) e ∙ split

    pub allowing_next : {r : Bool} → r ≡ allowed (halves w n (this ∷ [])) s → not r ≡ false
        → Allowing w tests t m n s (i + 1)
    allowing_next {r = true} e f =
        record {
          within = omega arith;
          same = ap (λ (b : Bool). b && allowed (halves w n (part tests t m (i + 1))) s) e ∙ split;
        }
    allowing_next {r = false} e f = never (sym f)

  pub allowing_end : m ≤ i → true ≡ allowed (halves w n (step_in tests t m)) s
  unfolding allowed halves all
  allowing_end l =
      ap (λ (xs : List Test). allowed (halves w n xs) s) (sym (part_last tests t m i l)) ∙ g.same
