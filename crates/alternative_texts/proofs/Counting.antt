-- How many tests are shown as `...`, test by test, and of all alternatives together.
--   told_few, CountSoFar, count_first, -asked, -next, -last      the tests of the lists, one by one
--   counted_all      the lists' tests are those of all alternatives
use Rattle.std.specs.Prelude.{if◌then◌else◌}
use Prim.Native.Nat.{ℕ, ◌+◌, ◌<◌, ◌≤◌}
use native.Mathlib.Omega.{arith}
use native.Mathlib.Numerals.{add-one}
use mathlib.Core.Path.{◌≡◌, refl, sym, ap, ◌∙◌}
use mathlib.Core.Bool.{Bool, true, false}
use mathlib.Core.List.{List, [], ◌∷◌, ◌++◌}
use lib.ListN.{length, get_or, take, drop, drop_of_length-le}
use lib.Seq.{drop-cons, take-add, take_all}
use Rattle.alf.specs.Names.{names_in}
use Rattle.basics.specs.Words.{sum_of}
use Rattle.alf.specs.Expressions.{Expression, stays, literal, vector, edge}
use Rattle.alf.specs.Decoder.{edge_at}
use Rattle.alf.specs.Alternatives.{Test, test}
use Rattle.trees.specs.Parts.{boolean_at}
use Rattle.alternatives.specs.InMemory.{cut, test_of, sum}
use Rattle.alternatives.proofs.Cuts.{cut_length, sum_nil, sum_cons, test_at_lem, tests_length}
use Rattle.alternative_texts.specs.Texts.{readable, missing, expression_of, untold_test, untold}
use Rattle.alternative_texts.specs.Inner.{ShowsTest, Testable, Tested, Untold, all_tests}

missing_few : (names : List ℕ) (e : Expression) → missing names e ≤ 1
unfolding missing
missing_few names e = go (readable names e)
  where
    go : (b : Bool) → (if b then 0 else 1) ≤ 1
    go true = omega arith
    go false = omega arith

pub told_few : {names text : List ℕ} {e : Expression} {n u : ℕ} → ShowsTest names e text n u → Untold names e u
told_few {names} {e = e} t =
    record { is = t.untold_is; few = omega (arith, t.untold_is, missing_few names e) }

-- of the tests, n of the first k are shown so
pub record CountSoFar (names : List ℕ) (all : List Test) (n k : ℕ) : Type 0 where
  pub within : k ≤ length all
  pub is : n + sum_of (untold_test names) (drop k all) ≡ sum_of (untold_test names) all
  pub few : n ≤ k

-- stands where there is no test
pub no_test : Test
no_test = test stays (literal 0)

module _ {names tree edges operands : List ℕ} (h : Tested names tree edges operands) where
  abbrev all : List Test
  all = all_tests names tree edges operands

  many : length all ≡ length edges
  many = tests_length tree (names_in names) edges operands h.known.enough

  pub count_first : CountSoFar names all 0 0
  count_first = record { within = omega arith; is = omega arith; few = omega arith }

  module _ {n k : ℕ} (g : CountSoFar names all n k) where
    module _ (l : k < length edges) where
      pub count_asked : Testable names tree (get_or operands k 0)
      count_asked = record { named = h.named; few = h.few; ends = h.known.boolean k l }

      apart : sum_of (untold_test names) (drop k all)
          ≡ untold_test names (test_of tree (names_in names) (get_or edges k 0) (get_or operands k 0))
          + sum_of (untold_test names) (drop (k + 1) all)
      unfolding sum_of
      apart =
          let b : k < length all = omega (arith, many) in
          rw (
            drop-cons all k no_test b,
            add-one k,
            test_at_lem tree (names_in names) edges operands k no_test l h.known.enough,
          ) refl

      pub count_next : {r : ℕ}
          → Untold names
          (vector (edge (edge_at (get_or edges k 0)) (boolean_at tree (names_in names) (get_or operands k 0)))) r
          → CountSoFar names all (n + r) (k + 1)
      unfolding untold_test expression_of
      count_next u =
          record {
            within = omega (arith, many);
            is = omega (arith, g.is, apart, u.is);
            few = omega (arith, g.few, u.few);
          }

    pub count_last : length edges ≤ k → n ≡ sum_of (untold_test names) all
    unfolding sum_of
    count_last l =
        let b : length all ≤ k = omega (arith, many) in
        omega (arith, g.is, ap (sum_of (untold_test names)) (drop_of_length-le all b))

-- sums over pieces
sum_append : {A : Type 0} (f : A → ℕ) (xs ys : List A) → sum_of f (xs ++ ys) ≡ sum_of f xs + sum_of f ys
unfolding sum_of
sum_append f [] ys = omega arith
sum_append f (x ∷ xs) ys = omega (arith, sum_append f xs ys)

sum_cut : {A : Type 0} (f : A → ℕ) (ns : List ℕ) (xs : List A)
    → sum_of (sum_of f) (cut ns xs) ≡ sum_of f (take (sum ns) xs)
unfolding sum_of cut
sum_cut f [] xs = rw sum_nil refl
sum_cut f (n ∷ ns) xs =
    rw (sum_cons n ns, take-add n (sum ns) xs)
    (ap (λ (m : ℕ). sum_of f (take n xs) + m) (sum_cut f ns (drop n xs))
    ∙ sym (sum_append f (take n xs) (take (sum ns) (drop n xs))))

pub counted_all : (names steps tests : List ℕ) (all : List Test) → length tests ≤ sum steps
    → length all ≤ sum tests
    → untold names (cut steps (cut tests all)) ≡ sum_of (untold_test names) all
unfolding untold
counted_all names steps tests all l m =
    let a : length (cut tests all) ≤ sum steps = omega (arith, cut_length tests all) in
    sum_cut (sum_of (untold_test names)) steps (cut tests all)
    ∙ ap (sum_of (sum_of (untold_test names))) (take_all (sum steps) (cut tests all) a)
    ∙ sum_cut (untold_test names) tests all
    ∙ ap (sum_of (untold_test names)) (take_all (sum tests) all m)
