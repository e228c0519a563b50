-- Alternatives in memory are four lists:
--   steps       for each alternative its number of steps
--   tests       for each step, all alternatives' steps one after the other, its number of tests
--   edges       for each test, all steps' tests one after the other, the number of its edge
--   operands    for each test the end of its operand in a tree's bytes
-- What they stand for:
--   cut, test_of, tests_of, alternatives_of_lem      pieces of a list, the tests, the alternatives
--   sum, Passing, Tests, Shape                lists that fit each other
--   step_in, alternative_in, alternatives_in     on the way through the lists
--   longest_of                                 K
use Rattle.std.specs.Prelude.{ℕ, ◌+◌, ◌^◌, ◌<◌, ◌≤◌, List, [], ◌∷◌, length, get_or, take, drop}
use Rattle.basics.specs.Words.{sum_of, greatest_of}
use Rattle.alf.specs.Decoder.{edge_at}
use Rattle.alf.specs.Alternatives.{Test, test, Step, Alternative}
use Rattle.trees.specs.Parts.{EndsBoolean, boolean_at}

-- pieces of a list, one after the other, of the lengths given
unfoldable pub cut : {A : Type 0} → List ℕ → List A → List (List A)
cut [] xs = []
cut (n ∷ ns) xs = take n xs ∷ cut ns (drop n xs)

-- a test, and the tests
abbrev pub test_of : List ℕ → ℕ → ℕ → ℕ → Test
test_of tree names k end = test (edge_at k) (boolean_at tree names end)

unfoldable pub tests_of : List ℕ → ℕ → List ℕ → List ℕ → List Test
tests_of tree names [] ends = []
tests_of tree names (k ∷ edges) [] = []
tests_of tree names (k ∷ edges) (end ∷ ends) = test_of tree names k end ∷ tests_of tree names edges ends

-- the alternatives: the tests cut into steps, the steps cut into alternatives
unfoldable pub alternatives_of_lem : List ℕ → ℕ → List ℕ → List ℕ → List ℕ → List ℕ
    → List Alternative
alternatives_of_lem tree names steps tests edges operands = cut steps (cut tests (tests_of tree names edges operands))

-- how many things the entries of a list count together
unfoldable pub sum : List ℕ → ℕ
sum ns = sum_of (λ n. n) ns

-- there are n steps from step s on, and the number of a test behind them fits a word
pub record Passing (tests : List ℕ) (s n t : ℕ) : Type 0 where
  pub there : s + n ≤ length tests
  pub room : t + sum (drop s tests) < 2 ^ 64

-- each test has its operand, which is a boolean expression
pub record Tests (tree : List ℕ) (names : ℕ) (edges operands : List ℕ) : Type 0 where
  pub enough : length edges ≤ length operands
  pub boolean : (k : ℕ) → k < length edges → EndsBoolean tree names (get_or operands k 0)

-- at most 64 alternatives, and each list is long enough for the one before
pub record Shape (tree : List ℕ) (names : ℕ) (steps tests edges operands : List ℕ) : Type 0 where
  pub few : length steps ≤ 64
  pub enough_steps : sum steps ≤ length tests
  pub enough_tests : sum tests ≤ length edges
  pub known : Tests tree names edges operands

-- on the way through the lists: the step of n tests from t on, the alternative of n steps from step s and test t on,
-- and the alternatives from k on
abbrev pub step_in : List Test → ℕ → ℕ → Step
step_in all t n = take n (drop t all)

abbrev pub alternative_in : List ℕ → List Test → ℕ → ℕ → ℕ → Alternative
alternative_in tests all s t n = take n (cut (drop s tests) (drop t all))

abbrev pub alternatives_in : List ℕ → List ℕ → List Test → ℕ → ℕ → ℕ → List Alternative
alternatives_in steps tests all k s t = cut (drop k steps) (cut (drop s tests) (drop t all))

-- K: the steps of the longest alternative
abbrev pub longest_of : List Alternative → ℕ
longest_of xs = greatest_of length xs
