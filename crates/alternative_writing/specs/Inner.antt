-- What the functions inside ask, besides alternative_texts' own.
--   OneTest, OneStep, OneAlternative    a test, a step, an alternative in the lists
--   text_of_test                          the text of a test of the lists
use Rattle.std.specs.Prelude.{ℕ, ◌+◌, ◌<◌, ◌≤◌, List, length, get_or, drop}
use Rattle.alf.specs.Names.{names_in}
use Rattle.alternatives.specs.InMemory.{sum, test_of}
use Rattle.alternative_texts.specs.Texts.{test_text}
use Rattle.alternative_texts.specs.Inner.{Tested}

-- test k, whose text is to stand far below the last place of 64 bits
pub record OneTest (names tree edges operands : List ℕ) (k at : ℕ) : Type 0 where
  pub tested : Tested names tree edges operands
  pub there : k < length edges
  pub low : at ≤ 4000000000000

-- the step of n tests from test t on
pub record OneStep (names tree edges operands : List ℕ) (t n at : ℕ) : Type 0 where
  pub tested : Tested names tree edges operands
  pub there : t + n ≤ length edges
  pub few : n ≤ 255
  pub low : at ≤ 3000000000000

-- the alternative of n steps from step s on, whose tests start at t
pub record OneAlternative (names tree tests edges operands : List ℕ) (s n t at : ℕ) : Type 0 where
  pub tested : Tested names tree edges operands
  pub there : s + n ≤ length tests
  pub room : t + sum (drop s tests) ≤ length edges
  pub few : n ≤ 255
  pub low : at ≤ 2000000000000

-- the text of test k
abbrev pub text_of_test : List ℕ → List ℕ → List ℕ → List ℕ → ℕ → List ℕ
text_of_test names tree edges operands k =
    test_text names (test_of tree (names_in names) (get_or edges k 0) (get_or operands k 0))
