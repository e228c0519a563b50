-- Document 01, 10: "alternatives over a limit of 8, none at all, one without a step, or a test with an unknown code or
-- an operand that is no such tree". The lists are those of alternatives/specs/InMemory; lists that do not fit each
-- other are no alternatives.
--   Each                       a property of each entry of a list
--   Operand, Known             an operand that is such a tree; a code that is known
--   AcceptedAlternatives       alternatives that are accepted
--   Stepped, Light, Shaped     what the functions that decide it count
use Rattle.std.specs.Prelude.{ℕ, ◌-◌, ◌<◌, ◌≤◌, ◌≡◌, false, List, length, get_or, take, drop}
use Rattle.alf.specs.declared.Sort.TheVariants.{Boolean}
use Rattle.basics.specs.Words.{greatest_of}
use Rattle.alf.specs.Alternatives.{over_limit}
use Rattle.alf.specs.Values.{old_rules_lem}
use Rattle.trees.specs.Parts.{EndsBoolean, Start}
use Rattle.acceptance.specs.Accepted.{Accepted}
use Rattle.alternatives.specs.InMemory.{cut, sum, alternatives_of_lem}

-- each entry of a list is so
abbrev pub Each : (ℕ → Type 0) → List ℕ → Type 0
Each so l = (k : ℕ) → k < length l → so (get_or l k 0)

-- a boolean expression ends there, and its own bytes are a tree that some text gives; of a boolean expression no rule
-- counts anything
pub record Operand (tree : List ℕ) (names end : ℕ) : Type 0 where
  pub ends : EndsBoolean tree names end
  pub start : ℕ
  pub from : Start tree names end start
  pub accepted : Accepted old_rules_lem names Boolean (take (end - start) (drop start tree))

-- an edge's number
abbrev pub Known : ℕ → Type 0
Known k = k ≤ 82

pub record AcceptedAlternatives (names : ℕ) (tree steps tests edges operands : List ℕ) : Type 0 where
  -- each list is of the length that the one before says
  pub all_steps : sum steps ≡ length tests
  pub all_tests_lem : sum tests ≡ length edges
  pub all_operands : length operands ≡ length edges
  -- within limit 8, one or more, each with a step
  pub within : over_limit (alternatives_of_lem tree names steps tests edges operands) ≡ false
  pub some : 0 < length steps
  pub stepped : Each (λ n. 0 < n) steps
  -- each test has a code that is known, and an operand
  pub known : Each Known edges
  pub operand : Each (Operand tree names) operands

-- Counted: 1 to 16 steps; at most 64 tests in each alternative; and all that is asked of the lists but their tests.
pub record Stepped (n : ℕ) : Type 0 where
  pub some : 0 < n
  pub few : n ≤ 16

abbrev pub Light : List ℕ → List ℕ → Type 0
Light steps tests = greatest_of sum (cut steps tests) ≤ 64

pub record Shaped (steps tests : List ℕ) (edges operands : ℕ) : Type 0 where
  pub some : 0 < length steps
  pub few : length steps ≤ 64
  pub all_operands : operands ≡ edges
  pub stepped : Each Stepped steps
  pub all_steps : sum steps ≡ length tests
  pub all_tests_lem : sum tests ≡ edges
  pub light : Light steps tests
