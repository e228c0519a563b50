-- The alternatives of a tree as four lists; alternatives/specs/InMemory says what the lists stand for.
--   joined, alternatives_by, alternatives_at   lists one after the other; the alternatives of a tree, operands as places
--   Ready          a tree that is accepted, with the pins that are found in it
--   step_list       for each alternative its number of steps
--   test_list       for each step, all alternatives' steps one after the other, its number of tests
--   edge_list       for each test, all steps' tests one after the other, the number of its edge
--   operand_list    for each test the place where its operand ends
--   Long, Filled, Fillable         how long the lists are, the lists at the front of four others, their room
--   alternative_of, Adding, Added   the steps of one alternative behind others
--   InUse, Holds                   the lists of a tree by value
--   Fronts, Lends, StandFor        the same lists without what stands behind them, lent
use Rattle.std.specs.Prelude.{ℕ, ◌+◌, ◌<◌, ◌≤◌, ◌≡◌, List, [], ◌∷◌, ◌++◌, map, length, get_or, take, replicate}
use Rattle.std.proofs.lemmas.List.Edits.{sets}
use Rattle.alf.specs.Expressions.{name}
use Rattle.alf.specs.Alternatives.{Alternative, alternatives}
use Rattle.alf.specs.Steady.{meant}
use Rattle.alf.specs.declared.Rules.{Rules}
use Rattle.alf.specs.declared.Sort.TheVariants.{Vector}
use Rattle.trees.specs.Parts.{vector_at}
use Rattle.acceptance.specs.Accepted.{Accepted}
use Rattle.alternatives.specs.declared.lists.Lists.{Lists}
use Rattle.alternatives.specs.Listed.{alternatives_listed}
use Rattle.alternatives.specs.InMemory.{alternatives_of_lem, Shape}
use Rattle.rewriting.specs.declared.lists.Alternatives.{Alternatives}
use Rattle.steady_pins.specs.Pinned.{by_places}
use Rattle.steady_pins.specs.Finding.{pins_of}
use Rattle.step_tests.specs.OperandPlaces.{numbers, ends}
use Rattle.step_tests.specs.Steps.{Put}
use Rattle.basics.specs.Memory.{front}

-- some lists, one after the other
unfoldable pub joined : {A : Type 0} → List (List A) → List A
joined [] = []
joined (x ∷ xs) = x ++ joined xs

-- the alternatives of a whole tree with some pins, each operand named by the place where it ends; with those that are
-- found
abbrev pub alternatives_by : List ℕ → List ℕ → ℕ → List Alternative
alternatives_by pins tree names =
    alternatives (by_places name pins (length tree) (vector_at tree names (length tree)))

abbrev pub alternatives_at : Rules → List ℕ → ℕ → List Alternative
alternatives_at ρ tree names = alternatives_by (pins_of ρ tree names (length tree)) tree names

-- a tree that some rules accept, with the pins that are found by them
pub record Ready (pins tree : List ℕ) (names : ℕ) : Type 0 where
  pub rules : Rules
  pub accepted : Accepted rules names Vector tree
  pub found : pins ≡ pins_of rules tree names (length tree)

unfoldable pub step_list : List Alternative → List ℕ
step_list xs = map length xs

unfoldable pub test_list : List Alternative → List ℕ
test_list xs = map length (joined xs)

unfoldable pub edge_list : List Alternative → List ℕ
edge_list xs = numbers (joined (joined xs))

unfoldable pub operand_list : List Alternative → List ℕ
operand_list xs = ends (joined (joined xs))

-- how long the lists are: alternatives, steps, tests
pub record Long (xs : List Alternative) (count steps tests : ℕ) : Type 0 where
  pub alternatives_are : count ≡ length xs
  pub steps_are : steps ≡ length (joined xs)
  pub tests_are : tests ≡ length (joined (joined xs))

-- the lists at the front of four others
pub record Filled (xs : List Alternative) (steps tests edges operands steps' tests' edges' operands' : List ℕ)
    : Type 0 where
  pub steps_are : steps' ≡ front (step_list xs) steps
  pub tests_are : tests' ≡ front (test_list xs) tests
  pub edges_are : edges' ≡ front (edge_list xs) edges
  pub operands_are : operands' ≡ front (operand_list xs) operands

-- they have room
pub record Fillable (pins tree : List ℕ) (names : ℕ) (steps tests edges operands : List ℕ) : Type 0 where
  pub ready : Ready pins tree names
  pub steps_room : length (alternatives_by pins tree names) ≤ length steps
  pub tests_room : length (joined (alternatives_by pins tree names)) ≤ length tests
  pub edges_room : length (joined (joined (alternatives_by pins tree names))) ≤ length edges
  pub operands_room : length (joined (joined (alternatives_by pins tree names))) ≤ length operands

-- the n steps of alternative t, behind others: what is asked, and what is written
abbrev pub alternative_of : List ℕ → List ℕ → ℕ → ℕ → Alternative
alternative_of pins tree names t = get_or (alternatives_by pins tree names) t []

pub record Adding (pins tree : List ℕ) (names t n : ℕ) (tests : List ℕ) (s : ℕ) (edges operands : List ℕ)
    (from : ℕ)
    : Type 0 where
  pub ready : Ready pins tree names
  pub there : t < length (alternatives_by pins tree names)
  pub steps : n ≡ length (alternative_of pins tree names t)
  pub tests_room : s + n ≤ length tests
  pub edges_room : from + length (joined (alternative_of pins tree names t)) ≤ length edges
  pub operands_room : from + length (joined (alternative_of pins tree names t)) ≤ length operands

pub record Added (pins tree : List ℕ) (names t : ℕ) (tests : List ℕ) (s : ℕ) (edges operands : List ℕ) (from : ℕ)
    (tests' edges' operands' : List ℕ) (next : ℕ) : Type 0 where
  pub counts : tests' ≡ sets tests s (map length (alternative_of pins tree names t))
  pub put : Put (joined (alternative_of pins tree names t)) from edges operands next edges' operands'

-- the first n entries of a list are in use: they are there, and they are n
pub record InUse (n : ℕ) (l : List ℕ) : Type 0 where
  pub within : n ≤ length l
  pub many : n ≡ length (take n l)

-- The lists of a tree by value. Their fronts, as long as the counts say, have the shape that matching asks for, and
-- stand for the alternatives of the expression as the rules read it; zeros stand behind.
pub record Holds (ρ : Rules) (tree : List ℕ) (names : ℕ) (a : Alternatives) : Type 0 where
  pub long : Long (alternatives_at ρ tree names) a.count a.step_count a.test_count
  pub filled : Filled (alternatives_at ρ tree names) (replicate 64 0) (replicate 1024 0) (replicate 4096 0)
      (replicate 4096 0) a.steps a.tests a.edges a.operands
  pub steps_used : InUse a.count a.steps
  pub tests_used : InUse a.step_count a.tests
  pub edges_used : InUse a.test_count a.edges
  pub operands_used : InUse a.test_count a.operands
  pub shape : Shape tree names (take a.count a.steps) (take a.step_count a.tests)
      (take a.test_count a.edges) (take a.test_count a.operands)
  pub stands : alternatives_of_lem tree names (take a.count a.steps) (take a.step_count a.tests)
      (take a.test_count a.edges) (take a.test_count a.operands)
      ≡ alternatives (meant ρ (vector_at tree names (length tree)))

-- the lists without what stands behind them
pub record Fronts (a : Alternatives) : Type 0 where
  pub steps_within : a.count ≤ length a.steps
  pub tests_within : a.step_count ≤ length a.tests
  pub edges_within : a.test_count ≤ length a.edges
  pub operands_within : a.test_count ≤ length a.operands

pub record Lends (a : Alternatives) (l : Lists) : Type 0 where
  pub steps_are : l.steps.now ≡ take a.count a.steps
  pub tests_are : l.tests.now ≡ take a.step_count a.tests
  pub edges_are : l.edges.now ≡ take a.test_count a.edges
  pub operands_are : l.operands.now ≡ take a.test_count a.operands

-- They have the shape that matching asks for, and stand for the alternatives of the expression as the rules read it.
pub record StandFor (ρ : Rules) (tree : List ℕ) (names : ℕ) (l : Lists) : Type 0 where
  pub shape : Shape tree names l.steps.now l.tests.now l.edges.now l.operands.now
  pub stands : alternatives_listed tree names l ≡ alternatives (meant ρ (vector_at tree names (length tree)))
