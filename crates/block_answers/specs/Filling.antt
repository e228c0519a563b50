-- The answers and numbers tried of a block's rows, in the lists of all rows.
--   FillBlock, BlockFilled     what is asked, and what is made of the lists, for whatever tests the columns stand for
--   FillBlockOn, BlockFilledOn     the same of a scene, lists and columns as code has them
use Rattle.std.specs.Prelude.{ℕ, ◌+◌, ◌≤◌, List, length}
use Rattle.alf.specs.declared.Rules.{Rules}
use Rattle.alf.specs.Values.{state_at}
use Rattle.alf.specs.Alternatives.{answer_of, tries}
use Rattle.alternatives.specs.declared.lists.Lists.{Lists}
use Rattle.alternatives.specs.InMemory.{sum, alternatives_of_lem}
use Rattle.state_columns.specs.Entries.{Over}
use Rattle.matcher.specs.declared.scenes.Scene.{Scene}
use Rattle.blocks.specs.declared.rows.Columns.{Columns}
use Rattle.blocks.specs.Rows.{Prepared, Block}

pub record FillBlock (tree : List ℕ) (names : ℕ) (states steps counts ends slots : List ℕ) (many : ℕ)
    (tables : List ℕ) (from m : ℕ) (cols answers tried : List ℕ) : Type 0 where
  pub block : Block tree names states steps counts ends slots many tables from m cols
  pub answers_room : from + m ≤ length answers
  pub tried_room : from + m ≤ length tried

pub record BlockFilled (ρ : Rules) (tree : List ℕ) (names : ℕ) (states steps counts ends slots : List ℕ) (many : ℕ)
    (tables : List ℕ) (from m : ℕ) (answers tried answers' tried' : List ℕ) : Type 0 where
  pub answered : (edges operands : List ℕ) → Prepared tree names edges operands ends slots many tables
      → sum counts ≤ length edges → length edges ≤ length operands
      → Over answers from m
      (λ i. answer_of (state_at ρ names states) (alternatives_of_lem tree names steps counts edges operands) (from + i))
      answers'
  pub counted : (edges operands : List ℕ) → Prepared tree names edges operands ends slots many tables
      → sum counts ≤ length edges → length edges ≤ length operands
      → Over tried from m
      (λ i. tries (state_at ρ names states) (alternatives_of_lem tree names steps counts edges operands)
      (from + i)) tried'

-- the same of a scene, lists and columns
abbrev pub FillBlockOn : Scene → Lists → Columns → ℕ → ℕ → List ℕ → List ℕ → List ℕ → Type 0
FillBlockOn x l k from m cols answers tried =
    FillBlock x.tree.now x.names x.states.now l.steps.now l.tests.now k.ends.now k.slots.now k.many k.tables.now from m
    cols answers tried

abbrev pub BlockFilledOn : Scene → Lists → Columns → ℕ → ℕ → List ℕ → List ℕ → List ℕ → List ℕ → Type 0
BlockFilledOn x l k from m answers tried answers' tried' =
    BlockFilled x.rules x.tree.now x.names x.states.now l.steps.now l.tests.now k.ends.now k.slots.now k.many
    k.tables.now from m answers tried answers' tried'
