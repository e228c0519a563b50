-- How many of a block's rows are yes, no and unknown.
--   Counts, BlockCounted     of the answers of a rule; of those of the alternatives
--   BlockCountedOn           the same of a scene, lists and columns as code has them
use Rattle.std.specs.Prelude.{ℕ, ◌+◌, ◌≤◌, ◌≡◌, List, length, eqb}
use Rattle.basics.specs.Words.{count}
use Rattle.alf.specs.declared.Rules.{Rules}
use Rattle.alf.specs.Values.{state_at}
use Rattle.alf.specs.Alternatives.{answer_of}
use Rattle.alternatives.specs.declared.lists.Lists.{Lists}
use Rattle.alternatives.specs.InMemory.{sum, alternatives_of_lem}
use Rattle.matcher.specs.declared.scenes.Scene.{Scene}
use Rattle.blocks.specs.declared.rows.Columns.{Columns}
use Rattle.blocks.specs.Rows.{Prepared}

-- how many of the m answers from `from` on are yes, no and unknown, by their numbers
pub record Counts (f : ℕ → ℕ) (from m yes no unknown : ℕ) : Type 0 where
  pub yeses : yes ≡ count m (λ i. eqb (f (from + i)) 1)
  pub noes : no ≡ count m (λ i. eqb (f (from + i)) 0)
  pub unknowns : unknown ≡ count m (λ i. eqb (f (from + i)) 2)

pub record BlockCounted (ρ : Rules) (tree : List ℕ) (names : ℕ) (states steps counts ends slots : List ℕ) (many : ℕ)
    (tables : List ℕ) (from m yes no unknown : ℕ) : Type 0 where
  pub counted : (edges operands : List ℕ) → Prepared tree names edges operands ends slots many tables
      → sum counts ≤ length edges → length edges ≤ length operands
      → Counts (answer_of (state_at ρ names states) (alternatives_of_lem tree names steps counts edges operands)) from m yes no
      unknown

-- the same of a scene, lists and columns
abbrev pub BlockCountedOn : Scene → Lists → Columns → ℕ → ℕ → ℕ → ℕ → ℕ → Type 0
BlockCountedOn x l k from m y f u =
    BlockCounted x.rules x.tree.now x.names x.states.now l.steps.now l.tests.now k.ends.now k.slots.now k.many
    k.tables.now from m y f u
