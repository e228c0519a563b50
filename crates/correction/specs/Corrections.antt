-- Document 01, "A correction stores the new states as row r": what is asked and promised.
--   RewriteAsked, CorrectionAsked, Reaching     what is asked
--   Corrects                                    what is promised
--   RewriteAskedOn, CorrectionAskedOn           what is asked of lists as code has them
use Rattle.std.specs.Prelude.{ℕ, ◌+◌, ◌-◌, ◌<◌, ◌≤◌, ◌≡◌, List, length}
use Rattle.alf.specs.declared.Rules.{Rules}
use Rattle.alf.specs.Values.{state_at}
use Rattle.alf.specs.Alternatives.{Alternative, answer_of}
use Rattle.alf.specs.Traces.{corrected, last_rewritten}
use Rattle.states.specs.FirstBadCode.{Codes}
use Rattle.alternatives.specs.declared.lists.Lists.{Lists}
use Rattle.matcher.specs.declared.scenes.Scene.{Scene}
use Rattle.matcher.specs.Tables.{RowsAsked}
use Rattle.basics.specs.Words.{listed}
use Rattle.basics.specs.Memory.{placed}
use Rattle.alternatives.specs.InMemory.{longest_of}

-- m rows from r on, of n rows
pub record RewriteAsked (tree : List ℕ) (names : ℕ) (states steps tests edges operands : List ℕ) (n r m : ℕ)
    (answers : List ℕ) : Type 0 where
  pub asked : RowsAsked tree names states steps tests edges operands n
  pub there : r + m ≤ n
  pub room : n ≤ length answers

-- row r of n rows, a new state for each name
pub record CorrectionAsked (tree : List ℕ) (names : ℕ) (states steps tests edges operands : List ℕ) (n r : ℕ)
    (answers new : List ℕ) : Type 0 where
  pub asked : RowsAsked tree names states steps tests edges operands n
  pub there : r < n
  pub room : n ≤ length answers
  pub full : length new ≡ names
  pub codes : Codes new

-- row r of n rows, and the steps of the longest alternative, a byte
pub record Reaching (k n r : ℕ) : Type 0 where
  pub there : r < n
  pub few : n ≤ 65535
  pub byte : k < 256

-- the new states as row r; the answers r to min(r+K, n-1) are those of the corrected trace; everything else stays
pub record Corrects (ρ : Rules) (names : ℕ) (xs : List Alternative) (n r : ℕ)
    (states answers new states' answers' : List ℕ)
    : Type 0 where
  pub stored : states' ≡ corrected names states r new
  pub rewritten : answers'
      ≡ placed answers r (listed r (last_rewritten (longest_of xs) n r + 1 - r)
      (answer_of (state_at ρ names (corrected names states r new)) xs))

-- what is asked of a scene and lists
abbrev pub RewriteAskedOn : Scene → Lists → ℕ → ℕ → ℕ → List ℕ → Type 0
RewriteAskedOn x l n r m answers =
    RewriteAsked x.tree.now x.names x.states.now l.steps.now l.tests.now l.edges.now l.operands.now n r m answers

abbrev pub CorrectionAskedOn : List ℕ → ℕ → List ℕ → Lists → ℕ → ℕ → List ℕ → List ℕ → Type 0
CorrectionAskedOn tree names states l n r answers new =
    CorrectionAsked tree names states l.steps.now l.tests.now l.edges.now l.operands.now n r answers new
