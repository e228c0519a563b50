-- What the call for one window comes to: document 01's answer of the vector expression on the rows a to b, or
-- refused. 19 is given where one of the two is no row of the trace.
--   answer_over       the answer of a tree on a window
--   WindowAnswer     the call
--   TreeWindow       what is asked once the lists and the tree are good
use Rattle.std.specs.Prelude.{ℕ, max, List, length}
use Rattle.alf.specs.declared.Rules.{Rules}
use Rattle.alf.specs.declared.Sort.TheVariants.{Vector}
use Rattle.alf.specs.Values.{state_at}
use Rattle.alf.specs.Steady.{meant}
use Rattle.alf.specs.Windows.{Rank, answer, numbered}
use Rattle.trees.specs.Parts.{vector_at}
use Rattle.evaluator.specs.Rows.{Within}
use Rattle.window_answers.specs.Spans.{Pattern}
use Rattle.row_calls.specs.Written.{Answering}
use Rattle.judging.specs.Orders.{row_order}
use Rattle.row_calls.specs.Written.{Tells}

-- the answer of the vector expression that a tree is, as the rules read it, as a rank
abbrev pub answer_over : Rules → ℕ → List ℕ → List ℕ → ℕ → ℕ → Rank
answer_over ρ names tree states = answer (state_at ρ names states) (meant ρ (vector_at tree names (length tree)))

pub record WindowAnswer (ρ : Rules) (names n : ℕ) (tree states : List ℕ) (a b : ℕ) (r : Answering) : Type 0 where
  pub comes : Tells (row_order ρ names n tree Vector states (max a b)) (numbered (answer_over ρ names tree states a b)) r

-- What the function inside asks: a vector expression within the limits, and a trace that has row b.
pub record TreeWindow (names : ℕ) (tree states : List ℕ) (b : ℕ) : Type 0 where
  pub ends : Pattern tree names (length tree)
  pub there : Within states names b
