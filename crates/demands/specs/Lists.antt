-- Demand 2, of the lists that `rewrite` writes for a pattern: what the calls answer that take alternatives as lists.
--   ByLists      the lists are accepted, nothing is dropped, and the answers are those by the tree
use Rattle.std.specs.Prelude.{Ok}
use Rattle.std.specs.Prelude.{ℕ, suc, ◌+◌, ◌-◌, ◌<◌, ◌≡◌, List, length}
use Rattle.basics.specs.Refusing.{Outcome}
use Rattle.basics.specs.Words.{listed}
use Rattle.alf.specs.Values.{state_at}
use Rattle.alf.specs.Beginnings.{is_given, time_of_lem}
use Rattle.alf.specs.Alternatives.{alternatives}
use Rattle.alf.specs.Traces.{Totals}
use Rattle.alternatives.specs.InMemory.{alternatives_of_lem}
use Rattle.matcher.specs.declared.tables.Total.{Total}
use Rattle.states.specs.FirstBadCode.{Codes}
use Rattle.timed_queue.specs.declared.queues.Queue.{Queue}
use Rattle.queue.specs.Queues.{fed}
use Rattle.matching_calls.specs.Matching.{Matching}
use Rattle.matching_calls.specs.Matching.{Counting}
use Rattle.matching_calls.specs.Matching.{Lent, FoundAs}
use Rattle.listed_acceptance.specs.Lists.{AcceptedAlternatives}
use Rattle.listed_calls.specs.Listed.{ListedMatch, ListedAll, ListedTotals, ListedPush}
use Rattle.demands.specs.Questions.{Question, names_of, tree_of, answer_on, tries_on, began_on, meant_by}
use Rattle.demands.specs.Questions.{answer_at, tries_at, began_at}

-- What `rewrite` writes for a pattern: the calls that take alternatives as lists accept it, and answer as by the tree.
module _ {file text : List ℕ} (q : Question file text) (steps tests edges operands : List ℕ) where
  pub record ByLists : Type 0 where
    -- the lists are accepted, and stand for all of the pattern's alternatives, contradictory ones too, in their order
    pub accepted : AcceptedAlternatives (names_of q) (tree_of q) steps tests edges operands
    pub all_kept : alternatives_of_lem (tree_of q) (names_of q) steps tests edges operands ≡ alternatives (meant_by q)
    -- at a row, at all rows, the totals
    pub at_row : (i : ℕ) (y : Matching) → i < q.rows
        → ListedMatch q.rules (names_of q) q.rows (tree_of q) steps tests edges operands q.states q.times i y
        → FoundAs (answer_at q i) (tries_at q i) (began_at q i) y
    pub at_all : (answers tried given began answers' tried' given' began' : List ℕ) (r : Outcome)
        → Lent q.rows (length q.times) (length answers) (length tried) (length given) (length began)
        → ListedAll q.rules (names_of q) q.rows (tree_of q) steps tests edges operands q.states q.times
        answers
        tried given began answers' tried' given' began' r
        → (r ≡ Ok q.rows) × (answers' ≡ listed 0 q.rows (answer_at q))
        × (tried' ≡ listed 0 q.rows (tries_at q)) × (given' ≡ listed 0 q.rows (λ i. is_given (began_at q i)))
        × (began' ≡ listed 0 q.rows (λ i. time_of_lem (began_at q i)))
    pub counted : (z : Counting)
        → ListedTotals q.rules (names_of q) q.rows (tree_of q) steps tests edges operands q.states z
        → (t : Total) × ((z ≡ Ok t)
        × Totals (state_at q.rules (names_of q) q.states) (meant_by q) q.rows t.yes t.no t.unknown
        × (t.yes + t.no + t.unknown ≡ q.rows - 1))
    -- by the queue, for any rows, any times that rise, and any number of pushes
    pub fed_to : (n : ℕ) (rows : ℕ → List ℕ) (times : ℕ → ℕ) (queues : ℕ → Queue) (results : ℕ → Matching)
        → (queues 0).rows.kept.0 ≡ 0
        → ((i : ℕ) → i < n → length (rows i) ≡ names_of q) → ((i : ℕ) → i < n → Codes (rows i))
        → ((i : ℕ) → suc i < n → times i < times (suc i))
        → ((i : ℕ) → i < n
        → ListedPush q.rules (names_of q) (tree_of q) steps tests edges operands (queues i) (times i) (rows i)
        (results i) (queues (suc i)))
        → (i : ℕ) → i < n
        → FoundAs (answer_on q (fed rows (suc i)) i) (tries_on q (fed rows (suc i)) i)
        (began_on q (listed 0 (suc i) times) (fed rows (suc i)) i) (results i)
