-- Demand 2: each row's answer is the one that document 01 defines for the expression as written; alternatives and the
-- queue give the same, unknown included, and the same time where the match began (document 02, [12]); expression and
-- trace survive writing and reading. Said of a question, a trace
-- file and a pattern's text, and of whatever the calls' contracts allow; so no call on the way is refused.
--   took_steps    the steps of the alternative that a yes is from
--   Demand2      of a pattern; Survival and Lists have two of its parts, and Values says it of a boolean expression
use Rattle.std.specs.Prelude.{Ok}
use Rattle.std.specs.Prelude.{None, Some}
use Rattle.std.specs.Prelude.{ℕ, suc, ◌+◌, ◌-◌, ◌<◌, ◌≤◌, max, ◌≡◌, true, List, [], length, get_or, if◌then◌else◌}
use Rattle.basics.specs.Refusing.{Outcome}
use Rattle.basics.specs.Words.{listed}
use Rattle.alf.specs.Values.{state_at}
use Rattle.alf.specs.Beginnings.{is_given, time_of_lem}
use Rattle.alf.specs.Windows.{YES, answer, numbered}
use Rattle.alf.specs.Alternatives.{alternatives, at_row, contradictory, number_of_alternatives}
use Rattle.alf.specs.Traces.{Totals}
use Rattle.trace_format.specs.Format.{codes_of}
use Rattle.contradictions.specs.Calls.{Contradicts}
use Rattle.matcher.specs.declared.tables.Total.{Total}
use Rattle.states.specs.FirstBadCode.{Codes}
use Rattle.timed_queue.specs.declared.queues.Queue.{Queue}
use Rattle.queue.specs.Queues.{fed}
use Rattle.row_calls.specs.Written.{Answering}
use Rattle.row_calls.specs.Written.{RowAnswer, AnsweredAs}
use Rattle.row_calls.specs.Windows.{WindowAnswer}
use Rattle.matching_calls.specs.Matching.{Matching}
use Rattle.matching_calls.specs.Matching.{Counting}
use Rattle.matching_calls.specs.Matching.{Lent, RowMatch, FoundAs, AllMatched, RowTotals}
use Rattle.queue_calls.specs.Pushing.{Push}
use Rattle.rewritten_laws.specs.WrittenOut.{WrittenOut}
use Rattle.demands.specs.Questions.{Question, names_of, tree_of, answer_on, tries_on, began_on, meant_by}
use Rattle.demands.specs.Questions.{answer_at, tries_at, began_at}
use Rattle.demands.specs.Survival.{Survives}
use Rattle.demands.specs.Lists.{ByLists}

-- k: the steps of the alternative whose position is the number tried at row i
abbrev pub took_steps : {file text : List ℕ} → Question file text → ℕ → ℕ
took_steps q i = length (get_or (alternatives (meant_by q)) (tries_at q i - 1) [])

-- A pattern.
module _ {file text : List ℕ} (q : Question file text) where
  pub record Demand2 : Type 0 where
    pub survives : Survives q
    -- as written: at a row, by recursion over the tree; on one window
    pub as_written : (i : ℕ) (x : Answering) → i < q.rows
        → RowAnswer q.rules (names_of q) q.rows (tree_of q) q.states i x → AnsweredAs (answer_at q i) x
    pub on_window_lem : (a b : ℕ) (x : Answering) → max a b < q.rows
        → WindowAnswer q.rules (names_of q) q.rows (tree_of q) q.states a b x
        → AnsweredAs (numbered (answer (state_at q.rules (names_of q) q.states) (meant_by q) a b)) x
    -- by alternatives, with the number tried and the time where the match began: at a row, at all rows
    pub by_alternatives : (i : ℕ) (y : Matching) → i < q.rows
        → RowMatch q.rules (names_of q) q.rows (tree_of q) q.times q.states i y
        → FoundAs (answer_at q i) (tries_at q i) (began_at q i) y
    pub all_rows : (answers tried given began answers' tried' given' began' : List ℕ) (r : Outcome)
        → Lent q.rows (length q.times) (length answers) (length tried) (length given) (length began)
        → AllMatched q.rules (names_of q) q.rows (tree_of q) q.times q.states answers tried given began
        answers' tried' given' began' r
        → (r ≡ Ok q.rows) × (answers' ≡ listed 0 q.rows (answer_at q))
        × (tried' ≡ listed 0 q.rows (tries_at q)) × (given' ≡ listed 0 q.rows (λ i. is_given (began_at q i)))
        × (began' ≡ listed 0 q.rows (λ i. time_of_lem (began_at q i)))
    -- by the queue: the rows of the trace are pushed with their times, the first into a queue that keeps nothing
    pub by_queue : (queues : ℕ → Queue) (results : ℕ → Matching) → (queues 0).rows.kept.0 ≡ 0
        → ((i : ℕ) → i < q.rows
        → Push q.rules (names_of q) (tree_of q) (queues i) (get_or q.times i 0) (codes_of (names_of q) q.states i)
        (results i) (queues (suc i)))
        → (i : ℕ) → i < q.rows → FoundAs (answer_at q i) (tries_at q i) (began_at q i) (results i)
    -- any rows over the same names, any times that rise, and any number of pushes: push i answers for row i of what was
    -- fed so far
    pub any_feed : (n : ℕ) (rows : ℕ → List ℕ) (times : ℕ → ℕ) (queues : ℕ → Queue) (results : ℕ → Matching)
        → (queues 0).rows.kept.0 ≡ 0
        → ((i : ℕ) → i < n → length (rows i) ≡ names_of q) → ((i : ℕ) → i < n → Codes (rows i))
        → ((i : ℕ) → suc i < n → times i < times (suc i))
        → ((i : ℕ) → i < n
        → Push q.rules (names_of q) (tree_of q) (queues i) (times i) (rows i) (results i) (queues (suc i)))
        → (i : ℕ) → i < n
        → FoundAs (answer_on q (fed rows (suc i)) i) (tries_on q (fed rows (suc i)) i)
        (began_on q (listed 0 (suc i) times) (fed rows (suc i)) i) (results i)
    -- a yes began at row i - k, k the steps of the alternative whose position is the number tried, and the window from
    -- there to row i answers yes for the expression as written; no other answer has a time
    pub begins : (i : ℕ) → answer_at q i ≡ 1
        → (took_steps q i ≤ i) × (began_at q i ≡ Some (record { 0 = get_or q.times (i - took_steps q i) 0 }))
        × (answer (state_at q.rules (names_of q) q.states) (meant_by q) (i - took_steps q i) i ≡ YES)
    pub no_time : (i : ℕ) → (answer_at q i ≡ 1 → ⊥) → began_at q i ≡ None
    -- the totals are of these answers, and yes, no and unknown together are n-1
    pub totals_right : (z : Counting) → RowTotals q.rules (names_of q) q.rows (tree_of q) q.states z
        → (t : Total) × ((z ≡ Ok t)
        × Totals (state_at q.rules (names_of q) q.states) (meant_by q) q.rows t.yes t.no t.unknown
        × (t.yes + t.no + t.unknown ≡ q.rows - 1))
    -- by the lists that `rewrite` writes: accepted, nothing dropped, and the same answers
    pub by_lists : (steps tests edges operands : List ℕ)
        → WrittenOut q.rules (names_of q) (tree_of q) steps tests edges operands → ByLists q steps tests edges operands
    -- contradictory alternatives are flagged exactly, and never answer yes
    pub flagged : (flags flags' : List ℕ) (r : Outcome) → number_of_alternatives (meant_by q) ≤ length flags
        → Contradicts q.rules (names_of q) (tree_of q) flags flags' r
        → (r ≡ Ok (number_of_alternatives (meant_by q)))
        × ((t : ℕ) → t < number_of_alternatives (meant_by q)
        → get_or flags' t 0 ≡ (if contradictory (names_of q) (get_or (alternatives (meant_by q)) t []) then 1 else 0))
    pub never_yes : (t i : ℕ) → contradictory (names_of q) (get_or (alternatives (meant_by q)) t []) ≡ true
        → at_row (state_at q.rules (names_of q) q.states) i (get_or (alternatives (meant_by q)) t []) ≡ YES → ⊥
