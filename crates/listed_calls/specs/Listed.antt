-- What the calls come to that match by alternatives handed in: document 01's answer of the alternatives, the number
-- tried, and document 02's time where the match began ([12]); or refused with 18, 10, 15, 13, 19.
--   alternatives_in                        the alternatives that are handed in
--   row_order, ListedMatch                 a row
--   rows_order, timed_order, ListedAll, ListedTotals    all rows, in lent lists; the totals
--   Handed, push_order, Takes, ListedPush, DecidesQueue    a push
use Rattle.std.specs.Prelude.{Err, Ok}
use Rattle.std.specs.Prelude.{ℕ, ◌≤◌, ◌≡◌, Bool, List, length}
use Rattle.basics.specs.Refusing.{Outcome}
use Rattle.basics.specs.Words.{listed}
use Rattle.alf.specs.declared.Rules.{Rules}
use Rattle.alf.specs.Values.{state_at}
use Rattle.alf.specs.Alternatives.{Alternative, tries, answer_of}
use Rattle.alf.specs.Refusals.{Order, RefusedBy, Passed, Comes}
use Rattle.basics.specs.Deciding.{Decides}
use Rattle.alternatives.specs.InMemory.{alternatives_of_lem}
use Rattle.beginnings.specs.Dated.{Dates, flags_on, times_on}
use Rattle.matcher.specs.Tables.{TotalsOf}
use Rattle.timed_queue.specs.declared.queues.Queue.{Queue}
use Rattle.alternatives.specs.InMemory.{longest_of}
use Rattle.timed_queue.specs.TimedQueues.{Pushes}
use Rattle.matching_calls.specs.Matching.{Matching}
use Rattle.matching_calls.specs.Matching.{Counting}
use Rattle.judging.specs.Orders.{Rows, order, codes}
use Rattle.judging.specs.TimedOrders.{timed_codes, timed_codes_row}
use Rattle.basics.specs.Memory.{after}
use Rattle.matching_calls.specs.Matching.{Lent, Finds, Counts}
use Rattle.queue_calls.specs.Pushing.{RowFits, Keeps, row_and_time}
use Rattle.listed_acceptance.specs.Lists.{AcceptedAlternatives}

module _ (names n : ℕ) (tree steps tests edges operands states : List ℕ) where
  -- the alternatives that are handed in
  abbrev pub alternatives_in : List Alternative
  alternatives_in = alternatives_of_lem tree names steps tests edges operands

  -- at a row: 18, 10, 15, 13, 19
  abbrev pub row_order : List ℕ → ℕ → Order
  row_order times row =
      order ((length times ≡ n) × Rows names n (length states))
      (AcceptedAlternatives names tree steps tests edges operands) (timed_codes_row states times n row)

  -- at all rows: 18, 10, 15; with times 13
  abbrev pub rows_order : Type 0 → Order
  rows_order lists = order lists (AcceptedAlternatives names tree steps tests edges operands) (codes states)

  abbrev pub timed_order : Type 0 → List ℕ → Order
  timed_order lists times =
      order lists (AcceptedAlternatives names tree steps tests edges operands) (timed_codes states times)

module _ (ρ : Rules) (names n : ℕ) (tree steps tests edges operands states : List ℕ) where
  abbrev given : List Alternative
  given = alternatives_in names n tree steps tests edges operands states

  pub record ListedMatch (times : List ℕ) (row : ℕ) (r : Matching) : Type 0 where
    pub comes : Finds (row_order names n tree steps tests edges operands states times row)
        (Dates (state_at ρ names states) times given row) r

  pub record ListedAll (times answers tried flags began answers' tried' flags' began' : List ℕ) (r : Outcome) : Type 0
    where
      pub comes : Comes
          (timed_order names n tree steps tests edges operands states
          (Lent n (length times) (length answers) (length tried) (length flags) (length began)
          × Rows names n (length states)) times) (λ k. k ≡ n) r
      pub answers_memory : answers' ≡ after (listed 0 n (answer_of (state_at ρ names states) given)) answers r
      pub tried_memory : tried' ≡ after (listed 0 n (tries (state_at ρ names states) given)) tried r
      pub given_memory : flags' ≡ after (listed 0 n (flags_on (state_at ρ names states) times given)) flags r
      pub began_memory : began' ≡ after (listed 0 n (times_on (state_at ρ names states) times given)) began r

  abbrev lent : Type 0 → Order
  lent = rows_order names n tree steps tests edges operands states

  pub record ListedTotals (r : Counting) : Type 0 where
    pub comes : Counts (lent (Rows names n (length states))) (TotalsOf (state_at ρ names states) given n) r

module _ (names : ℕ) (tree steps tests edges operands : List ℕ) (queue : Queue) where
  -- alternatives that are accepted, and a queue that keeps at most K rows
  pub record Handed : Type 0 where
    pub accepted : AcceptedAlternatives names tree steps tests edges operands
    pub kept : Keeps names (longest_of (alternatives_of_lem tree names steps tests edges operands)) queue

  -- 18, 10, and 15 and 13 of the new row
  abbrev pub push_order : ℕ → List ℕ → Order
  push_order time row = order (RowFits names (length row)) Handed (row_and_time queue time row)

  -- for the function inside
  pub record DecidesQueue (r : Bool) : Type 0 where
    pub is : names ≤ 32 → Decides r Handed

module _ (ρ : Rules) (names : ℕ) (tree steps tests edges operands : List ℕ) (queue : Queue) where
  unfoldable pub Takes : ℕ → List ℕ → Matching → Queue → Type 0
  Takes time row (Ok m) queue' =
      Passed (push_order names tree steps tests edges operands queue time row)
      × Pushes ρ names (alternatives_of_lem tree names steps tests edges operands) queue time row m.answer m.tries
      m.began queue'
  Takes time row (Err r) queue' =
      RefusedBy (push_order names tree steps tests edges operands queue time row) r × (queue' ≡ queue)

  pub record ListedPush (time : ℕ) (row : List ℕ) (told : Matching) (queue' : Queue) : Type 0 where
    pub comes : Takes time row told queue'
