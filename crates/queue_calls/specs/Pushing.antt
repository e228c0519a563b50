-- What a push comes to, for a tree: the answer at the last row of what is kept and pushed, the number tried, the time
-- where the match began, and the queue that keeps the last K rows with their times; refused, the queue as it was.
--   RowFits, KeepsRows, Keeps, Handed     what may be handed in
--   last_time, Early, late, push_order      a time that is not above the last; the order of the refusals
--   PushesTree, Takes, Push               the call
--   Small, DecidesQueue, JudgesPush, TreePush         what the functions inside ask and tell
use Rattle.std.specs.Prelude.{Err, Ok}
use Rattle.std.specs.Prelude.{ℕ, ◌+◌, ◌-◌, ◌<◌, ◌≤◌, min, ◌≡◌, Bool, List, [], ◌∷◌, length, get_or}
use Rattle.alf.specs.declared.Rules.{Rules}
use Rattle.alf.specs.declared.Answer.{Answer}
use Rattle.alf.specs.Beginnings.{Began}
use Rattle.alf.specs.declared.Sort.TheVariants.{Vector}
use Rattle.alf.specs.Alternatives.{steps_of}
use Rattle.alf.specs.Refusals.{Order, check, bad_code, early_time, Rising, NameCount, RefusedBy, Passed}
use Rattle.acceptance.specs.Accepted.{Accepted}
use Rattle.basics.specs.Deciding.{Decides}
use Rattle.queue.specs.declared.queues.Queue as rows
use Rattle.timed_queue.specs.declared.queues.Queue.{Queue}
use Rattle.states.specs.FirstBadCode.{Codes}
use Rattle.queue.specs.Queues.{held_of, trace_of, last_rows, stored}
use Rattle.timed_queue.specs.Stamps.{stored_times}
use Rattle.timed_queue.specs.TimedQueues.{held_times, times_of}
use Rattle.judging.specs.Orders.{Verdict}
use Rattle.matching_calls.specs.Matching.{Matching}
use Rattle.judging.specs.Orders.{order, Judges}
use Rattle.matching_calls.specs.Matching.{expression, MatchesTree}

-- 1 to 32 names, and a state for each
pub record RowFits (names row : ℕ) : Type 0 where
  pub name_count_lem : NameCount names
  pub full : row ≡ names

-- at most k rows that are kept, and no code above 7
pub record KeepsRows (names k : ℕ) (queue : rows.Queue) : Type 0 where
  pub few : queue.kept.0 ≤ k
  pub codes : Codes (held_of names queue)

-- a queue that keeps such rows, and times that rise
pub record Keeps (names k : ℕ) (queue : Queue) : Type 0 where
  pub kept : KeepsRows names k queue.rows
  pub rising : Rising (held_times queue)

-- a tree that is accepted, and a queue that keeps at most K rows
pub record Handed (ρ : Rules) (names : ℕ) (tree : List ℕ) (queue : Queue) : Type 0 where
  pub accepted : Accepted ρ names Vector tree
  pub kept : Keeps names (steps_of (expression ρ tree names)) queue

-- the time of the last row kept; a time that is not above it; 13 for that, at 0
abbrev pub last_time : Queue → ℕ
last_time queue = get_or queue.times (queue.rows.kept.0 - 1) 0

abbrev pub Early : Queue → ℕ → Type 0
Early queue time = (0 < queue.rows.kept.0) × (time ≤ last_time queue)

abbrev pub late : Queue → ℕ → Order
late queue time = check 13 (early_time 0 (Early queue time)) ∷ []

-- 15 and 13 of the new row
abbrev pub row_and_time : Queue → ℕ → List ℕ → Order
row_and_time queue time row = check 15 (bad_code row) ∷ check 13 (early_time 0 (Early queue time)) ∷ []

-- 18, 10, and 15 and 13 of the new row
abbrev pub push_order : Rules → ℕ → List ℕ → Queue → ℕ → List ℕ → Order
push_order ρ names tree queue time row =
    order (RowFits names (length row)) (Handed ρ names tree queue) (row_and_time queue time row)

-- the answer on windows, the number tried and the time at the last row of what is kept and pushed; of that the last K
-- rows are kept, and their times
pub record PushesTree (ρ : Rules) (names : ℕ) (tree : List ℕ) (queue : Queue) (time : ℕ) (row : List ℕ)
    (answer : Answer)
    (tried : ℕ) (since : Began) (queue' : Queue) : Type 0 where
  pub matched : MatchesTree ρ names tree (times_of queue time) (trace_of names queue.rows row) queue.rows.kept.0
      answer tried since
  pub kept : queue'.rows.kept.0 ≡ min (queue.rows.kept.0 + 1) (steps_of (expression ρ tree names))
  pub states : queue'.rows.states
      ≡ stored (last_rows names (steps_of (expression ρ tree names)) (queue.rows.kept.0 + 1)
      (trace_of names queue.rows row))
  pub times : queue'.times
      ≡ stored_times (last_rows 1 (steps_of (expression ρ tree names)) (queue.rows.kept.0 + 1) (times_of queue time))

unfoldable pub Takes : Rules → ℕ → List ℕ → Queue → ℕ → List ℕ → Matching → Queue → Type 0
Takes ρ names tree queue time row (Ok m) queue' =
    Passed (push_order ρ names tree queue time row)
    × PushesTree ρ names tree queue time row m.answer m.tries m.began queue'
Takes ρ names tree queue time row (Err r) queue' =
    RefusedBy (push_order ρ names tree queue time row) r × (queue' ≡ queue)

pub record Push (ρ : Rules) (names : ℕ) (tree : List ℕ) (queue : Queue) (time : ℕ) (row : List ℕ) (told : Matching)
    (queue' : Queue) : Type 0 where
  pub comes : Takes ρ names tree queue time row told queue'

-- What the functions inside ask and tell: at most 32 names and 16 rows; whether a queue may be handed in; what is
-- pushed is good.
pub record Small (names k : ℕ) : Type 0 where
  pub most : names ≤ 32
  pub few : k ≤ 16

pub record DecidesQueue (ρ : Rules) (names : ℕ) (tree : List ℕ) (queue : Queue) (r : Bool) : Type 0 where
  pub is : names ≤ 32 → Decides r (Handed ρ names tree queue)

-- by two tests, whatever they stand for
pub record JudgesPush (fits good : Bool) (queue : Queue) (time : ℕ) (row : List ℕ) (r : Verdict) : Type 0 where
  pub is : Judges fits good (row_and_time queue time row) (Codes row × (Early queue time → ⊥)) r

pub record TreePush (ρ : Rules) (names : ℕ) (tree : List ℕ) (queue : Queue) (row : List ℕ) : Type 0 where
  pub handed : Handed ρ names tree queue
  pub fits : RowFits names (length row)
  pub codes : Codes row
