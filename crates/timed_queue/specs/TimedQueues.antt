-- Document 02, [12], "Where the match began": "So the queue keeps each row's time beside its states; both are those of
-- the last rows fed, and times rise." What is promised. What is asked of a push is what the queue of rows asks.
--   held_times, times_of     the times of the rows that a queue keeps, and with a row's time behind them
--   Pushes                 what a push comes to
--   Feed                   the rows of a trace with times pushed one after the other
use Rattle.std.specs.Prelude.{ℕ, suc, ◌+◌, ◌<◌, ◌≡◌, List, [], ◌∷◌, ◌++◌, length, take}
use Rattle.alf.specs.declared.Rules.{Rules}
use Rattle.alf.specs.declared.Answer.{Answer}
use Rattle.alf.specs.Beginnings.{Began}
use Rattle.alf.specs.Values.{state_at}
use Rattle.alf.specs.Alternatives.{Alternative}
use Rattle.alf.specs.Beginnings as beginnings
use Rattle.alternatives.specs.InMemory.{longest_of}
use Rattle.queue.specs.Queues as rows
use Rattle.queue.specs.Queues.{trace_of, last_rows}
use Rattle.timed_queue.specs.declared.queues.Queue.{Queue}
use Rattle.timed_queue.specs.Stamps.{stored_times}

-- the times of the rows that a queue keeps, oldest first; with the time of a row pushed behind them
abbrev pub held_times : Queue → List ℕ
held_times q = take q.rows.kept.0 q.times

abbrev pub times_of : Queue → ℕ → List ℕ
times_of q t = held_times q ++ (t ∷ [])

-- a push of the row; the time where the match began, from the times kept and the row's; of these the last K are kept
pub record Pushes (ρ : Rules) (names : ℕ) (xs : List Alternative) (q : Queue) (t : ℕ) (row : List ℕ) (answer : Answer)
    (tried : ℕ) (began : Began) (q' : Queue) : Type 0 where
  pub pushed : rows.Pushes ρ names xs q.rows row answer tried q'.rows
  pub since : began ≡ beginnings.began (state_at ρ names (trace_of names q.rows row)) (times_of q t) xs
      q.rows.kept.0
  pub times : q'.times ≡ stored_times (last_rows 1 (longest_of xs) (q.rows.kept.0 + 1) (times_of q t))

-- n pushes, one after the other, the first into a queue that keeps nothing
pub record Feed (ρ : Rules) (names : ℕ) (xs : List Alternative) (n : ℕ) (rows : ℕ → List ℕ) (times : ℕ → ℕ)
    (queues : ℕ → Queue) (answers : ℕ → Answer) (counts : ℕ → ℕ) (begans : ℕ → Began) : Type 0 where
  pub first : (queues 0).rows.kept.0 ≡ 0
  pub full : (i : ℕ) → i < n → length (rows i) ≡ names
  pub pushes : (i : ℕ) → i < n
      → Pushes ρ names xs (queues i) (times i) (rows i) (answers i) (counts i) (begans i) (queues (suc i))
