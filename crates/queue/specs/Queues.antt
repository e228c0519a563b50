-- Document 01, the queue: rows come one after the other, and the last K of them are kept. What is asked and promised.
--   held_of, trace_of, last_rows, stored     what a queue keeps, with a row behind it, the last rows, as it holds them
--   Room, LayAsked, KeepAsked, PushAsked, PushAskedOn  what is asked
--   Keeps, Pushes                         what is promised
--   fed, Feed                             the rows of a trace pushed one after the other
use Rattle.std.specs.Prelude.{ℕ, zero, suc, ◌+◌, ◌-◌, ◌*◌, ◌<◌, ◌≤◌, min, ◌≡◌, List, [], ◌++◌, length, take, drop, replicate}
use Rattle.alf.specs.declared.Rules.{Rules}
use Rattle.alf.specs.declared.Answer.{Answer}
use Rattle.basics.specs.Words.{greatest_of}
use Rattle.alf.specs.Values.{state_at}
use Rattle.alf.specs.Alternatives.{Alternative}
use Rattle.alternatives.specs.declared.lists.Lists.{Lists}
use Rattle.alternatives.specs.InMemory.{Shape}
use Rattle.matcher.specs.Answers.{Matches}
use Rattle.queue.specs.declared.queues.Queue.{Queue}
use Rattle.states.specs.FirstBadCode.{Codes}
use Rattle.basics.specs.Memory.{placed}
use Rattle.alternatives.specs.InMemory.{longest_of}

-- the states of the rows that a queue keeps, oldest first; with a row pushed behind them
abbrev pub held_of : ℕ → Queue → List ℕ
held_of names q = take (q.kept.0 * names) q.states

abbrev pub trace_of : ℕ → Queue → List ℕ → List ℕ
trace_of names q row = held_of names q ++ row

-- of a trace of n rows the last k, or all
unfoldable pub last_rows : ℕ → ℕ → ℕ → List ℕ → List ℕ
last_rows names k n trace = drop ((n - k) * names) trace

-- states as a queue holds them: zeros behind
abbrev pub stored : List ℕ → List ℕ
stored states = placed (replicate 512 0) 0 states

-- q keeps at most k rows, k at most 16, of 1 to 32 names, and their states are codes
pub record Room (names k : ℕ) (q : Queue) : Type 0 where
  pub some : 1 ≤ names
  pub most : names ≤ 32
  pub few : k ≤ 16
  pub kept : q.kept.0 ≤ k
  pub codes : Codes (held_of names q)

-- a row of all names behind what q keeps
pub record LayAsked (names : ℕ) (q : Queue) (row : List ℕ) : Type 0 where
  pub most : names ≤ 32
  pub kept : q.kept.0 ≤ 16
  pub full : length row ≡ names

-- kept + 1 rows, of which the last k are to be kept
pub record KeepAsked (trace : List ℕ) (names kept k : ℕ) : Type 0 where
  pub most : names ≤ 32
  pub few : k ≤ 16
  pub held : kept ≤ k
  pub full : length trace ≡ kept * names + names

pub record Keeps (trace : List ℕ) (names kept k : ℕ) (q : Queue) : Type 0 where
  pub number : q.kept.0 ≡ min (kept + 1) k
  pub states : q.states ≡ stored (last_rows names k (kept + 1) trace)

-- the alternatives, a queue with room for K rows, and a row of all names whose states are codes
pub record PushAsked (tree : List ℕ) (names : ℕ) (steps tests edges operands : List ℕ) (q : Queue)
    (row : List ℕ)
    : Type 0 where
  pub shape : Shape tree names steps tests edges operands
  pub room : Room names (greatest_of (λ n. n) steps) q
  pub full : length row ≡ names
  pub codes : Codes row

abbrev pub PushAskedOn : List ℕ → ℕ → Lists → Queue → List ℕ → Type 0
PushAskedOn tree names l q row = PushAsked tree names l.steps.now l.tests.now l.edges.now l.operands.now q row

-- the answer and the number tried at the last row of what is kept and pushed; of that the last K rows are kept
pub record Pushes (ρ : Rules) (names : ℕ) (xs : List Alternative) (q : Queue) (row : List ℕ) (answer : Answer)
    (tried : ℕ)
    (q' : Queue) : Type 0 where
  pub matched : Matches (state_at ρ names (trace_of names q row)) xs q.kept.0 answer tried
  pub kept : q'.kept.0 ≡ min (q.kept.0 + 1) (longest_of xs)
  pub states : q'.states ≡ stored (last_rows names (longest_of xs) (q.kept.0 + 1) (trace_of names q row))

-- the states of the first n rows of a feed, row by row
unfoldable pub fed : (ℕ → List ℕ) → ℕ → List ℕ
fed rows zero = []
fed rows (suc n) = fed rows n ++ rows n

-- n pushes, one after the other, the first into a queue that keeps nothing
pub record Feed (ρ : Rules) (names : ℕ) (xs : List Alternative) (n : ℕ) (rows : ℕ → List ℕ) (queues : ℕ → Queue)
    (answers : ℕ → Answer) (counts : ℕ → ℕ) : Type 0 where
  pub first : (queues 0).kept.0 ≡ 0
  pub full : (i : ℕ) → i < n → length (rows i) ≡ names
  pub pushes : (i : ℕ) → i < n → Pushes ρ names xs (queues i) (rows i) (answers i) (counts i) (queues (suc i))
