-- What the library for C hands on of a push by alternatives that are handed in as lists. Main name: ListedPushes.
use Rattle.std.specs.Prelude.{ℕ, List}
use Rattle.timed_queue.specs.declared.queues.Queue.{Queue}
use Rattle.queue_calls.specs.declared.pushing.Pushing.{Pushing}
use Rattle.listed_calls.specs.Listed.{ListedPush}
use Rattle.alf.specs.declared.Rules.{Rules}

-- what came of the push, refused or not, and the queue then
abbrev pub ListedPushes : Rules →
    ℕ → List ℕ → List ℕ → List ℕ → List ℕ → List ℕ → Queue → ℕ → List ℕ → Pushing → Type 0
ListedPushes ρ names tree steps tests edges operands queue time row p =
    ListedPush ρ names tree steps tests edges operands queue time row p.told p.queue
