-- What is pushed by the lists of an accepted tree is what document 01 defines for the tree's expression.
--   tree_pushes, tree_pushed
use Prim.Native.Nat.{ℕ}
use mathlib.Core.Path.{◌∙◌}
use mathlib.Core.List.{List}
use Rattle.alf.specs.declared.Rules.{Rules}
use Rattle.alf.specs.declared.Answer.{Answer}
use Rattle.alf.specs.Beginnings.{Began}
use Rattle.alf.specs.Values.{state_at}
use Rattle.alf.specs.Alternatives.{alternatives, steps_of}
use Rattle.alf.proofs.RowsAreAlternatives.{same_answer}
use Rattle.alternatives.specs.declared.lists.Lists.{Lists}
use Rattle.rewriting.specs.Lists.{StandFor}
use Rattle.timed_queue.specs.declared.queues.Queue.{Queue}
use Rattle.queue.specs.Queues.{trace_of}
use Rattle.timed_queue.specs.TimedQueues.{Pushes}
use Rattle.matching_calls.specs.Matching.{expression}
use Rattle.matching_calls.proofs.ByAlternatives.{xs, steps_are, tree_dated}
use Rattle.queue_calls.specs.Pushing.{PushesTree}

module _ {ρ : Rules} {names : ℕ} {tree : List ℕ} {ls : Lists} (h : StandFor ρ tree names ls) where
  pub tree_pushes : {q q' : Queue} {time : ℕ} {row : List ℕ} {t : ℕ} {answer : Answer} {b : Began}
      → Pushes ρ names (xs h) q time row answer t b q'
      → PushesTree ρ names tree q time row answer t b q'
  tree_pushes p =
      record {
        matched = tree_dated h (record { matches = p.pushed.matched; since = p.since });
        kept = rw (steps_are h) at p.pushed.kept;
        states = rw (steps_are h) at p.pushed.states;
        times = rw (steps_are h) at p.times;
      }

-- and the other way: what is pushed for a tree is pushed for its alternatives
pub tree_pushed : {ρ : Rules} {names : ℕ} {tree : List ℕ} {q q' : Queue} {time : ℕ} {row : List ℕ} {t : ℕ}
    {answer : Answer} {b : Began}
    → PushesTree ρ names tree q time row answer t b q'
    → Pushes ρ names (alternatives (expression ρ tree names)) q time row answer t b q'
unfolding steps_of
tree_pushed {ρ} {names} {tree} {q} {q'} {time} {row} p =
    let st = state_at ρ names (trace_of names q.rows row) in
    record {
      pushed =
          record {
            matched =
                record {
                  is = p.matched.is ∙ same_answer st (expression ρ tree names) q.rows.kept.0;
                  count = p.matched.count;
                };
            kept = p.kept;
            states = p.states;
          };
      since = p.matched.start;
      times = p.times;
    }
