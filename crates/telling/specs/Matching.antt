-- What the library for C tells of matching: a row's answer, the number tried and the time where the match began, the
-- totals, what came of a push. The numbers of answers are document 01's.
--   told_match, told_counts, told_push     what is told
--   queue_of_lem, Pushes                     a queue of C's as the call's, and what a push hands on
use Rattle.std.specs.Prelude.{Err, Ok}
use Rattle.std.specs.Prelude.{ℕ, List}
use Rattle.alf.specs.declared.Rules.{Rules}
use Rattle.alf.specs.Answers.{number_of}
use Rattle.alf.specs.Beginnings.{is_given, time_of_lem}
use Rattle.timed_queue.specs.declared.queues.Queue as updates
use Rattle.matching_calls.specs.Matching.{Matching}
use Rattle.matching_calls.specs.Matching.{Counting}
use Rattle.queue_calls.specs.declared.pushing.Pushing.{Pushing}
use Rattle.queue_calls.specs.Pushing.{Push}
use Rattle.telling.specs.declared.Matched.{Matched}
use Rattle.telling.specs.declared.Counted.{Counted}
use Rattle.telling.specs.declared.Queue.{Queue}
use Rattle.telling.specs.declared.Pushed.{Pushed}

unfoldable pub told_match : Matching → Matched
told_match (Ok m) =
    record {
      number = 0;
      place = 0;
      answer = number_of m.answer;
      tries = m.tries;
      given = is_given m.began;
      began = time_of_lem m.began;
    }
told_match (Err r) =
    record { number = r.number; place = r.place; answer = 0; tries = 0; given = 0; began = 0 }

unfoldable pub told_counts : Counting → Counted
told_counts (Ok t) =
    record { number = 0; place = 0; yes = t.yes; no = t.no; unknown = t.unknown }
told_counts (Err r) =
    record { number = r.number; place = r.place; yes = 0; no = 0; unknown = 0 }

-- a queue as C holds it
unfoldable pub queue_of_lem : Queue → updates.Queue
queue_of_lem q = record { rows = record { kept = record { 0 = q.kept }; states = q.states }; times = q.times }

-- what came of a push, refused or not, and the queue then
abbrev pub Pushes : Rules → ℕ → List ℕ → updates.Queue → ℕ → List ℕ → Pushing → Type 0
Pushes ρ names tree queue time row p = Push ρ names tree queue time row p.told p.queue

unfoldable pub told_push : Pushing → Pushed
told_push p =
    record {
      number = (told_match p.told).number;
      place = (told_match p.told).place;
      answer = (told_match p.told).answer;
      tries = (told_match p.told).tries;
      given = (told_match p.told).given;
      began = (told_match p.told).began;
      queue = record { kept = p.queue.rows.kept.0; states = p.queue.rows.states; times = p.queue.times };
    }
