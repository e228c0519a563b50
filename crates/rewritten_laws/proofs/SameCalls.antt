-- A call by lists that are accepted, and that stand for the alternatives of an accepted tree, comes to what the call
-- by the tree comes to: the same refusals, the same answers, the same memory.
--   passed_same, refused_same                      the orders of the calls, where 10 is asked in another way
--   match_same, all_same, totals_same, push_same
use Rattle.std.specs.Prelude.{Err, Ok}
use Prim.Native.Nat.{ℕ}
use mathlib.Core.Path.{◌≡◌, ap, ◌∙◌}
use mathlib.Core.Logic.{inl, inr}
use mathlib.Core.List.{List}
use Rattle.basics.specs.declared.Refusal.{Refusal}
use Rattle.basics.specs.Refusing.{Outcome}
use Rattle.basics.specs.Memory.{after}
use Rattle.basics.specs.Words.{listed}
use Rattle.alf.specs.declared.Rules.{Rules}
use Rattle.alf.specs.declared.Answer.{Answer}
use Rattle.alf.specs.declared.Sort.TheVariants.{Vector}
use Rattle.alf.specs.Values.{state_at}
use Rattle.alf.specs.Alternatives.{Alternative, alternatives, tries, steps_of, answer_of}
use Rattle.alf.specs.Refusals.{Order, RefusedWith, RefusedBy, Passed, Comes}
use Rattle.acceptance.specs.Accepted.{Accepted}
use Rattle.alternatives.specs.InMemory.{alternatives_of_lem, longest_of}
use Rattle.alf.specs.Beginnings.{Began}
use Rattle.alf.specs.Beginnings.{began}
use Rattle.beginnings.specs.Dated.{Dates, flags_on, times_on}
use Rattle.matcher.proofs.Agreement.{matches_windows, totals_windows}
use Rattle.timed_queue.specs.declared.queues.Queue.{Queue}
use Rattle.timed_queue.specs.TimedQueues.{Pushes}
use Rattle.judging.specs.Orders.{order}
use Rattle.matching_calls.specs.Matching.{Matching}
use Rattle.matching_calls.specs.Matching.{Counting}
use Rattle.matching_calls.specs.Matching.{expression, MatchesTree, Finds, RowMatch, AllMatched, Counts, RowTotals}
use Rattle.matching_calls.proofs.ByAlternatives.{answers_on_lem}
use Rattle.queue_calls.specs.Pushing.{PushesTree, Push}
use Rattle.queue_calls.specs.Pushing as pushing
use Rattle.listed_acceptance.specs.Lists.{AcceptedAlternatives}
use Rattle.listed_calls.specs.Listed.{ListedMatch, ListedAll, ListedTotals, Handed, Takes, ListedPush}

-- the orders of the calls: 10 for one thing, or for another that is as good
module _ (L : Type 0) {P Q : Type 0} (rest : Order) (to : P → Q) (back : Q → P) where
  passed_same : Passed (order L P rest) → Passed (order L Q rest)
  unfolding Passed
  passed_same (l, (t, r)) =
      (l, ((λ p a. t p (record { given = λ x. a.given (to x); there = a.there })), r))

  same_row : (i j : ℕ) → RefusedWith (order L P rest) i j → RefusedWith (order L Q rest) i j
  unfolding RefusedWith
  same_row i j (inl x) = inl x
  same_row i j (inr (n, inl (e, a))) =
      inr (n, inl (e, record { given = λ q. a.given (back q); there = a.there }))
  same_row i j (inr (n, inr (t, x))) =
      inr (n, inr ((λ p a. t p (record { given = λ y. a.given (to y); there = a.there })), x))

  refused_same : (r : Refusal) → RefusedBy (order L P rest) r → RefusedBy (order L Q rest) r
  refused_same r h = record { by = same_row _ _ h.by; bare = h.bare }

module _ {ρ : Rules} {names : ℕ} {tree steps tests edges operands : List ℕ} (accepted : Accepted ρ names Vector tree)
    (lists : AcceptedAlternatives names tree steps tests edges operands)
    (stand : alternatives_of_lem tree names steps tests edges operands ≡ alternatives (expression ρ tree names)) where
  abbrev xs : List Alternative
  xs = alternatives_of_lem tree names steps tests edges operands

  to_tree : AcceptedAlternatives names tree steps tests edges operands → Accepted ρ names Vector tree
  to_tree x = accepted

  to_lists : Accepted ρ names Vector tree → AcceptedAlternatives names tree steps tests edges operands
  to_lists x = lists

  matches_tree : {times states : List ℕ} {row t : ℕ} {answer : Answer} {b : Began}
      → Dates (state_at ρ names states) times xs row answer t b
      → MatchesTree ρ names tree times states row answer t b
  matches_tree {times} {states} {row} d =
      let m = d.matches in
      record {
        is = matches_windows (state_at ρ names states) (expression ρ tree names) stand m;
        count = m.count ∙ ap (λ (ys : List Alternative). tries (state_at ρ names states) ys row) stand;
        start = d.since ∙ ap (λ (ys : List Alternative). began (state_at ρ names states) times ys row) stand;
      }

  module _ {n : ℕ} {states : List ℕ} where
    pub match_same : {times : List ℕ} {row : ℕ} (r : Matching)
        → ListedMatch ρ names n tree steps tests edges operands states times row r
        → RowMatch ρ names n tree times states row r
    unfolding Finds
    match_same (Ok m) w =
        record { comes = (passed_same _ _ to_tree to_lists w.comes.0, matches_tree w.comes.1) }
    match_same (Err r) w = record { comes = refused_same _ _ to_tree to_lists r w.comes }

    pub totals_same : (r : Counting) → ListedTotals ρ names n tree steps tests edges operands states r
        → RowTotals ρ names n tree states r
    unfolding Counts
    totals_same (Ok t) w =
        record {
          comes = (
            passed_same _ _ to_tree to_lists w.comes.0,
            totals_windows (state_at ρ names states) (expression ρ tree names) stand w.comes.1,
          );
        }
    totals_same (Err r) w = record { comes = refused_same _ _ to_tree to_lists r w.comes }

    pub all_same : {times answers tried given since answers' tried' given' since' : List ℕ} (r : Outcome)
        → ListedAll ρ names n tree steps tests edges operands states times answers tried given since answers' tried'
        given' since' r
        → AllMatched ρ names n tree times states answers tried given since answers' tried' given' since' r
    unfolding Comes after
    all_same {times} (Ok k) w =
        record {
          comes = (passed_same _ _ to_tree to_lists w.comes.0, w.comes.1);
          answers_memory =
              w.answers_memory
              ∙ ap (λ (ys : List Alternative). listed 0 n (answer_of (state_at ρ names states) ys)) stand
              ∙ ap (λ (g : ℕ → ℕ). listed 0 n g) (answers_on_lem ρ names tree states);
          tried_memory =
              w.tried_memory
              ∙ ap (λ (ys : List Alternative). listed 0 n (tries (state_at ρ names states) ys)) stand;
          given_memory =
              w.given_memory
              ∙ ap (λ (ys : List Alternative). listed 0 n (flags_on (state_at ρ names states) times ys)) stand;
          began_memory =
              w.began_memory
              ∙ ap (λ (ys : List Alternative). listed 0 n (times_on (state_at ρ names states) times ys)) stand;
        }
    all_same (Err r) w =
        record {
          comes = refused_same _ _ to_tree to_lists r w.comes;
          answers_memory = w.answers_memory;
          tried_memory = w.tried_memory;
          given_memory = w.given_memory;
          began_memory = w.began_memory;
        }

  -- a push
  longest_same : longest_of xs ≡ steps_of (expression ρ tree names)
  unfolding steps_of
  longest_same = ap longest_of stand

  module _ {q : Queue} where
    handed_tree : Handed names tree steps tests edges operands q → pushing.Handed ρ names tree q
    handed_tree h = record { accepted = accepted; kept = rw longest_same at h.kept }

    handed_lists : pushing.Handed ρ names tree q → Handed names tree steps tests edges operands q
    handed_lists h = record { accepted = lists; kept = rw longest_same h.kept }

    pushes_tree : {q' : Queue} {time : ℕ} {row : List ℕ} {t : ℕ} {answer : Answer} {b : Began}
        → Pushes ρ names xs q time row answer t b q'
        → PushesTree ρ names tree q time row answer t b q'
    pushes_tree p =
        record {
          matched = matches_tree (record { matches = p.pushed.matched; since = p.since });
          kept = rw longest_same at p.pushed.kept;
          states = rw longest_same at p.pushed.states;
          times = rw longest_same at p.times;
        }

    pub push_same : {time : ℕ} {row : List ℕ} {q' : Queue} (z : Matching)
        → ListedPush ρ names tree steps tests edges operands q time row z q' → Push ρ names tree q time row z q'
    unfolding Takes pushing.Takes
    push_same (Ok m) w =
        record { comes = (passed_same _ _ handed_tree handed_lists w.comes.0, pushes_tree w.comes.1) }
    push_same (Err r) w =
        record { comes = (refused_same _ _ handed_tree handed_lists r w.comes.0, w.comes.1) }
