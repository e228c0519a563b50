-- Shut out: "refusing everything (the table says 'exactly when')", for the calls over alternatives handed in as lists.
use Rattle.std.specs.Prelude.{Err, Ok}
use Prim.Native.Nat.{ℕ, ◌<◌}
use mathlib.Core.Path.{◌≡◌, refl}
use mathlib.Core.Logic.{◌⊎◌, inl, inr}
use mathlib.Core.List.{List}
use lib.ListN.{length}
use Rattle.alf.specs.declared.Rules.{Rules}
use Rattle.alf.specs.Refusals.{Rising, NameCount, Passed, Comes}
use Rattle.timed_queue.specs.declared.queues.Queue.{Queue}
use Rattle.states.specs.FirstBadCode.{Codes}
use Rattle.matching_calls.specs.Matching.{Matching}
use Rattle.judging.specs.Orders.{Rows}
use Rattle.basics.specs.Memory.{after}
use Rattle.matching_calls.specs.Matching.{Lent, Finds, Counts}
use Rattle.queue_calls.specs.Pushing.{Early, RowFits}
use Rattle.call_laws.proofs.Passing.{codes_passed, timed_passed, timed_row_passed, push_passed}
use Rattle.listed_acceptance.specs.Lists.{AcceptedAlternatives}
use Rattle.listed_acceptance.specs.Fitting.{fits_order, ListedFits}
use Rattle.listed_calls.specs.Listed as listed
use Rattle.listed_acceptance.proofs.Fitting.{listed_fits_unique}
use Rattle.demands.proofs.Demand1.{demand_1}
use Rattle.shut_out.specs.Reasons.{IsRefusal, Exactly}
use Rattle.shut_out.proofs.Reasons.{exactly, comes_parts, None, Four, both}
use Rattle.shut_out.proofs.RefusingRows.{GoodTimes, GoodTrace, finds_parts, counts_parts}

-- whether they are accepted
module _ (names : ℕ) (tree steps tests edges operands : List ℕ) where
  pub record Fitting : Type 0 where
    pub name_count_lem : NameCount names
    pub accepted : AcceptedAlternatives names tree steps tests edges operands

  fits_pass : Fitting → Passed (fits_order names tree steps tests edges operands)
  unfolding Passed
  fits_pass g = (λ p a. a.given g.name_count_lem, (λ p a. a.given g.accepted, tt))

  pub listed_fits : Exactly {M = None} Fitting (fits_order names tree steps tests edges operands) Err
      (λ r m. ListedFits names tree steps tests edges operands r) tt
  unfolding Comes
  listed_fits =
      exactly fits_pass
      (record {
        reason = λ r m w. w.comes;
        parts = λ x m w. comes_parts _ _ x w.comes;
        refuses = λ r h. record { comes = h };
        one = both (λ a b x y. listed_fits_unique x y);
      })

module _ (names n : ℕ) (tree steps tests edges operands states : List ℕ) where
  pub record GoodLists (lent : Type 0) : Type 0 where
    pub trace : GoodTrace names n states
    pub accepted : AcceptedAlternatives names tree steps tests edges operands
    pub asked : lent

  module _ (times : List ℕ) (row : ℕ) where
    match_passes : GoodLists (GoodTimes n times × (row < n))
        → Passed (listed.row_order names n tree steps tests edges operands states times row)
    match_passes g =
        timed_row_passed states times n row (g.asked.0.all, g.trace.lists) g.accepted g.trace.codes
        g.asked.0.rising g.asked.1

    pub listed_match_row : {ρ : Rules} → Exactly {M = None} (GoodLists (GoodTimes n times × (row < n)))
        (listed.row_order names n tree steps tests edges operands states times row) Err
        (λ r m. listed.ListedMatch ρ names n tree steps tests edges operands states times row r) tt
    unfolding Finds
    listed_match_row =
        exactly match_passes
        (record {
          reason = λ r m w. w.comes;
          parts = λ x m w. finds_parts _ _ x w.comes;
          refuses = λ r h. record { comes = h };
          one = both (demand_1.listed_match_row names n tree steps tests edges operands states times row);
        })

  module _ (times answers tried given began : List ℕ) where
    abbrev room : Type 0
    room = Lent n (length times) (length answers) (length tried) (length given) (length began)

    all_pass : GoodLists (room × Rising times)
        → Passed (listed.timed_order names n tree steps tests edges operands states
        (room × Rows names n (length states)) times)
    all_pass g =
        timed_passed states times (g.asked.0, g.trace.lists) g.accepted g.trace.codes g.asked.1

    pub listed_match_all : {ρ : Rules} → Exactly {M = Four} (GoodLists (room × Rising times))
        (listed.timed_order names n tree steps tests edges operands states (room × Rows names n (length states)) times)
        Err
        (λ r m.
        listed.ListedAll ρ names n tree steps tests edges operands states times answers tried given began m.0 m.1
        m.2 m.3 r)
        (answers, tried, given, began)
    unfolding Comes after
    listed_match_all =
        exactly all_pass
        (record {
          reason = λ r m w. w.comes;
          parts = λ x m w. comes_parts _ _ x w.comes;
          refuses = λ r h.
              record {
                comes = h;
                answers_memory = refl;
                tried_memory = refl;
                given_memory = refl;
                began_memory = refl;
              };
          one =
              (demand_1.listed_match_all names n tree steps tests edges operands states times answers tried given began
              ).one;
        })

  totals_pass : GoodLists (Unit {0})
      → Passed (listed.rows_order names n tree steps tests edges operands states (Rows names n (length states)))
  totals_pass g = codes_passed states g.trace.lists g.accepted g.trace.codes

  pub listed_totals : {ρ : Rules} → Exactly {M = None} (GoodLists (Unit {0}))
      (listed.rows_order names n tree steps tests edges operands states (Rows names n (length states)))
      Err (λ r m. listed.ListedTotals ρ names n tree steps tests edges operands states r) tt
  unfolding Counts
  listed_totals =
      exactly totals_pass
      (record {
        reason = λ r m w. w.comes;
        parts = λ x m w. counts_parts _ _ x w.comes;
        refuses = λ r h. record { comes = h };
        one = both (demand_1.listed_totals names n tree steps tests edges operands states);
      })

module _ (names : ℕ) (tree steps tests edges operands : List ℕ) (queue : Queue) (time : ℕ) (row : List ℕ) where
  pub record Pushable : Type 0 where
    pub handed : listed.Handed names tree steps tests edges operands queue
    pub fits : RowFits names (length row)
    pub codes : Codes row
    pub above : Early queue time → ⊥

  takes_parts : (ρ : Rules) (x : Matching) (q : Queue)
      → listed.Takes ρ names tree steps tests edges operands queue time row x q
      → Passed (listed.push_order names tree steps tests edges operands queue time row) ⊎ IsRefusal Err x
  unfolding listed.Takes
  takes_parts ρ (Ok m) q w = inl w.0
  takes_parts ρ (Err r) q w = inr (r, refl)

  pub listed_push : {ρ : Rules} → Exactly Pushable
      (listed.push_order names tree steps tests edges operands queue time row)
      Err (λ r q. listed.ListedPush ρ names tree steps tests edges operands queue time row r q) queue
  unfolding listed.Takes
  listed_push =
      exactly (λ g. push_passed queue time row g.fits g.handed g.codes g.above)
      (record {
        reason = λ r q w. w.comes.0;
        parts = λ x q w. takes_parts _ x q w.comes;
        refuses = λ r h. record { comes = (h, refl) };
        one = (demand_1.listed_push names tree steps tests edges operands queue time row).one;
      })
