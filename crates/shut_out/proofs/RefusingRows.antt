-- Shut out: "refusing everything (the table says 'exactly when')", for the calls over rows.
--   GoodTrace   1 to 32 names, 1 to 65,535 rows, a state for each name of each row, no code above 7
--   GoodRow, GoodRows   and an accepted tree, and a row of the trace, or lists of the right length
-- The correction and the queue stand in RefusingUpdates.
use Rattle.std.specs.Prelude.{Err, Ok}
use Prim.Native.Nat.{ℕ, ◌<◌, max}
use native.Mathlib.Omega.{arith}
use mathlib.Core.Path.{◌≡◌, refl}
use mathlib.Core.Logic.{◌⊎◌, inl, inr}
use mathlib.Core.List.{List}
use lib.ListN.{length}
use Rattle.alf.specs.Values.{old_rules_lem}
use Rattle.alf.specs.declared.Rules.{Rules}
use Rattle.alf.specs.declared.Answer.{Answer}
use Rattle.alf.specs.Beginnings.{Began}
use Rattle.alf.specs.declared.Sort.{Sort}
use Rattle.alf.specs.declared.Sort.TheVariants.{Boolean, Vector}
use Rattle.alf.specs.Refusals.{Order, Passed, Comes, Rising}
use Rattle.changes.specs.Call.{RowChanges}
use Rattle.changes.specs.Call as changes
use Rattle.acceptance.specs.Accepted.{Accepted}
use Rattle.states.specs.FirstBadCode.{Codes}
use Rattle.row_calls.specs.Written.{Answering}
use Rattle.matching_calls.specs.Matching.{Matching}
use Rattle.matching_calls.specs.Matching.{Counting}
use Rattle.judging.specs.Orders.{Rows, row_order, rows_order, trace_order}
use Rattle.judging.specs.TimedOrders.{timed_order, timed_row_order}
use Rattle.row_calls.specs.Written.{Tells, RowState, RowValue, AllValues, RowAnswer}
use Rattle.basics.specs.Memory.{after}
use Rattle.row_calls.specs.Windows.{WindowAnswer}
use Rattle.matching_calls.specs.Matching.{Finds, Counts, Lent, RowMatch, AllMatched, RowTotals}
use Rattle.call_laws.proofs.Passing.{codes_never, row_passed, codes_passed, timed_passed, timed_row_passed}
use Rattle.demands.proofs.Demand1.{demand_1}
use Rattle.shut_out.specs.Reasons.{IsRefusal, Exactly}
use Rattle.shut_out.proofs.Reasons.{exactly, comes_parts, None, Four, both}

-- a result that is told, found, counted, changed: not refused, or a refusal
tells_parts : (o : Order) (a : ℕ) (x : Answering) → Tells o a x → Passed o ⊎ IsRefusal Err x
unfolding Tells
tells_parts o a (Ok b) w = inl w.0
tells_parts o a (Err r) w = inr (r, refl)

pub finds_parts : (o : Order) (right : Answer → ℕ → Began → Type 0) (x : Matching) → Finds o right x
    → Passed o ⊎ IsRefusal Err x
unfolding Finds
finds_parts o right (Ok m) w = inl w.0
finds_parts o right (Err r) w = inr (r, refl)

pub counts_parts : (o : Order) (right : ℕ → ℕ → ℕ → Type 0) (x : Counting) → Counts o right x
    → Passed o ⊎ IsRefusal Err x
unfolding Counts
counts_parts o right (Ok m) w = inl w.0
counts_parts o right (Err r) w = inr (r, refl)

pub record GoodTrace (names n : ℕ) (states : List ℕ) : Type 0 where
  pub lists : Rows names n (length states)
  pub codes : Codes states

-- and a tree of the sort that the call asks for, accepted under the rules; and a row of the trace
pub record GoodRow (ρ : Rules) (names n : ℕ) (tree : List ℕ) (sort : Sort) (states : List ℕ) (row : ℕ) : Type 0 where
  pub trace : GoodTrace names n states
  pub accepted : Accepted ρ names sort tree
  pub there : row < n

pub record GoodRows (ρ : Rules) (names n : ℕ) (lent : Type 0) (tree : List ℕ) (sort : Sort) (states : List ℕ)
    : Type 0 where
  pub trace : GoodTrace names n states
  pub accepted : Accepted ρ names sort tree
  pub room : lent

-- times of the rows that rise; a row with them; all rows, and lists for what is told of them
pub record GoodTimes (n : ℕ) (times : List ℕ) : Type 0 where
  pub all : length times ≡ n
  pub rising : Rising times

pub record TimedRow (ρ : Rules) (names n : ℕ) (tree times states : List ℕ) (row : ℕ) : Type 0 where
  pub good : GoodRow ρ names n tree Vector states row
  pub stamps : GoodTimes n times

pub record TimedRows (ρ : Rules) (names n : ℕ) (tree times states answers tried given began : List ℕ) : Type 0 where
  pub trace : GoodTrace names n states
  pub accepted : Accepted ρ names Vector tree
  pub rising : Rising times
  pub room : Lent n (length times) (length answers) (length tried) (length given) (length began)

-- The changes of a row.
module _ (names n : ℕ) (states : List ℕ) (row : ℕ) where
  changes_pass : GoodTrace names n states × (row < n) → Passed (changes.order names n states row)
  unfolding Passed
  changes_pass g =
      let l = g.0.lists in (
        λ p a. a.given (record { name_count_lem = l.name_count_lem; row_count = l.row_count; all = l.all }),
        (codes_never states g.0.codes, (λ p a. omega (arith, g.1, a.given), tt)),
      )

  changes_parts : (x : RowChanges) → changes.RowChanged names n states row x
      → Passed (changes.order names n states row) ⊎ IsRefusal Err x
  unfolding changes.RowChanged
  changes_parts (Ok c) w = inl w.0
  changes_parts (Err r) w = inr (r, refl)

  pub changes_at : Exactly {M = None} (GoodTrace names n states × (row < n)) (changes.order names n states row)
      Err (λ r m. changes.RowChanged names n states row r) tt
  unfolding changes.RowChanged
  changes_at =
      exactly changes_pass
      (record {
        reason = λ r m w. w;
        parts = λ x m w. changes_parts x w;
        refuses = λ r h. h;
        one = both ((demand_1 {ρ = old_rules_lem}).changes_at names n states row);
      })

-- A tree handed in.
module _ {ρ : Rules} (names n : ℕ) (tree states : List ℕ) where
  row_passes : (sort : Sort) (row : ℕ) → GoodRow ρ names n tree sort states row
      → Passed (row_order ρ names n tree sort states row)
  row_passes sort row g = row_passed states n row g.trace.lists g.accepted g.trace.codes g.there

  rows_pass : (sort : Sort) (lent : Type 0) → GoodRows ρ names n lent tree sort states
      → Passed (rows_order ρ names n lent tree sort states)
  rows_pass sort lent g = codes_passed states (g.room, g.trace.lists) g.accepted g.trace.codes

  module _ (row : ℕ) where
    pub row_state : Exactly {M = None} (GoodRow ρ names n tree Boolean states row)
        (row_order ρ names n tree Boolean states row) Err (λ r m. RowState ρ names n tree states row r) tt
    unfolding Comes
    row_state =
        exactly (row_passes Boolean row)
        (record {
          reason = λ r m w. w.comes;
          parts = λ x m w. comes_parts _ _ x w.comes;
          refuses = λ r h. record { comes = h };
          one = both (demand_1.row_state names n tree states row);
        })

    pub row_value : Exactly {M = None} (GoodRow ρ names n tree Boolean states row)
        (row_order ρ names n tree Boolean states row) Err (λ r m. RowValue ρ names n tree states row r) tt
    unfolding Comes
    row_value =
        exactly (row_passes Boolean row)
        (record {
          reason = λ r m w. w.comes;
          parts = λ x m w. comes_parts _ _ x w.comes;
          refuses = λ r h. record { comes = h };
          one = both (demand_1.row_value names n tree states row);
        })

    pub row_answer_lem : Exactly {M = None} (GoodRow ρ names n tree Vector states row)
        (row_order ρ names n tree Vector states row) Err (λ r m. RowAnswer ρ names n tree states row r) tt
    unfolding Tells
    row_answer_lem =
        exactly (row_passes Vector row)
        (record {
          reason = λ r m w. w.comes;
          parts = λ x m w. tells_parts _ _ x w.comes;
          refuses = λ r h. record { comes = h };
          one = both (demand_1.row_answer_lem names n tree states row);
        })

    pub match_row_lem : (times : List ℕ) → Exactly {M = None} (TimedRow ρ names n tree times states row)
        (timed_row_order ρ names n tree times states row) Err
        (λ r m. RowMatch ρ names n tree times states row r) tt
    unfolding Finds
    match_row_lem times =
        exactly
        (λ g.
        timed_row_passed states times n row (g.stamps.all, g.good.trace.lists) g.good.accepted
        g.good.trace.codes g.stamps.rising g.good.there)
        (record {
          reason = λ r m w. w.comes;
          parts = λ x m w. finds_parts _ _ x w.comes;
          refuses = λ r h. record { comes = h };
          one = both (demand_1.match_row_lem names n tree times states row);
        })

  pub window_answer : (from to : ℕ) → Exactly {M = None} (GoodRow ρ names n tree Vector states (max from to))
      (row_order ρ names n tree Vector states (max from to)) Err
      (λ r m. WindowAnswer ρ names n tree states from to r) tt
  unfolding Tells
  window_answer from to =
      exactly (row_passes Vector (max from to))
      (record {
        reason = λ r m w. w.comes;
        parts = λ x m w. tells_parts _ _ x w.comes;
        refuses = λ r h. record { comes = h };
        one = both (demand_1.window_answer names n tree states from to);
      })

  pub values : (out : List ℕ) → Exactly (GoodRows ρ names n (length out ≡ n) tree Boolean states)
      (rows_order ρ names n (length out ≡ n) tree Boolean states) Err
      (λ r m. AllValues ρ names n tree states out m r) out
  unfolding Comes after
  values out =
      exactly (rows_pass Boolean (length out ≡ n))
      (record {
        reason = λ r m w. w.comes;
        parts = λ x m w. comes_parts _ _ x w.comes;
        refuses = λ r h. record { comes = h; memory = refl };
        one = (demand_1.values names n tree states out).one;
      })

  pub match_all : (times answers tried given began : List ℕ)
      → Exactly {M = Four} (TimedRows ρ names n tree times states answers tried given began)
      (timed_order ρ names n (Lent n (length times) (length answers) (length tried) (length given) (length began)) tree
      times states) Err
      (λ r m. AllMatched ρ names n tree times states answers tried given began m.0 m.1 m.2 m.3 r)
      (answers, tried, given, began)
  unfolding Comes after
  match_all times answers tried given began =
      exactly
      (λ g. timed_passed states times (g.room, g.trace.lists) g.accepted g.trace.codes g.rising)
      (record {
        reason = λ r m w. w.comes;
        parts = λ x m w. comes_parts _ _ x w.comes;
        refuses = λ r h.
            record {
              comes = h;
              answers_memory = refl;
              tried_memory = refl;
              given_memory = refl;
              began_memory = refl;
            };
        one = (demand_1.match_all names n tree times states answers tried given began).one;
      })

  totals_pass : GoodRows ρ names n (Unit {0}) tree Vector states → Passed (trace_order ρ names n tree Vector states)
  totals_pass g = codes_passed states g.trace.lists g.accepted g.trace.codes

  pub totals : Exactly {M = None} (GoodRows ρ names n (Unit {0}) tree Vector states)
      (trace_order ρ names n tree Vector states) Err (λ r m. RowTotals ρ names n tree states r) tt
  unfolding Counts
  totals =
      exactly totals_pass
      (record {
        reason = λ r m w. w.comes;
        parts = λ x m w. counts_parts _ _ x w.comes;
        refuses = λ r h. record { comes = h };
        one = both (demand_1.totals names n tree states);
      })
