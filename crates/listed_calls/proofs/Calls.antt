-- What the calls over alternatives handed in come to, case by case; the queue's stand apart.
--   TimedRow, match_asked, match_refused, match_date, match_told; totals-..
--   TimedRows, all_asked, all_refused, all_marks, all_told
use Rattle.std.specs.Prelude.{Err, Ok}
use mathlib.Core.Path.{◌≡◌, refl, ap, ◌∙◌}
use mathlib.Core.Bool.{Bool, true}
use mathlib.Core.List.{List}
use Prim.Native.Nat.{ℕ, ◌<◌}
use native.Mathlib.Omega.{arith}
use lib.Dec.{eqb}
use lib.ListN.{length}
use Rattle.basics.specs.declared.Refusal.{Refusal}
use Rattle.alf.specs.declared.Rules.{Rules}
use Rattle.basics.specs.Words as words
use Rattle.basics.specs.Memory.{after}
use Rattle.basics.specs.Deciding.{Decides}
use Rattle.basics.proofs.Deciding.{told, tells, eqb_decides}
use Rattle.basics.proofs.Listed.{listed_whole, listed_length}
use Rattle.alf.specs.declared.Answer.{Answer}
use Rattle.alf.specs.Values.{state_at}
use Rattle.alf.specs.Alternatives.{answer_of, tries}
use Rattle.alf.specs.Refusals.{Comes, Rising}
use Rattle.evaluator.proofs.Traces.{trace_row}
use Rattle.matcher.specs.declared.tables.Total.{Total}
use Rattle.alternatives.specs.InMemory.{alternatives_of_lem}
use Rattle.matcher.specs.Answers.{RowAsked, Matches}
use Rattle.matcher.specs.Tables.{RowsAsked, FillAsked, Filled, TotalsOf}
use Rattle.beginnings.specs.declared.times.Dated.{Dated}
use Rattle.beginnings.specs.Times.{DateAsked, Dating, MarksAsked, Marks}
use Rattle.beginnings.proofs.ByTries.{date_asked, dated, marks_took, marked_flags, marked_times}
use Rattle.beginnings.proofs.Counts.{counted}
use Rattle.states.specs.FirstBadCode.{Codes}
use Rattle.judging.specs.Orders.{Verdict}
use Rattle.judging.specs.Orders.{Rows, Judged, JudgesTrace}
use Rattle.judging.specs.TimedOrders.{JudgesTimed, JudgesTimedRow}
use Rattle.judging.proofs.Verdicts.{judged_as, judged_good, judged_not, lists_as}
use Rattle.matching_calls.specs.Matching.{Lent, Finds, Counts}
use Rattle.matching_calls.proofs.Matches.{rows_asked}
use Rattle.listed_acceptance.specs.Lists.{AcceptedAlternatives}
use Rattle.listed_acceptance.proofs.Acceptance.{accepted_shape}
use Rattle.listed_calls.specs.Listed as listed
use Rattle.listed_calls.specs.Listed.{ListedMatch, ListedAll, ListedTotals}

-- what is asked where nothing is refused: a row with its time; all rows, and lists for them
pub record TimedRow (names : ℕ) (tree steps tests edges operands times states : List ℕ) (row : ℕ) : Type 0 where
  pub asked : RowAsked tree names states steps tests edges operands row
  pub timed : row < length times

pub record TimedRows (names n : ℕ) (tree steps tests edges operands times states answers tried given began : List ℕ)
    : Type 0 where
  pub asked : FillAsked tree names states steps tests edges operands n answers tried
  pub lent : Lent n (length times) (length answers) (length tried) (length given) (length began)

-- a row that is matched may be dated
pub match_date : (ρ : Rules) {names : ℕ} {tree steps tests edges operands times states : List ℕ} {row : ℕ} {a : Answer}
    {t : ℕ} → TimedRow names tree steps tests edges operands times states row
    → Matches (state_at ρ names states) (alternatives_of_lem tree names steps tests edges operands) row a t
    → DateAsked times steps row a t
match_date ρ {names} {times = times} {states = states} l m =
    date_asked (state_at ρ names states) times (counted l.asked.shape) m l.timed

-- rows that are matched may be marked
module _ (ρ : Rules) {names n : ℕ} {tree steps tests edges operands times states answers tried given began : List ℕ}
    (l : TimedRows names n tree steps tests edges operands times states answers tried given began)
    {answers' tried' : List ℕ}
    (w : Filled (state_at ρ names states) (alternatives_of_lem tree names steps tests edges operands) n answers tried answers'
    tried') where
  answers_are : answers'
      ≡ words.listed 0 n (answer_of (state_at ρ names states) (alternatives_of_lem tree names steps tests edges operands))
  answers_are = w.answered ∙ listed_whole n _ answers l.lent.answers_all

  tried_are : tried'
      ≡ words.listed 0 n (tries (state_at ρ names states) (alternatives_of_lem tree names steps tests edges operands))
  tried_are = w.counted ∙ listed_whole n _ tried l.lent.tried_all

  pub all_marks : MarksAsked times steps n answers' tried' given began
  all_marks =
      let st = state_at ρ names states in
      let xs = alternatives_of_lem tree names steps tests edges operands in
      record {
        few = l.asked.asked.rows.few;
        times_all = omega (arith, l.lent.times_all);
        answers_all = omega (arith, ap length answers_are, listed_length 0 n (answer_of st xs));
        tried_all = omega (arith, ap length tried_are, listed_length 0 n (tries st xs));
        given_room = l.lent.given_all;
        began_room = l.lent.began_all;
        took = marks_took st times (counted l.asked.asked.shape) answers_are tried_are;
      }

module _ {names n : ℕ} {tree steps tests edges operands states : List ℕ} {good : Bool} {v : Verdict}
    (g : Decides good (AcceptedAlternatives names tree steps tests edges operands)) where
  -- a row
  module _ {times : List ℕ} {row : ℕ} {fits : Bool}
      (f : Decides fits ((eqb (length times) n ≡ true) × Rows names n (length states)))
      (j : JudgesTimedRow fits good states times n row v) where
    as_row : Judged (listed.row_order names n tree steps tests edges operands states times row)
        (((length times ≡ n) × Rows names n (length states))
        × AcceptedAlternatives names tree steps tests edges operands × (Codes states × Rising times × (row < n))) v
    as_row =
        let d = eqb_decides (length times) n in
        lists_as (λ (x, l). (told _ d x, l)) (λ (x, l). (tells _ d x, l))
        (judged_as fits good _ _ f (λ x. g) _ j.is)

    pub match_asked : v ≡ (Ok tt) → TimedRow names tree steps tests edges operands times states row
    match_asked e =
        let ((m, l), a, (s, t, h)) = (judged_good as_row e).1 in
        record {
          asked =
              record {
                shape = accepted_shape _ _ _ _ _ _ a;
                rows = trace_row states names n l.name_count_lem l.row_count l.all s row h;
              };
          timed = omega arith;
        }

    pub match_refused : {ρ : Rules} {r : Refusal} → v ≡ Err r
        → ListedMatch ρ names n tree steps tests edges operands states times row (Err r)
    unfolding Finds
    match_refused e = record { comes = judged_not as_row e }

    pub match_told : {ρ : Rules} {a : Answer} {t : ℕ} {r : Dated} → v ≡ (Ok tt)
        → Matches (state_at ρ names states) (alternatives_of_lem tree names steps tests edges operands) row a t
        → Dating times steps row a t r.answer r.tries r.began
        → ListedMatch ρ names n tree steps tests edges operands states times row (Ok r)
    unfolding Finds
    match_told {ρ} e m d =
        record {
          comes = (
            (judged_good as_row e).0,
            dated (state_at ρ names states) times (counted (match_asked e).asked.shape) m d,
          );
        }

  -- the totals
  module _ {fits : Bool} (f : Decides fits (Rows names n (length states))) (j : JudgesTrace fits good states v) where
    as_rows : Judged (listed.rows_order names n tree steps tests edges operands states (Rows names n (length states)))
        (Rows names n (length states) × AcceptedAlternatives names tree steps tests edges operands × Codes states) v
    as_rows = judged_as fits good _ _ f (λ x. g) _ j.is

    pub totals_asked : v ≡ (Ok tt) → RowsAsked tree names states steps tests edges operands n
    totals_asked e =
        let (l, a, s) = (judged_good as_rows e).1 in
        record { shape = accepted_shape _ _ _ _ _ _ a; rows = rows_asked l s }

    pub totals_refused : {ρ : Rules} {r : Refusal} → v ≡ Err r
        → ListedTotals ρ names n tree steps tests edges operands states (Err r)
    unfolding Counts
    totals_refused e = record { comes = judged_not as_rows e }

    pub totals_told : {ρ : Rules} {t : Total} → v ≡ (Ok tt)
        → TotalsOf (state_at ρ names states) (alternatives_of_lem tree names steps tests edges operands) n t.yes t.no
        t.unknown → ListedTotals ρ names n tree steps tests edges operands states (Ok t)
    unfolding Counts
    totals_told e t = record { comes = ((judged_good as_rows e).0, t) }

  -- all rows
  module _ (times answers tried given began : List ℕ) (lent : Bool) {fits : Bool}
      (d : Decides lent (Lent n (length times) (length answers) (length tried) (length given) (length began)))
      (f : Decides fits ((lent ≡ true) × Rows names n (length states)))
      (j : JudgesTimed fits good states times v) where
    as_lists : Judged
        (listed.timed_order names n tree steps tests edges operands states
        (Lent n (length times) (length answers) (length tried) (length given) (length began)
        × Rows names n (length states)) times)
        ((Lent n (length times) (length answers) (length tried) (length given) (length began)
        × Rows names n (length states)) × AcceptedAlternatives names tree steps tests edges operands
        × (Codes states × Rising times)) v
    as_lists =
        lists_as (λ (x, l). (told lent d x, l)) (λ (x, l). (tells lent d x, l))
        (judged_as fits good _ _ f (λ x. g) _ j.is)

    pub all_asked : v ≡ (Ok tt) → TimedRows names n tree steps tests edges operands times states answers tried given began
    all_asked e =
        let ((x, l), a, (s, t)) = (judged_good as_lists e).1 in
        record {
          asked =
              record {
                asked = record { shape = accepted_shape _ _ _ _ _ _ a; rows = rows_asked l s };
                room = omega (arith, x.answers_all);
                space = omega (arith, x.tried_all);
              };
          lent = x;
        }

    pub all_refused : {ρ : Rules} {r : Refusal} → v ≡ Err r
        → ListedAll ρ names n tree steps tests edges operands states times answers tried given began answers tried given
        began (Err r)
    unfolding Comes after
    all_refused e =
        record {
          comes = judged_not as_lists e;
          answers_memory = refl;
          tried_memory = refl;
          given_memory = refl;
          began_memory = refl;
        }

    pub all_told : {ρ : Rules} {answers' tried' given' began' : List ℕ} → v ≡ (Ok tt)
        → Filled (state_at ρ names states) (alternatives_of_lem tree names steps tests edges operands) n answers tried
        answers' tried'
        → Marks times steps n answers' tried' given' began'
        → ListedAll ρ names n tree steps tests edges operands states times answers tried given began answers' tried'
        given' began' (Ok n)
    unfolding Comes after
    all_told {ρ} e w m =
        let l = all_asked e in
        let st = state_at ρ names states in
        let counts = counted l.asked.asked.shape in
        record {
          comes = ((judged_good as_lists e).0, refl);
          answers_memory = answers_are ρ l w;
          tried_memory = tried_are ρ l w;
          given_memory = marked_flags st times counts (answers_are ρ l w) (tried_are ρ l w) m;
          began_memory = marked_times st times counts (answers_are ρ l w) (tried_are ρ l w) m;
        }
