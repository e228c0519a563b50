-- What the calls that match by alternatives come to, case by case.
use Rattle.std.specs.Prelude.{Err, Ok}
use mathlib.Core.Path.{◌≡◌, refl}
use mathlib.Core.Bool.{Bool, true}
use mathlib.Core.List.{List}
use Prim.Native.Nat.{ℕ}
use native.Mathlib.Omega.{arith}
use lib.ListN.{length}
use Rattle.basics.specs.declared.Refusal.{Refusal}
use Rattle.alf.specs.declared.Rules.{Rules}
use Rattle.alf.specs.declared.Sort.TheVariants.{Vector}
use Rattle.alf.specs.Refusals.{Comes, Rising}
use Rattle.acceptance.specs.Accepted.{Accepted}
use Rattle.basics.specs.Deciding.{Decides}
use Rattle.beginnings.specs.declared.times.Dated.{Dated}
use Rattle.matcher.specs.declared.tables.Total.{Total}
use Rattle.matcher.specs.Tables as tables
use Rattle.states.specs.FirstBadCode.{Codes}
use Rattle.judging.specs.Orders.{Verdict}
use Rattle.judging.specs.Orders.{Rows, trace_order, Judged, ChecksRows}
use Rattle.judging.specs.TimedOrders.{timed_order, ChecksTimed, ChecksTimedRow}
use Rattle.basics.specs.Memory.{after}
use Rattle.matching_calls.specs.Matching.{MatchesTree, Finds, RowMatch, FillsTree, AllMatched, TotalsTree, Counts}
use Rattle.matching_calls.specs.Matching.{Lent, RowTotals, TreeRow, TreeRows, TreeLists}
use Rattle.judging.proofs.Verdicts.{judged_good, judged_not, lists_as}
use Rattle.judging.proofs.TimedChecks.{timed_as}
use Rattle.matcher.proofs.Filling.{row_within}

-- rows that fit are rows as matching asks for them
pub rows_asked : {names n : ℕ} {states : List ℕ} → Rows names n (length states) → Codes states
    → tables.Rows states names n
rows_asked l s =
    record {
      some = l.name_count_lem.0;
      most = l.name_count_lem.1;
      few = l.row_count.1;
      room = omega (arith, l.all);
      codes = s;
    }

-- a row
module _ {ρ : Rules} {names n : ℕ} {tree times states : List ℕ} {row : ℕ} {v : Verdict}
    (c : ChecksTimedRow ρ names n tree times states row v) where
  pub match_asked : v ≡ (Ok tt) → TreeRow ρ names tree times states row
  match_asked e =
      let ((m, l), a, (s, t, h)) = (judged_good c.is e).1 in
      record { accepted = a; there = row_within row (rows_asked l s) h; timed = omega arith }

  pub match_refused : {r : Refusal} → v ≡ Err r
      → RowMatch ρ names n tree times states row (Err r)
  unfolding Finds
  match_refused e = record { comes = judged_not c.is e }

  pub match_told : {m : Dated} → v ≡ (Ok tt) → MatchesTree ρ names tree times states row m.answer m.tries m.began
      → RowMatch ρ names n tree times states row (Ok m)
  unfolding Finds
  match_told e s = record { comes = ((judged_good c.is e).0, s) }

-- all rows
module _ {ρ : Rules} {names n : ℕ} {tree times states : List ℕ} (answers tried given began : List ℕ) {lent : Bool}
    {v : Verdict}
    (d : Decides lent (Lent n (length times) (length answers) (length tried) (length given) (length began)))
    (c : ChecksTimed ρ names n lent tree times states v) where
  abbrev all : Type 0
  all = Lent n (length times) (length answers) (length tried) (length given) (length began)

  as_lists : Judged (timed_order ρ names n all tree times states)
      ((all × Rows names n (length states)) × Accepted ρ names Vector tree × (Codes states × Rising times)) v
  as_lists = timed_as ρ names n tree times states lent all d c

  pub all_asked : v ≡ (Ok tt) → TreeLists ρ names n tree times states answers tried given began
  all_asked e =
      let ((x, l), a, (s, t)) = (judged_good as_lists e).1 in
      record { asked = record { accepted = a; rows = rows_asked l s }; lent = x }

  pub all_refused : {r : Refusal} → v ≡ Err r
      → AllMatched ρ names n tree times states answers tried given began answers tried given began (Err r)
  unfolding Comes after
  all_refused e =
      record {
        comes = judged_not as_lists e;
        answers_memory = refl;
        tried_memory = refl;
        given_memory = refl;
        began_memory = refl;
      }

  pub all_told : {answers' tried' given' began' : List ℕ} → v ≡ (Ok tt)
      → FillsTree ρ names n tree times states answers' tried' given' began'
      → AllMatched ρ names n tree times states answers tried given began answers' tried' given' began' (Ok n)
  unfolding Comes after
  all_told e f =
      record {
        comes = ((judged_good as_lists e).0, refl);
        answers_memory = f.answers;
        tried_memory = f.counts;
        given_memory = f.flags;
        began_memory = f.stamps;
      }

-- the totals
module _ {ρ : Rules} {names n : ℕ} {tree states : List ℕ} {v : Verdict}
    (c : ChecksRows ρ names n true tree Vector states v) where
  as_trace : Judged (trace_order ρ names n tree Vector states)
      (Rows names n (length states) × Accepted ρ names Vector tree × Codes states) v
  as_trace = lists_as (λ x. x.1) (λ l. (refl, l)) c.is

  pub totals_asked : v ≡ (Ok tt) → TreeRows ρ names n tree states
  totals_asked e = let (l, a, s) = (judged_good as_trace e).1 in record { accepted = a; rows = rows_asked l s }

  pub totals_refused : {r : Refusal} → v ≡ Err r → RowTotals ρ names n tree states (Err r)
  unfolding Counts
  totals_refused e = record { comes = judged_not as_trace e }

  pub totals_told : {t : Total} → v ≡ (Ok tt) → TotalsTree ρ names n tree states t.yes t.no t.unknown
      → RowTotals ρ names n tree states (Ok t)
  unfolding Counts
  totals_told e s = record { comes = ((judged_good as_trace e).0, s) }
