-- What the calls that answer as the tree is written come to, case by case.
use Rattle.std.specs.Prelude.{Err, Ok}
use mathlib.Core.Path.{◌≡◌, refl, sym, ◌∙◌}
use mathlib.Core.List.{List}
use mathlib.Core.Bool.{Bool, true, false}
use Prim.Native.Nat.{ℕ}
use lib.Dec.{eqb}
use lib.ListN.{length}
use Rattle.alf.specs.declared.Rules.{Rules}
use Rattle.alf.specs.declared.Answer.{Answer}
use Rattle.basics.specs.declared.Refusal.{Refusal}
use Rattle.alf.specs.declared.Sort.{Sort}
use Rattle.alf.specs.declared.Sort.TheVariants.{Boolean, Vector}
use Rattle.alf.specs.Refusals.{Comes}
use Rattle.basics.specs.Words.{listed}
use Rattle.alf.specs.Values.{state_at}
use Rattle.alf.specs.Steady.{meant}
use Rattle.alf.specs.Alternatives.{alternatives, over_limit}
use Rattle.alf.specs.Expressions as expressions
use Rattle.basics.proofs.Bools.{never}
use Rattle.steady_laws.proofs.Meant.{meant_limit}
use Rattle.alf.specs.Windows.{row_answer}
use Rattle.alf.specs.Answers.{number_of}
use Rattle.alf.specs.Decoder.{stack_at}
use Rattle.trees.specs.Parts.{EndsBoolean, vector_at}
use Rattle.acceptance.specs.Accepted.{over_size, Accepted, Limited}
use Rattle.acceptance.proofs.Acceptance.{decoded, accepted_decodes, accepted_boolean, accepted_vector}
use Rattle.evaluator.specs.Rows.{Within, IsState, Filling, state_of, value_of}
use Rattle.basics.proofs.Listed.{listed_whole}
use Rattle.evaluator.proofs.Traces.{trace_row, trace_filling}
use Rattle.window_answers.specs.Spans.{Pattern}
use Rattle.window_answers.proofs.Tops.{top_vector_lem}
use Rattle.window_answers.proofs.LongestSteps.{longest_limited}
use Rattle.judging.specs.Orders.{Verdict}
use Rattle.judging.specs.Orders.{Rows, rows_order, Judged, ChecksRow, ChecksRows}
use Rattle.row_calls.specs.Written.{RowState, RowValue, AllValues, Tells, RowAnswer}
use Rattle.basics.specs.Memory.{front, after}
use Rattle.states.specs.FirstBadCode.{Codes}
use Rattle.basics.proofs.Deciding.{eqb_decides}
use Rattle.judging.proofs.Verdicts.{judged_good, judged_not}
use Rattle.judging.proofs.Checked.{lent_as}

-- what is within limit 8 as the rules read it is so as it is written
as_written : (ρ : Rules) (p : expressions.Vector) → over_limit (alternatives (meant ρ p)) ≡ false
    → over_limit (alternatives p) ≡ false
as_written ρ p h = go (over_limit (alternatives p)) refl
  where
    go : (q : Bool) → over_limit (alternatives p) ≡ q → over_limit (alternatives p) ≡ false
    go true e = never (sym h ∙ meant_limit ρ p e)
    go false e = e

-- an accepted tree is a vector expression within the limits
module _ {ρ : Rules} (tree : List ℕ) (names : ℕ) (a : Accepted ρ names Vector tree) where
  limited : Limited ρ tree names
  unfolding over_size
  limited =
      let e = decoded names tree a.expression (accepted_decodes a) in
      let d = top_vector_lem (stack_at tree names (length tree)) (accepted_vector tree names a).whole in
      rw (← e, d) at a.sized

  accepted_pattern : Pattern tree names (length tree)
  accepted_pattern =
      record {
        ends = accepted_vector tree names a;
        few = a.tokens;
        short = longest_limited (vector_at tree names (length tree)) (as_written ρ _ limited);
      }

module _ {ρ : Rules} {names n : ℕ} {tree : List ℕ} {sort : Sort} {states : List ℕ} {row : ℕ} {v : Verdict}
    (c : ChecksRow ρ names n tree sort states row v) (e : v ≡ (Ok tt)) where
  pub row_there : Within states names row
  row_there =
      let (l, a, (s, h)) = (judged_good c.is e).1 in
      trace_row states names n l.name_count_lem l.row_count l.all s row h

  pub row_accepted : Accepted ρ names sort tree
  row_accepted = (judged_good c.is e).1.1

module _ {ρ : Rules} {names n : ℕ} {tree states : List ℕ} {row : ℕ} {v : Verdict}
    (c : ChecksRow ρ names n tree Boolean states row v) where
  pub boolean_ends : v ≡ (Ok tt) → EndsBoolean tree names (length tree)
  boolean_ends e = accepted_boolean tree names (row_accepted c e)

  pub state_refused : {r : Refusal} → v ≡ Err r
      → RowState ρ names n tree states row (Err r)
  unfolding Comes
  state_refused e = record { comes = judged_not c.is e }

  pub value_refused : {r : Refusal} → v ≡ Err r
      → RowValue ρ names n tree states row (Err r)
  unfolding Comes
  value_refused e = record { comes = judged_not c.is e }

  pub state_told : {k : ℕ} → v ≡ (Ok tt) → IsState (state_of ρ tree names states (length tree) row) k
      → RowState ρ names n tree states row (Ok k)
  unfolding Comes
  state_told e s = record { comes = ((judged_good c.is e).0, s.is) }

  pub value_told : {k : ℕ} → v ≡ (Ok tt) → IsState (value_of ρ tree names states (length tree) row) k
      → RowValue ρ names n tree states row (Ok k)
  unfolding Comes
  value_told e s = record { comes = ((judged_good c.is e).0, s.is) }

module _ {ρ : Rules} {names n : ℕ} {tree states : List ℕ} {row : ℕ} {v : Verdict}
    (c : ChecksRow ρ names n tree Vector states row v) where
  pub pattern_there : v ≡ (Ok tt) → Pattern tree names (length tree)
  pattern_there e = accepted_pattern tree names (row_accepted c e)

  pub answer_refused : {r : Refusal} → v ≡ Err r → RowAnswer ρ names n tree states row (Err r)
  unfolding Tells
  answer_refused e = record { comes = judged_not c.is e }

  pub answer_told : {a : Answer} → v ≡ (Ok tt)
      → number_of a ≡ row_answer (state_at ρ names states) (meant ρ (vector_at tree names (length tree))) row
      → RowAnswer ρ names n tree states row (Ok a)
  unfolding Tells
  answer_told e s = record { comes = ((judged_good c.is e).0, s) }

-- all rows
module _ {ρ : Rules} {names n : ℕ} {tree states : List ℕ} (out : List ℕ) {v : Verdict}
    (c : ChecksRows ρ names n (eqb (length out) n) tree Boolean states v) where
  as_lists : Judged (rows_order ρ names n (length out ≡ n) tree Boolean states)
      (((length out ≡ n) × Rows names n (length states)) × Accepted ρ names Boolean tree × Codes states) v
  as_lists = lent_as ρ names n tree Boolean states (eqb (length out) n) (length out ≡ n) (eqb_decides (length out) n) c

  pub values_refused : {r : Refusal} → v ≡ Err r
      → AllValues ρ names n tree states out out (Err r)
  unfolding Comes after
  values_refused e = record { comes = judged_not as_lists e; memory = refl }

  module _ (e : v ≡ (Ok tt)) where
    pub values_ends : EndsBoolean tree names (length tree)
    values_ends = accepted_boolean tree names (judged_good as_lists e).1.1

    pub values_rows : Filling states names n out
    values_rows =
        let ((k, l), a, s) = (judged_good as_lists e).1 in
        trace_filling states names n l.name_count_lem l.row_count l.all s out k

    pub values_told : {out' : List ℕ}
        → out' ≡ front (listed 0 n (value_of ρ tree names states (length tree))) out
        → AllValues ρ names n tree states out out' (Ok n)
    unfolding Comes after
    values_told h =
        let (p, ((k, l), a, s)) = judged_good as_lists e in
        record { comes = (p, refl); memory = h ∙ listed_whole n _ out k }
