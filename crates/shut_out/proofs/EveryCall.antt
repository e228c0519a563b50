-- Shut out: "refusing everything". Each public call has input, on table T, for which its contract allows no refusal:
-- so no program meets the contract that refuses all. What good input is, in general, stands in Refusing,
-- RefusingRows and RefusingUpdates. The calls over texts stand in EveryText, those over lists in EveryList.
use Rattle.std.specs.Prelude.{Err}
use Prim.Native.Nat.{ℕ, ◌-◌, ◌<◌, ◌≤◌, max}
use native.Mathlib.Omega.{arith}
use mathlib.Core.Path.{◌≡◌, refl, sym, ap, ◌∙◌}
use mathlib.Core.List.{List}
use lib.ListN.{length}
use Rattle.basics.specs.declared.Refusal.{Refusal}
use Rattle.alf.specs.declared.Rules.{Rules}
use Rattle.alf.specs.declared.Sort.TheVariants as sort
use Rattle.alf.specs.Expressions.{Vector, boolean}
use Rattle.alf.specs.Bytes.{boolean_bytes, bytes_of}
use Rattle.alf.specs.Decoder.{leaf_at, operation_at, run, stack_at, Decodes}
use Rattle.alf.specs.Alternatives.{alternatives}
use Rattle.alf.specs.Refusals.{NameCount}
use Rattle.alf.specs.TableT.{names, rows, times, states, A}
use Rattle.alf.proofs.TraceNearness.{steps_pos}
use Rattle.trees.specs.Brackets.{boolean_depth, depth_of}
use Rattle.alf.proofs.FewNames.{decodes_encoded}
use Rattle.acceptance.specs.Accepted.{sort_of_lem, over_size, Accepted}
use Rattle.writer.specs.Trees.{text}
use Rattle.rewriting.specs.Lists.{joined, alternatives_at, step_list, test_list, edge_list, operand_list}
use Rattle.rewriting.proofs.Holding.{edge_entries, operand_entries}
use Rattle.contradictions.specs.Possible.{flag_list}
use Rattle.rewriting_calls.specs.Calls.{Rewrites}
use Rattle.rewriting_calls.proofs.Theorems.{steps_own, tests_own, edges_own}
use Rattle.contradictions.specs.Calls.{own_at, Contradicts}
use Rattle.timed_queue.specs.declared.queues.Queue.{Queue}
use Rattle.states.specs.FirstBadCode.{Codes}
use Rattle.row_calls.specs.Written.{RowState, RowValue, AllValues, RowAnswer}
use Rattle.row_calls.specs.Windows.{WindowAnswer}
use Rattle.matching_calls.specs.Matching.{Lent, expression, RowMatch, AllMatched, RowTotals}
use Rattle.update_calls.specs.Correcting.{Correction}
use Rattle.queue_calls.specs.Pushing.{Push}
use Rattle.call_laws.proofs.Routes.{holding_first}
use Rattle.figures.specs.Delivering.{Delivers}
use Rattle.shut_out.specs.Asked.{asked, rises, just_A}
use Rattle.shut_out.proofs.Reasons.{Four}
use Rattle.shut_out.proofs.Refusing as texts
use Rattle.shut_out.proofs.RefusingRows as over_rows
use Rattle.shut_out.proofs.RefusingUpdates as updating
use Rattle.shut_out.proofs.OnT.{times_good, trace_good, rises_accepted, rises_is}

-- Rewriting.
module _ (ρ : Rules) where
  steps_one : length (step_list (alternatives_at ρ (asked rises) names)) ≡ 1
  unfolding alternatives step_list
  steps_one =
      ap length (steps_own ρ (asked rises) names rises_accepted)
      ∙ ap (λ (p : Vector). length (step_list (alternatives p))) (rises_is ρ)

  tests_one : length (test_list (alternatives_at ρ (asked rises) names)) ≡ 1
  unfolding alternatives joined test_list
  tests_one =
      ap length (tests_own ρ (asked rises) names rises_accepted)
      ∙ ap (λ (p : Vector). length (test_list (alternatives p))) (rises_is ρ)

  edges_one : length (edge_list (alternatives_at ρ (asked rises) names)) ≡ 1
  unfolding alternatives joined edge_list
  edges_one =
      ap length (edges_own ρ (asked rises) names rises_accepted)
      ∙ ap (λ (p : Vector). length (edge_list (alternatives p))) (rises_is ρ)

  operands_one : length (operand_list (alternatives_at ρ (asked rises) names)) ≡ 1
  operands_one =
      operand_entries (alternatives_at ρ (asked rises) names)
      ∙ sym (edge_entries (alternatives_at ρ (asked rises) names)) ∙ edges_one

flags_one : (ρ : Rules) → length (flag_list names (own_at ρ (asked rises) names)) ≡ 1
unfolding alternatives flag_list
flags_one ρ = ap (λ (p : Vector). length (flag_list names (alternatives p))) (rises_is ρ)

pub three : NameCount names
three = (omega arith, omega arith)

pub rewrite : {ρ : Rules} (s t e o : List ℕ) (r : Refusal) (m : Four) → 1 ≤ length s → 1 ≤ length t → 1 ≤ length e
    → 1 ≤ length o → Rewrites ρ names (asked rises) s t e o m.0 m.1 m.2 m.3 (Err r) → ⊥
rewrite {ρ} s t e o r m a b c d w =
    (texts.rewrite ρ names (asked rises) s t e o).no_refusal
    (record {
      name_count_lem = three;
      accepted = rises_accepted;
      steps_room = omega (arith, a, steps_one ρ);
      tests_room = omega (arith, b, tests_one ρ);
      edges_room = omega (arith, c, edges_one ρ);
      operands_room = omega (arith, d, operands_one ρ);
    }) r m w

pub contradictions : {ρ : Rules} {flags flags' : List ℕ} (r : Refusal) → 1 ≤ length flags
    → Contradicts ρ names (asked rises) flags flags' (Err r) → ⊥
contradictions {ρ} {flags} {flags'} r room w =
    (texts.contradictions ρ names (asked rises) flags).no_refusal
    (record { name_count_lem = three; accepted = rises_accepted; room = omega (arith, room, flags_one ρ) }) r flags' w

-- Rows: of the boolean expression A, and of 01 A.
pub A_accepted : {ρ : Rules} → Accepted ρ names sort.Boolean just_A
unfolding
    boolean_bytes bytes_of leaf_at operation_at run stack_at Decodes sort_of_lem over_size boolean_depth depth_of
A_accepted =
    record {
      expression = boolean A;
      encodes = decodes_encoded _ _ _ refl;
      sorted = refl;
      tokens = omega arith;
      brackets = omega arith;
      sized = refl;
    }

module _ (r : Refusal) where
  module _ (i : ℕ) (l : i < rows) where
    good_A : {ρ : Rules} → over_rows.GoodRow ρ names rows just_A sort.Boolean states i
    good_A = record { trace = trace_good; accepted = A_accepted; there = l }

    good_rises : {ρ : Rules} → over_rows.GoodRow ρ names rows (asked rises) sort.Vector states i
    good_rises = record { trace = trace_good; accepted = rises_accepted; there = l }

    pub row_state : {ρ : Rules} → RowState ρ names rows just_A states i (Err r) → ⊥
    row_state w = (over_rows.row_state names rows just_A states i).no_refusal good_A r tt w

    pub row_value : {ρ : Rules} → RowValue ρ names rows just_A states i (Err r) → ⊥
    row_value w = (over_rows.row_value names rows just_A states i).no_refusal good_A r tt w

    pub row_answer_lem : {ρ : Rules} → RowAnswer ρ names rows (asked rises) states i (Err r) → ⊥
    row_answer_lem w = (over_rows.row_answer_lem names rows (asked rises) states i).no_refusal good_rises r tt w

    pub match_row_lem : {ρ : Rules} → RowMatch ρ names rows (asked rises) times states i (Err r) → ⊥
    match_row_lem w =
        (over_rows.match_row_lem names rows (asked rises) states i times).no_refusal
        (record { good = good_rises; stamps = times_good }) r tt w

  pub window_answer : {ρ : Rules} (a b : ℕ) → max a b < rows
      → WindowAnswer ρ names rows (asked rises) states a b (Err r)
      → ⊥
  window_answer a b l w =
      (over_rows.window_answer names rows (asked rises) states a b).no_refusal (good_rises (max a b) l) r tt w

  pub values : {ρ : Rules} {out out' : List ℕ} → length out ≡ rows
      → AllValues ρ names rows just_A states out out' (Err r) → ⊥
  values {ρ} {out} {out'} room w =
      (over_rows.values names rows just_A states out).no_refusal
      (record { trace = trace_good; accepted = A_accepted; room = room }) r out' w

  pub match_all : {ρ : Rules} {answers tried given began answers' tried' given' began' : List ℕ}
      → Lent rows (length times) (length answers) (length tried) (length given) (length began)
      → AllMatched ρ names rows (asked rises) times states answers tried given began answers' tried' given' began'
      (Err r) → ⊥
  match_all {ρ} {answers} {tried} {given} {began} {answers'} {tried'} {given'} {began'} room w =
      (over_rows.match_all names rows (asked rises) states times answers tried given began).no_refusal
      (record { trace = trace_good; accepted = rises_accepted; rising = times_good.rising; room = room }) r
      (answers', tried', given', began') w

  pub totals : {ρ : Rules} → RowTotals ρ names rows (asked rises) states (Err r) → ⊥
  totals w =
      (over_rows.totals names rows (asked rises) states).no_refusal
      (record { trace = trace_good; accepted = rises_accepted; room = tt }) r tt w

  pub correct : {ρ : Rules} {answers new states' answers' : List ℕ} {i : ℕ} → length answers ≡ rows
      → length new ≡ names
      → Codes new → i < rows
      → Correction ρ names rows (asked rises) states answers i new states' answers' (Err r) → ⊥
  correct {ρ} {answers} {new} {states'} {answers'} {i} a f c l w =
      (updating.correct ρ names rows (asked rises) states answers i new).no_refusal
      (record { trace = trace_good; accepted = rises_accepted; room = a; full = f; codes = c; there = l }) r
      (states', answers') w

  -- a queue that keeps nothing yet
  pub push : {ρ : Rules} {queue queue' : Queue} {time : ℕ} {row : List ℕ} → queue.rows.kept.0 ≡ 0
      → length row ≡ names → Codes row
      → Push ρ names (asked rises) queue time row (Err r) queue' → ⊥
  push {ρ} {queue} {queue'} {time} {row} e f c w =
      let h = holding_first names 1 queue e in
      (updating.push ρ names (asked rises) queue time row).no_refusal
      (record {
        handed =
            record {
              accepted = rises_accepted;
              kept =
                  record {
                    kept =
                        record {
                          few = omega (arith, e, steps_pos (expression ρ (asked rises) names));
                          codes = h.codes;
                        };
                    rising = h.rising;
                  };
            };
        fits = record { name_count_lem = three; full = f };
        codes = c;
        above = λ a. omega (arith, a.0, e);
      }) r queue' w

  -- Each line of the table but a pattern's: where there is room.
  pub line : {text out out' : List ℕ} → length text ≤ length out
      → Delivers text out out' (Err r) → ⊥
  line {text} {out} {out'} room w = (texts.line out text).no_refusal room r out' w
