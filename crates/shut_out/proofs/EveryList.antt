-- Shut out: "refusing everything", for the calls over alternatives handed in: 01 A as lists, on table T.
use Rattle.std.specs.Prelude.{Err}
use Prim.Native.Nat.{ℕ, zero, suc, ◌<◌, ◌≤◌}
use native.Mathlib.Omega.{arith}
use mathlib.Core.Path.{◌≡◌, refl}
use mathlib.Core.List.{List, [], ◌∷◌}
use lib.ListN.{length, get_or}
use Rattle.basics.specs.declared.Refusal.{Refusal}
use Rattle.basics.specs.Words.{greatest_of, sum_of}
use Rattle.alf.specs.declared.Rules.{Rules}
use Rattle.alf.specs.Bytes.{half_number, edge_number, boolean_bytes, vector_bytes, bytes_of}
use Rattle.alf.specs.Decoder.{half_at, edge_at, leaf_at, operation_at}
use Rattle.alf.specs.Decoder.{is_boolean, top_boolean, under, run, stack_at}
use Rattle.alf.specs.Alternatives.{over_limit, tests}
use Rattle.alf.specs.TableT.{names, rows, times, states}
use Rattle.matching_calls.specs.Matching.{Lent}
use Rattle.trees.specs.Parts.{top}
use Rattle.alternatives.specs.InMemory.{cut, sum, tests_of, alternatives_of_lem}
use Rattle.timed_queue.specs.declared.queues.Queue.{Queue}
use Rattle.states.specs.FirstBadCode.{Codes}
use Rattle.call_laws.proofs.Routes.{holding_first}
use Rattle.listed_acceptance.specs.Lists.{Operand, AcceptedAlternatives}
use Rattle.listed_acceptance.specs.Fitting.{ListedFits}
use Rattle.listed_calls.specs.Listed as listed
use Rattle.shut_out.specs.Asked.{asked, rises}
use Rattle.shut_out.proofs.RefusingLists as over_lists
use Rattle.shut_out.proofs.OnT.{times_good, trace_good}
use Rattle.shut_out.proofs.EveryCall.{A_accepted, three}

-- one alternative of one step of one test: edge 11 is 01, and its operand ends behind byte 0 of the tree
abbrev one : List ℕ
one = 1 ∷ []

abbrev edge_01 : List ℕ
edge_01 = 11 ∷ []

operand : Operand (asked rises) names 1
unfolding
    edge_number half_number boolean_bytes vector_bytes bytes_of leaf_at operation_at is_boolean under run stack_at top
operand =
    record {
      ends = record { within = omega arith; whole = refl };
      start = 0;
      from = record { is = refl; before = omega arith; left = refl };
      accepted = A_accepted;
    }

pub one_accepted : AcceptedAlternatives names (asked rises) one one edge_01 one
unfolding
    edge_number half_number boolean_bytes vector_bytes bytes_of half_at edge_at leaf_at operation_at is_boolean top_boolean under
    run stack_at cut sum tests_of alternatives_of_lem over_limit tests greatest_of sum_of
one_accepted =
    record {
      all_steps = refl;
      all_tests_lem = refl;
      all_operands = refl;
      within = refl;
      some = omega arith;
      stepped = λ k l. one_there k l;
      known = λ k l. edge_there k l;
      operand = λ k l. operand_there k l;
    }
  where
    one_there : (k : ℕ) → k < 1 → 0 < get_or one k 0
    one_there zero l = omega arith
    one_there (suc k) l = absurd (omega arith)

    edge_there : (k : ℕ) → k < 1 → get_or edge_01 k 0 ≤ 82
    edge_there zero l = omega arith
    edge_there (suc k) l = absurd (omega arith)

    operand_there : (k : ℕ) → k < 1 → Operand (asked rises) names (get_or one k 0)
    operand_there zero l = operand
    operand_there (suc k) l = absurd (omega arith)

module _ (r : Refusal) where
  pub listed_fits : ListedFits names (asked rises) one one edge_01 one (Err r) → ⊥
  listed_fits w =
      (over_lists.listed_fits names (asked rises) one one edge_01 one).no_refusal
      (record { name_count_lem = three; accepted = one_accepted }) r tt w

  pub listed_match_row : {ρ : Rules} (i : ℕ) → i < rows
      → listed.ListedMatch ρ names rows (asked rises) one one edge_01 one states times i (Err r) → ⊥
  listed_match_row i l w =
      (over_lists.listed_match_row names rows (asked rises) one one edge_01 one states times i).no_refusal
      (record { trace = trace_good; accepted = one_accepted; asked = (times_good, l) }) r tt w

  pub listed_match_all : {ρ : Rules} {answers tried given began answers' tried' given' began' : List ℕ}
      → Lent rows (length times) (length answers) (length tried) (length given) (length began)
      → listed.ListedAll ρ names rows (asked rises) one one edge_01 one states times answers tried given began answers'
      tried' given' began' (Err r) → ⊥
  listed_match_all {ρ} {answers} {tried} {given} {began} {answers'} {tried'} {given'} {began'} room w =
      (over_lists.listed_match_all names rows (asked rises) one one edge_01 one states times answers tried given began
      ).no_refusal (record { trace = trace_good; accepted = one_accepted; asked = (room, times_good.rising) }) r
      (answers', tried', given', began') w

  pub listed_totals : {ρ : Rules}
      → listed.ListedTotals ρ names rows (asked rises) one one edge_01 one states (Err r) → ⊥
  listed_totals w =
      (over_lists.listed_totals names rows (asked rises) one one edge_01 one states).no_refusal
      (record { trace = trace_good; accepted = one_accepted; asked = tt }) r tt w

  pub listed_push : {ρ : Rules} {queue queue' : Queue} {time : ℕ} {row : List ℕ} → queue.rows.kept.0 ≡ 0
      → length row ≡ names → Codes row
      → listed.ListedPush ρ names (asked rises) one one edge_01 one queue time row (Err r) queue' → ⊥
  listed_push {ρ} {queue} {queue'} {time} {row} e f c w =
      let h = holding_first names 1 queue e in
      (over_lists.listed_push names (asked rises) one one edge_01 one queue time row).no_refusal
      (record {
        handed =
            record {
              accepted = one_accepted;
              kept = record { kept = record { few = omega (arith, e); codes = h.codes }; rising = h.rising };
            };
        fits = record { name_count_lem = three; full = f };
        codes = c;
        above = λ a. omega (arith, a.0, e);
      }) r queue' w
