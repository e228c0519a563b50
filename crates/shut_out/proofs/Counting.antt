-- Shut out: "a queue right at its first event only (demand 2, every row); an invented number of tries or total (tied
-- above to order and to the answers)". On table T, for whatever the contracts allow:
--   one_number_of_tries, tries_unlike                            no number of tries is allowed at every event
--   invented_total, totals_nothing, unknown_counted_as_no        no totals but 1, 3, 1
--   first_event_only                                             a queue that goes on answering its first event
--   stands_still, keeps_nothing                                  one that keeps nothing, whatever the tree
use Rattle.std.specs.Prelude.{Err, Ok}
use Prim.Native.Nat.{◌-◌, ℕ, suc, ◌+◌, ◌*◌, ◌<◌}
use native.Mathlib.Omega.{arith}
use mathlib.Core.Path.{◌≡◌, refl, sym, ap, ◌∙◌}
use mathlib.Core.List.{List}
use lib.ListN.{get_or, length, drop}
use Rattle.alf.specs.declared.Rules.{Rules}
use Rattle.alf.specs.declared.Answer.{Answer}
use Rattle.alf.specs.Beginnings.{Began}
use Rattle.basics.specs.Words.{greatest, least_of, count, all}
use Rattle.alf.specs.States.{reduce}
use Rattle.alf.specs.Expressions.{Vector}
use Rattle.alf.specs.Values.{value, recorded_or, state, state_at}
use Rattle.alf.specs.Windows.{asked, digit_asked, letter_asked, edge_on, answer, best, numbered, row_answer}
use Rattle.alf.specs.Alternatives.{alternatives, rewritten, tries, tried, at_row, steps_from, step_at, test_at, steps_of}
use Rattle.alf.specs.Traces.{total}
use Rattle.alf.specs.TableT.{names, rows, times, states}
use Rattle.alf.proofs.TraceNearness.{steps_pos}
use Rattle.trace_format.specs.Format.{codes_of, fewest_of}
use Rattle.trace_writer.proofs.Putting.{codes_all}
use Rattle.beginnings.specs.declared.times.Dated.{Dated}
use Rattle.matcher.specs.declared.tables.Total.{Total}
use Rattle.timed_queue.specs.declared.queues.Queue.{Queue}
use Rattle.states.specs.FirstBadCode.{Codes}
use Rattle.queue.specs.Queues.{fed}
use Rattle.states.proofs.CodeLists.{codes_take, codes_drop}
use Rattle.matching_calls.specs.Matching.{Matching}
use Rattle.judging.specs.Orders.{Rows}
use Rattle.row_calls.specs.Written.{Tells}
use Rattle.matching_calls.specs.Matching.{expression, tries_on, Finds, Counts, RowMatch, RowTotals}
use Rattle.queue_calls.specs.Pushing.{Takes, Push}
use Rattle.call_laws.proofs.Routes.{matched, pushed_found}
use Rattle.shut_out.specs.Asked as T
use Rattle.shut_out.specs.Asked.{rises, one_of}
use Rattle.shut_out.proofs.OnT.{times_good, trace_good, rises_accepted, one_of_accepted, rises_is, one_of_is}
use Rattle.shut_out.proofs.Answering.{at, number_found, tries_found, rises_1, rises_4}
use Rattle.shut_out.proofs.RefusingUpdates.{Pushable, push}

-- "an invented number of tries": 01 A | 10 B is yes at row 1 by its first alternative, at row 2 by its second
tries_1 : (ρ : Rules) → tries (state_at ρ names states) (alternatives one_of) 1 ≡ 1
unfolding states alternatives rewritten tries tried at_row steps_from step_at test_at least_of value recorded_or state
    edge_on asked digit_asked letter_asked reduce
tries_1 ρ = refl

tries_2 : (ρ : Rules) → tries (state_at ρ names states) (alternatives one_of) 2 ≡ 2
unfolding states alternatives rewritten tries tried at_row steps_from step_at test_at least_of value recorded_or state
    edge_on asked digit_asked letter_asked reduce
tries_2 ρ = refl

row_tries : {ρ : Rules} (i : ℕ) → i < rows → (x : Matching) → RowMatch ρ names rows (T.asked one_of) times states i x
    → tries_found x ≡ tries (state_at ρ names states) (alternatives one_of) i
unfolding tries_found
row_tries {ρ} i l x w =
    ap tries_found
    (matched trace_good.lists one_of_accepted trace_good.codes l times_good.all times_good.rising x w).is
    ∙ ap (λ (p : Vector). tries (state_at ρ names states) (alternatives p) i) (one_of_is ρ)

pub one_number_of_tries : {ρ : Rules} (t : ℕ) (answers : ℕ → Answer) (begans : ℕ → Began)
    → ((i : ℕ) → 0 < i → i < rows
    → RowMatch ρ names rows (T.asked one_of) times states i
    (Ok (record { answer = answers i; tries = t; began = begans i })))
    → ⊥
unfolding tries_found
one_number_of_tries {ρ} t answers begans w =
    let a = row_tries 1 (omega arith) _ (w 1 (omega arith) (omega arith)) in
    let b = row_tries 2 (omega arith) _ (w 2 (omega arith) (omega arith)) in
    omega (arith, a, b, tries_1 ρ, tries_2 ρ)

-- whatever the tree and the trace: no number but that of the alternatives up to the first yes, or of all
pub tries_unlike : {ρ : Rules} {k n : ℕ} {tree times codes : List ℕ} {row : ℕ} (m : Dated)
    → RowMatch ρ k n tree times codes row (Ok m) → (m.tries ≡ tries_on ρ k tree codes row → ⊥) → ⊥
unfolding Finds
tries_unlike m w h = h w.comes.1.count

-- "an invented .. total": case 1 has one yes, three no, one unknown
pub total_yes : (ρ : Rules) → total (state_at ρ names states) rises rows 1 ≡ 1
unfolding total count states row_answer numbered best answer greatest value recorded_or state edge_on asked digit_asked
    letter_asked reduce
total_yes ρ = refl

pub total_no : (ρ : Rules) → total (state_at ρ names states) rises rows 0 ≡ 3
unfolding total count states row_answer numbered best answer greatest value recorded_or state edge_on asked digit_asked
    letter_asked reduce
total_no ρ = refl

pub total_unknown : (ρ : Rules) → total (state_at ρ names states) rises rows 2 ≡ 1
unfolding total count states row_answer numbered best answer greatest value recorded_or state edge_on asked digit_asked
    letter_asked reduce
total_unknown ρ = refl

pub invented_total : {ρ : Rules} (t : Total) → RowTotals ρ names rows (T.asked rises) states (Ok t)
    → (t.yes ≡ 1) × (t.no ≡ 3) × (t.unknown ≡ 1)
unfolding Counts
invented_total {ρ} t w =
    let c = rw (rises_is ρ) at w.comes.1 in
    (c.yeses ∙ total_yes ρ, c.noes ∙ total_no ρ, c.unknowns ∙ total_unknown ρ)

pub totals_nothing : {ρ : Rules} (t : Total) → RowTotals ρ names rows (T.asked rises) states (Ok t)
    → t.yes + t.no + t.unknown ≡ 0 → ⊥
totals_nothing t w e = omega (arith, e, (invented_total t w).0)

pub unknown_counted_as_no : {ρ : Rules} (t : Total)
    → RowTotals ρ names rows (T.asked rises) states (Ok t)
    → t.no ≡ 4 → ⊥
unknown_counted_as_no t w e = omega (arith, e, (invented_total t w).1)

-- "a queue right at its first event only": the rows of T are pushed, the first into a queue that keeps nothing
fed_is : fed (codes_of names states) rows ≡ states
unfolding fed codes_of states
fed_is = refl

row_full : (i : ℕ) → i < rows → length (codes_of names states i) ≡ names
unfolding codes_of
row_full i l = codes_all names (fewest_of times) times states rows trace_good.lists.all i l

row_codes : (i : ℕ) → i < rows → Codes (codes_of names states i)
unfolding codes_of
row_codes i l =
    codes_take names (drop (i * names) states) (codes_drop (i * names) states trace_good.codes)

times_next : (i : ℕ) → suc i < rows → get_or times i 0 < get_or times (suc i) 0
times_next i l =
    let e : suc i - 1 ≡ i = omega arith in
    rw e at (times_good.rising (suc i) (omega arith) (omega (arith, l, times_good.all)))

module _ {ρ : Rules} {queues : ℕ → Queue} {results : ℕ → Matching} (first : (queues 0).rows.kept.0 ≡ 0)
    (pushed : (i : ℕ) → i < rows
    → Push ρ names (T.asked rises) (queues i) (get_or times i 0) (codes_of names states i) (results i) (queues (suc i)))
  where
    queue_number : (i : ℕ) → i < rows → number_found (results i) ≡ at ρ rises i
    unfolding number_found
    queue_number i l =
        let r = pushed_found trace_good.lists.name_count_lem rises_accepted first row_full row_codes times_next pushed
        i l in
        ap number_found r.is ∙ (rw (fed_is, rises_is ρ) at r.numbered)

    pub first_event_only : ((i : ℕ) → 0 < i → i < rows → results i ≡ results 1) → ⊥
    first_event_only same =
        let a = sym (queue_number 4 (omega arith))
        ∙ (ap number_found (same 4 (omega arith) (omega arith)) ∙ queue_number 1 (omega arith)) in
        omega (arith, a, rises_1 ρ, rises_4 ρ)

-- whatever the tree: what is pushed is kept, as long as K rows are not kept yet
pub stands_still : {ρ : Rules} {k : ℕ} {tree : List ℕ} {queue : Queue} {time : ℕ} {row : List ℕ} {queue' : Queue}
    → Pushable ρ k tree queue time row → queue.rows.kept.0 < steps_of (expression ρ tree k) → (x : Matching)
    → Push ρ k tree queue time row x queue' → queue'.rows.kept.0 ≡ queue.rows.kept.0 → ⊥
unfolding Takes steps_of
stands_still {ρ} {k} {tree} {queue} {time} {row} {queue'} g l (Ok m) w e =
    omega (arith, l, e, w.comes.1.kept)
stands_still {ρ} {k} {tree} {queue} {time} {row} {queue'} g l (Err r) w e =
    (push ρ k tree queue time row).no_refusal g r queue' w

pub keeps_nothing : {ρ : Rules} {k : ℕ} {tree : List ℕ} {queue : Queue} {time : ℕ} {row : List ℕ} {queue' : Queue}
    → Pushable ρ k tree queue time row → (x : Matching) → Push ρ k tree queue time row x queue'
    → queue.rows.kept.0 ≡ 0 → queue'.rows.kept.0 ≡ 0 → ⊥
keeps_nothing {ρ} {k} {tree} g x w a b =
    stands_still g (omega (arith, a, steps_pos (expression ρ tree k))) x w (b ∙ sym a)
