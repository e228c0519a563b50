-- Shut out: "one answer for all rows (demand 2 with T)"; and unknown given as no. On table T, for whatever the
-- contracts allow:
--   one_answer_for_all, one_match_for_all, one_number_for_all    no result is allowed at every row; no list of one
--   one_value_for_all                                            nor of one value
--   row_0_answered, row_0_tried, row_0_changed                   row 0 has no event, no tries, no changes (any trace)
--   unknown_as_no, unknown_as_no_matched, unknown_as_no_listed   row 4 of case 1
--   flag_turned                                                  01 A is not reported as contradictory
-- The idea: T answers 3 at row 0, 1 at row 1 and 2 at row 4, which is computed; a contract allows no other.
use Rattle.std.specs.Prelude.{Err, Ok}
use Prim.Native.Nat.{ℕ, zero, suc, ◌+◌, ◌<◌}
use native.Mathlib.Omega.{arith}
use mathlib.Core.Path.{◌≡◌, refl, sym, ap, ◌∙◌}
use mathlib.Core.List.{List, [], ◌∷◌, ◌++◌}
use lib.ListN.{length, get_or, drop, replicate}
use Rattle.alf.specs.declared.Rules.{Rules}
use Rattle.alf.specs.declared.Answer.{Answer}
use Rattle.alf.specs.Beginnings.{Began}
use Rattle.alf.specs.declared.Answer.TheVariants.{No, NoEvent}
use Rattle.basics.specs.Refusing.{Outcome}
use Rattle.basics.specs.Words.{greatest, listed, count, some, all}
use Rattle.alf.specs.States.{reduce}
use Rattle.alf.specs.Expressions.{Vector}
use Rattle.alf.specs.Values.{value, recorded_or, state, state_at, value_at}
use Rattle.states.specs.declared.changes.Changes.{Changes}
use Rattle.alf.specs.Bytes.{boolean_bytes, bytes_of}
use Rattle.alf.specs.Decoder.{leaf_at, operation_at, top_boolean, run, stack_at}
use Rattle.trees.specs.Parts.{boolean_at}
use Rattle.alf.specs.Windows.{asked, digit_asked, letter_asked, edge_on, answer, best, numbered, row_answer}
use Rattle.alf.specs.Answers.{number_of}
use Rattle.alf.proofs.Answers.{number_same}
use Rattle.alf.specs.Alternatives.{is_name, halves, literals_at, possible, contradictory}
use Rattle.alf.specs.Alternatives.{alternatives, tries, tried}
use Rattle.alf.specs.Traces.{changed, mask, change_mask}
use Rattle.alf.specs.Refusals.{Comes}
use Rattle.alf.specs.TableT.{times, names, rows, states}
use Rattle.beginnings.specs.declared.times.Dated.{Dated}
use Rattle.contradictions.specs.Possible.{flag_of, flag_list}
use Rattle.rewriting_calls.specs.Calls as rewriting
use Rattle.contradictions.specs.Calls.{own_at, Contradicts}
use Rattle.changes.specs.Call as changes
use Rattle.row_calls.specs.Written.{Answering}
use Rattle.matching_calls.specs.Matching.{Matching}
use Rattle.row_calls.specs.Written.{Tells, RowAnswer, AllValues}
use Rattle.basics.specs.Memory.{after}
use Rattle.matching_calls.specs.Matching.{Lent, expression, Finds, RowMatch, AllMatched}
use Rattle.call_laws.proofs.Routes.{answered, matched}
use Rattle.shut_out.specs.Asked as T
use Rattle.shut_out.specs.Asked.{rises, just_A}
use Rattle.shut_out.proofs.RefusingRows.{match_all}
use Rattle.shut_out.proofs.OnT.{times_good, trace_good, rises_accepted, rises_is}

-- what is answered at a row of T, by document 01's number
abbrev pub at : Rules → Vector → ℕ → ℕ
at ρ p i = row_answer (state_at ρ names states) p i

-- the numbers that are told: of an answer, and of tries
unfoldable pub number : Answering → ℕ
number (Ok a) = number_of a
number (Err r) = 4

unfoldable pub number_found : Matching → ℕ
number_found (Ok m) = number_of m.answer
number_found (Err r) = 4

unfoldable pub tries_found : Matching → ℕ
tries_found (Ok m) = m.tries
tries_found (Err r) = 0

-- case 1, computed at the rows that are used
rises_0 : (ρ : Rules) → at ρ rises 0 ≡ 3
unfolding row_answer
rises_0 ρ = refl

pub rises_1 : (ρ : Rules) → at ρ rises 1 ≡ 1
unfolding states row_answer numbered best answer greatest value recorded_or state edge_on asked digit_asked letter_asked
    reduce
rises_1 ρ = refl

pub rises_4 : (ρ : Rules) → at ρ rises 4 ≡ 2
unfolding states row_answer numbered best answer greatest value recorded_or state edge_on asked digit_asked letter_asked
    reduce
rises_4 ρ = refl

row_number_lem : {ρ : Rules} (i : ℕ) → i < rows → (x : Answering) → RowAnswer ρ names rows (T.asked rises) states i x
    → number x ≡ at ρ rises i
unfolding number
row_number_lem {ρ} i l x w =
    let a = answered trace_good.lists rises_accepted trace_good.codes l x w in
    ap number a.is ∙ (rw (rises_is ρ) at a.numbered)

row_found : {ρ : Rules} (i : ℕ) → i < rows → (x : Matching) → RowMatch ρ names rows (T.asked rises) times states i x
    → number_found x ≡ at ρ rises i
unfolding number_found
row_found {ρ} i l x w =
    let a = matched trace_good.lists rises_accepted trace_good.codes l times_good.all times_good.rising x
    w in
    ap number_found a.is ∙ (rw (rises_is ρ) at a.numbered)

-- "one answer for all rows"
pub one_answer_for_all : {ρ : Rules} (x : Answering)
    → ((i : ℕ) → i < rows → RowAnswer ρ names rows (T.asked rises) states i x) → ⊥
one_answer_for_all {ρ} x w =
    let a = sym (row_number_lem 0 (omega arith) x (w 0 (omega arith)))
    ∙ row_number_lem 1 (omega arith) x (w 1 (omega arith)) in
    omega (arith, a, rises_0 ρ, rises_1 ρ)

pub one_match_for_all : {ρ : Rules} (x : Matching)
    → ((i : ℕ) → i < rows → RowMatch ρ names rows (T.asked rises) times states i x) → ⊥
one_match_for_all {ρ} x w =
    let a = sym (row_found 0 (omega arith) x (w 0 (omega arith))) ∙ row_found 1 (omega arith) x (w 1 (omega arith)) in
    omega (arith, a, rises_0 ρ, rises_1 ρ)

-- unknown given as no
pub unknown_as_no : {ρ : Rules} → RowAnswer ρ names rows (T.asked rises) states 4 (Ok No) → ⊥
unfolding number number_of
unknown_as_no {ρ} w = omega (arith, row_number_lem 4 (omega arith) _ w, rises_4 ρ)

pub unknown_as_no_matched : {ρ : Rules} (t : ℕ) (b : Began)
    → RowMatch ρ names rows (T.asked rises) times states 4
    (Ok (record { answer = No; tries = t; began = b }))
    → ⊥
unfolding number_found number_of
unknown_as_no_matched {ρ} t b w = omega (arith, row_found 4 (omega arith) _ w, rises_4 ρ)

-- the same of a whole list of answers, and of values: case 8
at_front : (l m : List ℕ) → l ≡ m → (i : ℕ) → get_or l i 0 ≡ get_or m i 0
at_front l m e i = ap (λ (x : List ℕ). get_or x i 0) e

module _ {answers tried given began answers' tried' given' began' : List ℕ}
    (room : Lent rows (length times) (length answers) (length tried) (length given) (length began)) where
  list_right : {ρ : Rules} (o : Outcome)
      → AllMatched ρ names rows (T.asked rises) times states answers tried given began answers' tried' given' began' o
      → answers' ≡ listed 0 rows (at ρ (expression ρ (T.asked rises) names))
  unfolding Comes after
  list_right (Ok k) w = w.answers_memory
  list_right (Err r) w =
      absurd
      ((match_all names rows (T.asked rises) states times answers tried given began).no_refusal
      (record { trace = trace_good; accepted = rises_accepted; rising = times_good.rising; room = room }) r
      (answers', tried', given', began') w)

  entry : {ρ : Rules} (o : Outcome)
      → AllMatched ρ names rows (T.asked rises) times states answers tried given began answers' tried' given' began' o
      → (get_or answers' 0 0 ≡ 3) × (get_or answers' 1 0 ≡ 1) × (get_or answers' 4 0 ≡ 2)
  unfolding listed
  entry {ρ} o w =
      let e = list_right o w ∙ ap (λ (p : Vector). listed 0 rows (at ρ p)) (rises_is ρ) in
      (at_front _ _ e 0 ∙ rises_0 ρ, at_front _ _ e 1 ∙ rises_1 ρ, at_front _ _ e 4 ∙ rises_4 ρ)

  pub one_number_for_all : {ρ : Rules} (o : Outcome) (k : ℕ)
      → AllMatched ρ names rows (T.asked rises) times states answers tried given began answers' tried' given' began' o
      → answers' ≡ replicate rows k → ⊥
  one_number_for_all o k w e =
      let x = entry o w in
      omega (arith, x.0, x.1, at_front _ _ e 0, at_front _ _ e 1)

  pub unknown_as_no_listed : {ρ : Rules} (o : Outcome)
      → AllMatched ρ names rows (T.asked rises) times states answers tried given began answers' tried' given' began' o
      → get_or answers' 4 0 ≡ 0 → ⊥
  unknown_as_no_listed o w e = omega (arith, (entry o w).2, e)

-- row 0 has no event, no alternative is tried there, and nothing changed; whatever the tree and the trace
pub row_0_answered : {ρ : Rules} {k n : ℕ} {tree codes : List ℕ} (a : Answer)
    → RowAnswer ρ k n tree codes 0 (Ok a)
    → (a ≡ NoEvent → ⊥) → ⊥
unfolding Tells row_answer number_of
row_0_answered a w differ = differ (number_same a NoEvent w.comes.1)

pub row_0_tried : {ρ : Rules} {k n : ℕ} {tree times codes : List ℕ} (m : Dated)
    → RowMatch ρ k n tree times codes 0 (Ok m)
    → 0 < m.tries → ⊥
unfolding Finds tries
row_0_tried m w h = omega (arith, h, w.comes.1.count)

none_changed : (k : ℕ) (codes : List ℕ) (j : ℕ) → mask j (changed k codes 0) ≡ 0
unfolding mask changed
none_changed k codes zero = refl
none_changed k codes (suc j) = omega (arith, none_changed k codes j)

pub row_0_changed : (k n : ℕ) (codes : List ℕ) (c : Changes) → changes.RowChanged k n codes 0 (Ok c)
    → (c.mask ≡ 0 → ⊥) → ⊥
unfolding changes.RowChanged change_mask
row_0_changed k n codes c w differ = differ (w.1.changed ∙ none_changed k codes k)

-- one value for all rows: A is 0 at row 0 and 1 at row 1
A_0 : (ρ : Rules) → value_at ρ names states (boolean_at just_A names (length just_A)) 0 ≡ 0
unfolding boolean_bytes bytes_of leaf_at operation_at run stack_at top_boolean states value reduce
A_0 ρ = refl

A_1 : (ρ : Rules) → value_at ρ names states (boolean_at just_A names (length just_A)) 1 ≡ 1
unfolding boolean_bytes bytes_of leaf_at operation_at run stack_at top_boolean states value reduce
A_1 ρ = refl

pub one_value_for_all : {ρ : Rules} {out out' : List ℕ} (v m : ℕ)
    → AllValues ρ names rows just_A states out out' (Ok m)
    → out' ≡ replicate rows v → ⊥
unfolding after listed
one_value_for_all {ρ} v m w e =
    let a = sym (at_front _ _ w.memory 0) ∙ at_front _ _ e 0 in
    let b = sym (at_front _ _ w.memory 1) ∙ at_front _ _ e 1 in
    omega (arith, a, b, A_0 ρ, A_1 ρ)

-- the report of contradictory alternatives turned round
own_one : (ρ : Rules) → own_at ρ (T.asked rises) names ≡ alternatives rises
own_one ρ = ap alternatives (rises_is ρ)

flag_0 : flag_list names (alternatives rises) ≡ 0 ∷ []
unfolding
    alternatives flag_list flag_of contradictory possible literals_at halves is_name some all asked digit_asked letter_asked
    reduce
flag_0 = refl

pub flag_turned : {ρ : Rules} {flags flags' : List ℕ} (m : ℕ)
    → Contradicts ρ names (T.asked rises) flags flags' (Ok m)
    → get_or flags' 0 0 ≡ 1 → ⊥
unfolding after
flag_turned {ρ} {flags} {flags'} m w e =
    let o = ap (flag_list names) (own_one ρ) ∙ flag_0 in
    let a = at_front _ _ (w.memory ∙ ap (λ (l : List ℕ). l ++ drop (length l) flags) o) 0 in
    omega (arith, a, e)
