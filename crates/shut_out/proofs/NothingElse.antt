-- Shut out: any answer, number, text, file or list other than the one that document 01 defines, however a program
-- came to it: a wrong table of states, an edge asked with its rows exchanged, steps in another order, a token at
-- another place. Where a call is done, this is what it told, and this is what stands in the memory lent to it; past
-- an output it is as it was. That nothing else is a refusal of good input, or a refusal, stands in Refusing and its
-- like.
use Rattle.std.specs.Prelude.{Result, Ok}
use Prim.Native.Nat.{ℕ, ◌+◌, ◌<◌, ◌≤◌}
use native.Mathlib.Omega.{arith}
use mathlib.Core.Path.{◌≡◌}
use mathlib.Core.List.{List, ◌++◌}
use lib.ListN.{length, drop}
use Rattle.alf.specs.declared.Rules.{Rules}
use Rattle.alf.specs.declared.Answer.{Answer}
use Rattle.alf.specs.declared.Sort.{Sort}
use Rattle.states.specs.declared.changes.Changes.{Changes}
use Rattle.alf.specs.Expressions.{Expression}
use Rattle.basics.specs.Words.{listed}
use Rattle.alf.specs.Values.{state_at, value_at}
use Rattle.alf.specs.Windows.{row_answer, numbered}
use Rattle.alf.specs.Answers.{number_of}
use Rattle.alf.specs.Alternatives.{answer_of, tries}
use Rattle.alf.specs.Traces.{change_mask, change_count, corrected}
use Rattle.alf.specs.Refusals.{Comes}
use Rattle.trees.specs.Parts.{boolean_at}
use Rattle.basics.specs.declared.Refusal.{Refusal}
use Rattle.reader.specs.declared.Read.{Read}
use Rattle.reader.specs.Reads.{made}
use Rattle.reader.specs.Reading.{Gives, ReadsText}
use Rattle.reader.proofs.Unique.{read_complete}
use Rattle.writer.specs.Writing as writing
use Rattle.trace_format.specs.Format.{file_of}
use Rattle.trace_writer.specs.Writing as files
use Rattle.changes.specs.Call as changes
use Rattle.rewriting.specs.Lists.{alternatives_at, step_list, test_list, edge_list, operand_list}
use Rattle.contradictions.specs.Possible.{flag_list}
use Rattle.rewriting_calls.specs.Calls as rewriting
use Rattle.contradictions.specs.Calls as flagging
use Rattle.beginnings.specs.declared.times.Dated.{Dated}
use Rattle.matcher.specs.declared.tables.Total.{Total}
use Rattle.alternatives.specs.InMemory.{alternatives_of_lem}
use Rattle.beginnings.specs.Dated.{Dates, flags_on, times_on}
use Rattle.alf.specs.Beginnings.{is_given, time_of_lem}
use Rattle.matcher.specs.Tables as tables
use Rattle.timed_queue.specs.declared.queues.Queue.{Queue}
use Rattle.alternatives.specs.InMemory.{longest_of}
use Rattle.timed_queue.specs.TimedQueues.{Pushes}
use Rattle.row_calls.specs.Written.{RowState, RowValue, AllValues, RowAnswer, Tells}
use Rattle.basics.specs.Memory.{after, front}
use Rattle.row_calls.specs.Windows.{WindowAnswer, answer_over}
use Rattle.matching_calls.specs.Matching.{Finds, Counts, RowMatch, AllMatched, RowTotals, MatchesTree, TotalsTree}
use Rattle.matching_calls.specs.Matching.{expression, answers_on, tries_on, began_on}
use Rattle.update_calls.specs.Correcting.{Correction, rewritten}
use Rattle.queue_calls.specs.Pushing.{Takes, Push, PushesTree}
use Rattle.listed_acceptance.specs.Fitting.{ListedFits}
use Rattle.listed_calls.specs.Listed as list_calls
use Rattle.listed_calls.specs.Listed.{alternatives_in}
use Rattle.tree_listings.specs.TreeTexts.{pattern_listing, totals_line, ListsTree, LinesTree}
use Rattle.figures.specs.Delivering.{Delivers}
use Rattle.shut_out.proofs.Refusing.{GoodNames, names_pass}

-- Texts and files.
pub no_other_expression : {ρ : Rules} {names text : List ℕ} {sort : Sort} {x : Expression}
    {r : Result Read Refusal} → GoodNames names → length text ≤ 4096 → Gives ρ names text sort x
    → ReadsText ρ names text sort r → r ≡ Ok (made x)
no_other_expression {ρ} {names} g l v w = read_complete (names_pass names g) l v w

module _ {out out' : List ℕ} {m : ℕ} where
  pub no_other_text : {names tree : List ℕ} {sort : Sort} → writing.Writes names tree sort out out' (Ok m)
      → (m ≡ length (writing.text_at names tree))
      × (out' ≡ writing.text_at names tree ++ drop (length (writing.text_at names tree)) out)
  unfolding Comes after
  no_other_text w = (w.outcome.1, w.memory)

  pub no_other_file : {names times states : List ℕ} {n : ℕ} → files.Writes names times states n out out' (Ok m)
      → (m ≡ length (file_of names times states n)) × (out' ≡ front (file_of names times states n) out)
  unfolding Comes after
  no_other_file w = (w.outcome.1, w.memory)

  pub no_other_listing : {ρ : Rules} {k n : ℕ} {tree times states : List ℕ}
      → ListsTree ρ k n tree times states out out' (Ok m)
      → (m ≡ length (pattern_listing ρ k times states (expression ρ tree k)))
      × (out' ≡ front (pattern_listing ρ k times states (expression ρ tree k)) out)
  unfolding Comes after
  no_other_listing w = (w.comes.1, w.memory)

  pub no_other_totals_line : {ρ : Rules} {k n : ℕ} {tree states pattern : List ℕ}
      → LinesTree ρ k n tree states pattern out out' (Ok m)
      → (m ≡ length (totals_line ρ k n states pattern (expression ρ tree k)))
      × (out' ≡ front (totals_line ρ k n states pattern (expression ρ tree k)) out)
  unfolding Comes after
  no_other_totals_line w = (w.comes.1, w.memory)

  pub no_other_line : {text : List ℕ} → Delivers text out out' (Ok m)
      → (m ≡ length text) × (out' ≡ text ++ drop (length text) out)
  unfolding Comes after
  no_other_line w = (w.outcome.1, w.memory)

-- Rewriting.
module _ {ρ : Rules} {k : ℕ} {tree : List ℕ} {m : ℕ} where
  pub no_other_lists : {s t e o s' t' e' o' : List ℕ} → rewriting.Rewrites ρ k tree s t e o s' t' e' o' (Ok m)
      → (s' ≡ front (step_list (alternatives_at ρ tree k)) s) × (t' ≡ front (test_list (alternatives_at ρ tree k)) t)
      × (e' ≡ front (edge_list (alternatives_at ρ tree k)) e) × (o' ≡ front (operand_list (alternatives_at ρ tree k)) o)
  unfolding after
  no_other_lists w =
      let l = w.memory in (l.steps_are, l.tests_are, l.edges_are, l.operands_are)

  pub no_other_flags : {flags flags' : List ℕ} → flagging.Contradicts ρ k tree flags flags' (Ok m)
      → flags' ≡ front (flag_list k (flagging.own_at ρ tree k)) flags
  unfolding after
  no_other_flags w = w.memory

-- Rows.
pub no_other_changes : (k n : ℕ) (codes : List ℕ) (row : ℕ) (c : Changes)
    → changes.RowChanged k n codes row (Ok c)
    → (c.mask ≡ change_mask k codes row) × (c.many ≡ change_count k codes row)
unfolding changes.RowChanged
no_other_changes k n codes row c w = (w.1.changed, w.1.number)

module _ {k n : ℕ} {tree codes : List ℕ} where
  module _ {row : ℕ} where
    pub no_other_state : {ρ : Rules} {m : ℕ} → RowState ρ k n tree codes row (Ok m)
        → m ≡ state_at ρ k codes (boolean_at tree k (length tree)) row
    unfolding Comes
    no_other_state w = w.comes.1

    pub no_other_value : {ρ : Rules} {m : ℕ} → RowValue ρ k n tree codes row (Ok m)
        → m ≡ value_at ρ k codes (boolean_at tree k (length tree)) row
    unfolding Comes
    no_other_value w = w.comes.1

    pub no_other_answer : {ρ : Rules} {b : Answer} → RowAnswer ρ k n tree codes row (Ok b)
        → number_of b ≡ row_answer (state_at ρ k codes) (expression ρ tree k) row
    unfolding Tells
    no_other_answer w = w.comes.1

    pub no_other_match : {ρ : Rules} {times : List ℕ} {m : Dated} → RowMatch ρ k n tree times codes row (Ok m)
        → MatchesTree ρ k tree times codes row m.answer m.tries m.began
    unfolding Finds
    no_other_match w = w.comes.1

  pub no_other_on_window : {ρ : Rules} {a b : ℕ} {c : Answer} → WindowAnswer ρ k n tree codes a b (Ok c)
      → number_of c ≡ numbered (answer_over ρ k tree codes a b)
  unfolding Tells
  no_other_on_window w = w.comes.1

  pub no_other_values : {ρ : Rules} {out out' : List ℕ} {m : ℕ} → AllValues ρ k n tree codes out out' (Ok m)
      → out' ≡ listed 0 n (value_at ρ k codes (boolean_at tree k (length tree)))
  unfolding after
  no_other_values w = w.memory

  pub no_other_answers : {ρ : Rules} {times answers tried given began answers' tried' given' began' : List ℕ} {m : ℕ}
      → AllMatched ρ k n tree times codes answers tried given began answers' tried' given' began' (Ok m)
      → (answers' ≡ listed 0 n (answers_on ρ k tree codes)) × (tried' ≡ listed 0 n (tries_on ρ k tree codes))
      × (given' ≡ listed 0 n (λ i. is_given (began_on ρ k tree times codes i)))
      × (began' ≡ listed 0 n (λ i. time_of_lem (began_on ρ k tree times codes i)))
  unfolding after
  no_other_answers w = (w.answers_memory, w.tried_memory, w.given_memory, w.began_memory)

  pub no_other_totals : {ρ : Rules} {t : Total} → RowTotals ρ k n tree codes (Ok t)
      → TotalsTree ρ k n tree codes t.yes t.no t.unknown
  unfolding Counts
  no_other_totals w = w.comes.1

  pub no_other_correction : {ρ : Rules} {answers : List ℕ} {row : ℕ} {new codes' answers' : List ℕ} {m : ℕ}
      → Correction ρ k n tree codes answers row new codes' answers' (Ok m)
      → (codes' ≡ corrected k codes row new)
      × (answers' ≡ rewritten ρ k n tree answers row (corrected k codes row new))
  unfolding after
  no_other_correction w = (w.states_memory, w.answers_memory)

pub no_other_push : {ρ : Rules} {k : ℕ} {tree : List ℕ} {queue : Queue} {time : ℕ} {row : List ℕ} {queue' : Queue}
    {m : Dated} → Push ρ k tree queue time row (Ok m) queue'
    → PushesTree ρ k tree queue time row m.answer m.tries m.began queue'
unfolding Takes
no_other_push w = w.comes.1

-- Alternatives handed in.
module _ {k n : ℕ} {tree s t e o codes : List ℕ} where
  pub no_other_listed_match : {ρ : Rules} {times : List ℕ} {row : ℕ} {m : Dated}
      → list_calls.ListedMatch ρ k n tree s t e o codes times row (Ok m)
      → Dates (state_at ρ k codes) times (alternatives_in k n tree s t e o codes) row m.answer m.tries m.began
  unfolding Finds
  no_other_listed_match w = w.comes.1

  pub no_other_listed_answers : {ρ : Rules} {times answers tried given began answers' tried' given' began' : List ℕ}
      {m : ℕ}
      → list_calls.ListedAll ρ k n tree s t e o codes times answers tried given began answers' tried' given' began'
      (Ok m)
      → (answers' ≡ listed 0 n (answer_of (state_at ρ k codes) (alternatives_in k n tree s t e o codes)))
      × (tried' ≡ listed 0 n (tries (state_at ρ k codes) (alternatives_in k n tree s t e o codes)))
      × (given' ≡ listed 0 n (flags_on (state_at ρ k codes) times (alternatives_in k n tree s t e o codes)))
      × (began' ≡ listed 0 n (times_on (state_at ρ k codes) times (alternatives_in k n tree s t e o codes)))
  unfolding after
  no_other_listed_answers w = (w.answers_memory, w.tried_memory, w.given_memory, w.began_memory)

  pub no_other_listed_totals : {ρ : Rules} {z : Total} → list_calls.ListedTotals ρ k n tree s t e o codes (Ok z)
      → tables.TotalsOf (state_at ρ k codes) (alternatives_in k n tree s t e o codes) n z.yes z.no z.unknown
  unfolding Counts
  no_other_listed_totals w = w.comes.1

pub no_other_number_of_lists : {k : ℕ} {tree s t e o : List ℕ} {m : ℕ} → ListedFits k tree s t e o (Ok m)
    → m ≡ length s
unfolding Comes
no_other_number_of_lists w = w.comes.1

module _ {k : ℕ} {tree s t e o : List ℕ} {queue : Queue} {time : ℕ} {row : List ℕ} {queue' : Queue} where
  pub no_other_listed_push : {ρ : Rules} {m : Dated}
      → list_calls.ListedPush ρ k tree s t e o queue time row (Ok m) queue'
      → Pushes ρ k (alternatives_of_lem tree k s t e o) queue time row m.answer m.tries m.began queue'
  unfolding list_calls.Takes
  no_other_listed_push w = w.comes.1

  -- so what is pushed is kept, as long as K rows are not kept yet
  pub listed_stands_still : {ρ : Rules} {m : Dated}
      → list_calls.ListedPush ρ k tree s t e o queue time row (Ok m) queue'
      → queue.rows.kept.0 < longest_of (alternatives_of_lem tree k s t e o)
      → queue'.rows.kept.0 ≡ queue.rows.kept.0 → ⊥
  listed_stands_still w l same = omega (arith, (no_other_listed_push w).pushed.kept, l, same)
