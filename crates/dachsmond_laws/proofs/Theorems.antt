-- For each function of the library for C: any two results that its contract allows coincide, and so does the memory at
-- exit. Each is the inner call's own theorem, handed on. Names: the function's, and `-unique`.
use mathlib.Core.Path.{◌≡◌, sym, ◌∙◌}
use mathlib.Core.List.{List}
use Prim.Native.Nat.{ℕ}
use Rattle.alf.specs.declared.Rules.{Rules}
use Rattle.alf.specs.declared.Sort.{Sort}
use Rattle.timed_queue.specs.declared.queues.Queue as updates
use Rattle.reader.specs.Reading.{ReadsText}
use Rattle.reader.proofs.Unique.{read_unique}
use Rattle.writer.specs.Writing as writer
use Rattle.writer.proofs.Theorems as writer_laws
use Rattle.trace_reader.specs.Reading.{Reads}
use Rattle.trace_writer.specs.Writing as traces
use Rattle.trace_laws.proofs.RoundTrips as round_trips
use Rattle.changes.specs.Call.{RowChanged}
use Rattle.changes.proofs.Unique.{changes_unique}
use Rattle.row_calls.specs.Written.{RowState, RowValue, AllValues, RowAnswer}
use Rattle.row_calls.specs.Windows.{WindowAnswer}
use Rattle.call_laws.proofs.Unique.{window_unique}
use Rattle.matching_calls.specs.Matching.{RowMatch, AllMatched, RowTotals}
use Rattle.update_calls.specs.Correcting.{Correction}
use Rattle.call_laws.proofs.Unique.{state_unique, value_unique, values_unique, answer_unique, match_unique, all_unique}
use Rattle.call_laws.proofs.Unique.{totals_unique, correction_unique, push_unique}
use Rattle.rewriting_calls.specs.Calls.{Rewrites}
use Rattle.contradictions.specs.Calls.{Contradicts}
use Rattle.rewriting_calls.proofs.Theorems.{rewrites_unique}
use Rattle.contradictions.proofs.Reporting.{contradicts_unique}
use Rattle.telling.specs.declared.Told.{Told}
use Rattle.telling.specs.declared.Expression.{Expression}
use Rattle.telling.specs.declared.Trace.{Trace}
use Rattle.telling.specs.declared.Changed.{Changed}
use Rattle.telling.specs.declared.Answered.{Answered}
use Rattle.telling.specs.declared.Matched.{Matched}
use Rattle.telling.specs.declared.Counted.{Counted}
use Rattle.telling.specs.declared.Pushed.{Pushed}
use Rattle.telling.specs.Handing.{Hands, told, told_expression, told_trace, told_changes, told_answer}
use Rattle.telling.specs.Matching.{told_match, told_counts, Pushes, told_push}
use Rattle.telling.proofs.Unique.{from_both, hands_unique}

-- texts
pub read_expression_unique : {ρ : Rules} {names text : List ℕ} {sort : Sort} {r s : Expression}
    → Hands (ReadsText ρ names text sort) told_expression r → Hands (ReadsText ρ names text sort) told_expression s
    → r ≡ s
read_expression_unique x y = hands_unique (λ a b p q. read_unique p q) x y

pub write_expression_unique : {names tree : List ℕ} {sort : Sort} {out a b : List ℕ} {r s : Told}
    → Hands (writer.Writes names tree sort out a) told r → Hands (writer.Writes names tree sort out b) told s
    → (r ≡ s) × (a ≡ b)
write_expression_unique x y = (
  hands_unique (λ a b p q. (writer_laws.writes_unique p q).0) x y,
  from_both (λ a b p q. (writer_laws.writes_unique p q).1) x y,
)

-- trace files
pub read_trace_unique : (file names times states : List ℕ) {n t s n' t' s' : List ℕ} {r r' : Trace}
    → Hands (Reads file names times states n t s) told_trace r
    → Hands (Reads file names times states n' t' s') told_trace r'
    → (r ≡ r') × (n ≡ n') × (t ≡ t') × (s ≡ s')
read_trace_unique file names times states x y = (
  hands_unique (λ a b p q. (round_trips.reads_unique file names times states a b p q).answer) x y,
  from_both (λ a b p q. (round_trips.reads_unique file names times states a b p q).names_now) x y,
  from_both (λ a b p q. (round_trips.reads_unique file names times states a b p q).times_now) x y,
  from_both (λ a b p q. (round_trips.reads_unique file names times states a b p q).states_now) x y,
)

pub write_trace_unique : {names times states : List ℕ} {n : ℕ} {out a b : List ℕ} {r s : Told}
    → Hands (traces.Writes names times states n out a) told r
    → Hands (traces.Writes names times states n out b) told s
    → (r ≡ s) × (a ≡ b)
write_trace_unique x y = (
  hands_unique (λ a b p q. (round_trips.writes_unique p q).answer) x y,
  from_both (λ a b p q. (round_trips.writes_unique p q).memory) x y,
)

-- rows
pub changes_at_unique : (names n : ℕ) (states : List ℕ) (row : ℕ) {r s : Changed}
    → Hands (RowChanged names n states row) told_changes r → Hands (RowChanged names n states row) told_changes s → r ≡ s
changes_at_unique names n states row x y = hands_unique (changes_unique names n states row) x y

module _ {names n : ℕ} {tree states : List ℕ} where
  pub row_state_unique : {ρ : Rules} {row : ℕ} {r s : Told} → Hands (RowState ρ names n tree states row) told r
      → Hands (RowState ρ names n tree states row) told s → r ≡ s
  row_state_unique x y = hands_unique (λ a b p q. state_unique p q) x y

  pub row_value_unique : {ρ : Rules} {row : ℕ} {r s : Told} → Hands (RowValue ρ names n tree states row) told r
      → Hands (RowValue ρ names n tree states row) told s → r ≡ s
  row_value_unique x y = hands_unique (λ a b p q. value_unique p q) x y

  pub all_values_unique : {ρ : Rules} {out a b : List ℕ} {r s : Told}
      → Hands (AllValues ρ names n tree states out a) told r
      → Hands (AllValues ρ names n tree states out b) told s → (r ≡ s) × (a ≡ b)
  all_values_unique x y =
      (hands_unique (λ a b p q. (values_unique p q).0) x y, from_both (λ a b p q. (values_unique p q).1) x y)

  pub row_answer_unique : {ρ : Rules} {row : ℕ} {r s : Answered}
      → Hands (RowAnswer ρ names n tree states row) told_answer r
      → Hands (RowAnswer ρ names n tree states row) told_answer s → r ≡ s
  row_answer_unique x y = hands_unique (λ a b p q. answer_unique p q) x y

  pub window_answer_unique : {ρ : Rules} {from to : ℕ} {r s : Answered}
      → Hands (WindowAnswer ρ names n tree states from to) told_answer r
      → Hands (WindowAnswer ρ names n tree states from to) told_answer s → r ≡ s
  window_answer_unique x y = hands_unique (λ a b p q. window_unique p q) x y

  pub match_row_unique : {ρ : Rules} {times : List ℕ} {row : ℕ} {r s : Matched}
      → Hands (RowMatch ρ names n tree times states row) told_match r
      → Hands (RowMatch ρ names n tree times states row) told_match s → r ≡ s
  match_row_unique x y = hands_unique (λ a b p q. match_unique p q) x y

  pub match_all_unique : {ρ : Rules} {times answers tried given began a t g c b u h d : List ℕ} {r s : Told}
      → Hands (AllMatched ρ names n tree times states answers tried given began a t g c) told r
      → Hands (AllMatched ρ names n tree times states answers tried given began b u h d) told s
      → (r ≡ s) × (a ≡ b) × (t ≡ u) × (g ≡ h) × (c ≡ d)
  match_all_unique x y = (
    hands_unique (λ a b p q. (all_unique p q).0) x y,
    from_both (λ a b p q. (all_unique p q).1) x y,
    from_both (λ a b p q. (all_unique p q).2) x y,
    from_both (λ a b p q. (all_unique p q).3) x y,
    from_both (λ a b p q. (all_unique p q).4) x y,
  )

  pub counted_unique : {ρ : Rules} {r s : Counted} → Hands (RowTotals ρ names n tree states) told_counts r
      → Hands (RowTotals ρ names n tree states) told_counts s → r ≡ s
  counted_unique x y = hands_unique (λ a b p q. totals_unique p q) x y

  pub correct_unique : {ρ : Rules} {answers : List ℕ} {row : ℕ} {new a b c d : List ℕ} {r s : Told}
      → Hands (Correction ρ names n tree states answers row new a b) told r
      → Hands (Correction ρ names n tree states answers row new c d) told s
      → (r ≡ s) × (a ≡ c) × (b ≡ d)
  correct_unique x y = (
    hands_unique (λ a b p q. (correction_unique p q).0) x y,
    from_both (λ a b p q. (correction_unique p q).1) x y,
    from_both (λ a b p q. (correction_unique p q).2) x y,
  )

-- the queue is part of what is told
pub pushed_unique : {ρ : Rules} {names : ℕ} {tree : List ℕ} {queue : updates.Queue} {time : ℕ} {row : List ℕ}
    {r s : Pushed} → Hands (Pushes ρ names tree queue time row) told_push r
    → Hands (Pushes ρ names tree queue time row) told_push s → r ≡ s
pushed_unique x y =
    hands_unique
    (λ a b p q. let e = push_unique p q in λ i. record { told = e.0 i; queue = e.1 i }) x y

-- alternatives
module _ {ρ : Rules} {names : ℕ} {tree steps tests edges operands : List ℕ} where
  pub rewrite_unique : {a b c d a' b' c' d' : List ℕ} {r s : Told}
      → Hands (Rewrites ρ names tree steps tests edges operands a b c d) told r
      → Hands (Rewrites ρ names tree steps tests edges operands a' b' c' d') told s
      → (r ≡ s) × (a ≡ a') × (b ≡ b') × (c ≡ c') × (d ≡ d')
  rewrite_unique x y = (
    hands_unique (λ a b p q. (rewrites_unique ρ names tree steps tests edges operands p q).0) x y,
    from_both (λ a b p q. (rewrites_unique ρ names tree steps tests edges operands p q).1) x y,
    from_both (λ a b p q. (rewrites_unique ρ names tree steps tests edges operands p q).2) x y,
    from_both (λ a b p q. (rewrites_unique ρ names tree steps tests edges operands p q).3) x y,
    from_both (λ a b p q. (rewrites_unique ρ names tree steps tests edges operands p q).4) x y,
  )

pub contradictions_unique : {ρ : Rules} {names : ℕ} {tree flags a b : List ℕ} {r s : Told}
    → Hands (Contradicts ρ names tree flags a) told r → Hands (Contradicts ρ names tree flags b) told s
    → (r ≡ s) × (a ≡ b)
contradictions_unique {ρ} {names} {tree} {flags} x y = (
  hands_unique (λ a b p q. (contradicts_unique ρ names tree flags p q).0) x y,
  from_both (λ a b p q. (contradicts_unique ρ names tree flags p q).1) x y,
)

-- the version, which takes nothing
pub version_unique : (r s : ℕ) → r ≡ 262400 → s ≡ 262400 → r ≡ s
version_unique r s x y = x ∙ sym y
