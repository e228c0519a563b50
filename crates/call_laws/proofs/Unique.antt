-- Any two results that the contract of a call allows coincide, and so does the memory lent at exit, refused or not.
--   state_unique, value_unique, values_unique, answer_unique      as written
--   match_unique, all_unique, totals_unique                       by alternatives
--   correction_unique, push_unique
--   verdict_unique                                                what the functions that check tell
--   codes_fixed, row_fixed, timed_fixed, timed_row_fixed, push_fixed, correction_fixed     each row of an order fixes
--   its place
--   outcome_unique, after_unique, finds_unique, counts_unique     the laws behind them
use Rattle.std.specs.Prelude.{Err, Ok}
use mathlib.Core.Path.{◌≡◌, refl, ap, sym, ◌∙◌}
use mathlib.Core.List.{List}
use Prim.Native.Nat.{ℕ}
use Rattle.alf.specs.declared.Rules.{Rules}
use Rattle.alf.specs.declared.Answer.{Answer}
use Rattle.alf.specs.Beginnings.{Began}
use Rattle.basics.specs.Refusing.{Outcome}
use Rattle.alf.specs.Refusals.{Order, Comes}
use Rattle.alf.proofs.Answers.{number_same}
use Rattle.queue_calls.proofs.ByAlternatives.{tree_pushed}
use Rattle.alf.proofs.Outcomes.{AllFixed, at_fixed, first_fixed, refused_passed, refused_by_unique, comes_unique}
use Rattle.timed_queue.specs.declared.queues.Queue.{Queue}
use Rattle.timed_queue.proofs.Unique.{pushes_unique}
use Rattle.judging.specs.Orders.{Verdict}
use Rattle.row_calls.specs.Written.{Answering}
use Rattle.matching_calls.specs.Matching.{Matching}
use Rattle.matching_calls.specs.Matching.{Counting}
use Rattle.judging.specs.Orders.{order, codes, codes_row, codes_correction, Judged, passes, refuses}
use Rattle.judging.specs.TimedOrders.{timed_codes, timed_codes_row}
use Rattle.row_calls.specs.Written.{RowState, RowValue, AllValues, Tells, RowAnswer}
use Rattle.matching_calls.specs.Matching.{Finds, RowMatch, AllMatched, Counts, RowTotals}
use Rattle.update_calls.specs.Correcting.{Correction}
use Rattle.queue_calls.specs.Pushing.{row_and_time, push_order, Takes, Push}
use Prim.Native.Nat.{ℕ, max}
use mathlib.Core.Path.{◌≡◌}
use Rattle.row_calls.specs.Written.{Tells}
use Rattle.row_calls.specs.Windows.{WindowAnswer}
use Rattle.basics.proofs.Memory.{after_unique}

-- each row of an order fixes its place
pub codes_fixed : (P Q : Type 0) (states : List ℕ) → AllFixed (order P Q (codes states))
codes_fixed P Q states = (at_fixed _ _, (at_fixed _ _, (first_fixed _, tt)))

pub row_fixed : (P Q : Type 0) (states : List ℕ) (n row : ℕ) → AllFixed (order P Q (codes_row states n row))
row_fixed P Q states n row = (at_fixed _ _, (at_fixed _ _, (first_fixed _, (at_fixed _ _, tt))))

pub timed_fixed : (P Q : Type 0) (states times : List ℕ) → AllFixed (order P Q (timed_codes states times))
timed_fixed P Q states times = (at_fixed _ _, (at_fixed _ _, (first_fixed _, (first_fixed _, tt))))

pub timed_row_fixed : (P Q : Type 0) (states times : List ℕ) (n row : ℕ)
    → AllFixed (order P Q (timed_codes_row states times n row))
timed_row_fixed P Q states times n row =
    (at_fixed _ _, (at_fixed _ _, (first_fixed _, (first_fixed _, (at_fixed _ _, tt)))))

pub push_fixed : (P Q : Type 0) (q : Queue) (time : ℕ) (row : List ℕ) → AllFixed (order P Q (row_and_time q time row))
push_fixed P Q q time row = (at_fixed _ _, (at_fixed _ _, (first_fixed _, (at_fixed _ _, tt))))

pub correction_fixed : (P Q : Type 0) (states new : List ℕ) (n row : ℕ)
    → AllFixed (order P Q (codes_correction states new n row))
correction_fixed P Q states new n row =
    (at_fixed _ _, (at_fixed _ _, (first_fixed _, (first_fixed _, (at_fixed _ _, tt)))))

-- one outcome, with a count that is fixed
pub outcome_unique : (o : Order) (k : ℕ) → AllFixed o → (a b : Outcome) → Comes o (λ j. j ≡ k) a
    → Comes o (λ j. j ≡ k) b
    → a ≡ b
outcome_unique o k f a b x y = comes_unique o (λ j. j ≡ k) f (λ i j p q. p ∙ sym q) a b x y

-- one verdict
pub verdict_unique : (o : Order) {facts : Type 0} → AllFixed o → {a b : Verdict} → Judged o facts a
    → Judged o facts b
    → a ≡ b
verdict_unique o f (passes p x) (passes q y) = refl
verdict_unique o f (passes p x) (refuses s) = absurd (refused_passed o _ _ p s.by)
verdict_unique o f (refuses r) (passes q y) = absurd (refused_passed o _ _ q r.by)
verdict_unique o f (refuses r) (refuses s) =
    ap Err (refused_by_unique o f r s)

module _ {names n : ℕ} {tree states : List ℕ} where
  pub state_unique : {ρ : Rules} {row : ℕ} {a b : Outcome} → RowState ρ names n tree states row a
      → RowState ρ names n tree states row b
      → a ≡ b
  state_unique {ρ} {row} x y =
      outcome_unique _ _ (row_fixed _ _ states n row) _ _ x.comes y.comes

  pub value_unique : {ρ : Rules} {row : ℕ} {a b : Outcome} → RowValue ρ names n tree states row a
      → RowValue ρ names n tree states row b
      → a ≡ b
  value_unique {ρ} {row} x y =
      outcome_unique _ _ (row_fixed _ _ states n row) _ _ x.comes y.comes

  pub values_unique : {ρ : Rules} {out out' out'' : List ℕ} {a b : Outcome} → AllValues ρ names n tree states out out' a
      → AllValues ρ names n tree states out out'' b → (a ≡ b) × (out' ≡ out'')
  values_unique {ρ} {out} x y =
      let e = outcome_unique _ _ (codes_fixed _ _ states) _ _ x.comes y.comes in
      (e, after_unique _ out e x.memory y.memory)

pub tells_unique : (o : Order) (a : ℕ) → AllFixed o → (x y : Answering) → Tells o a x → Tells o a y → x ≡ y
unfolding Tells
tells_unique o a f (Ok b) (Ok c) x y =
    ap Ok (number_same b c (x.1 ∙ sym y.1))
tells_unique o a f (Ok b) (Err s) x y = absurd (refused_passed o _ _ x.0 y.by)
tells_unique o a f (Err r) (Ok c) x y = absurd (refused_passed o _ _ y.0 x.by)
tells_unique o a f (Err r) (Err s) x y =
    ap Err (refused_by_unique o f x y)

pub finds_unique : (o : Order) (right : Answer → ℕ → Began → Type 0) → AllFixed o
    → ((a b : Answer) (t u : ℕ) (c d : Began) → right a t c → right b u d → (a ≡ b) × (t ≡ u) × (c ≡ d))
    → (x y : Matching) → Finds o right x → Finds o right y → x ≡ y
unfolding Finds
finds_unique o right f one (Ok m) (Ok k) x y =
    let e = one _ _ _ _ _ _ x.1 y.1 in
    λ i. Ok (record { answer = e.0 i; tries = e.1 i; began = e.2 i })
finds_unique o right f one (Ok m) (Err s) x y = absurd (refused_passed o _ _ x.0 y.by)
finds_unique o right f one (Err r) (Ok k) x y = absurd (refused_passed o _ _ y.0 x.by)
finds_unique o right f one (Err r) (Err s) x y =
    ap Err (refused_by_unique o f x y)

pub counts_unique : (o : Order) (right : ℕ → ℕ → ℕ → Type 0) → AllFixed o
    → ((a b c x y z : ℕ) → right a b c → right x y z → (a ≡ x) × (b ≡ y) × (c ≡ z))
    → (x y : Counting) → Counts o right x → Counts o right y → x ≡ y
unfolding Counts
counts_unique o right f one (Ok t) (Ok u) x y =
    let e = one _ _ _ _ _ _ x.1 y.1 in
    λ i. Ok (record { yes = e.0 i; no = e.1 i; unknown = e.2 i })
counts_unique o right f one (Ok t) (Err s) x y = absurd (refused_passed o _ _ x.0 y.by)
counts_unique o right f one (Err r) (Ok u) x y = absurd (refused_passed o _ _ y.0 x.by)
counts_unique o right f one (Err r) (Err s) x y =
    ap Err (refused_by_unique o f x y)

module _ {names n : ℕ} {tree states : List ℕ} where
  pub answer_unique : {ρ : Rules} {row : ℕ} {a b : Answering} → RowAnswer ρ names n tree states row a
      → RowAnswer ρ names n tree states row b
      → a ≡ b
  answer_unique {ρ} {row} x y =
      tells_unique _ _ (row_fixed _ _ states n row) _ _ x.comes y.comes

  pub match_unique : {ρ : Rules} {times : List ℕ} {row : ℕ} {a b : Matching} → RowMatch ρ names n tree times states
      row a
      → RowMatch ρ names n tree times states row b
      → a ≡ b
  match_unique {ρ} {times} {row} x y =
      finds_unique _ _ (timed_row_fixed _ _ states times n row)
      (λ a b t u c d p q.
      (number_same a b (p.is ∙ sym q.is), p.count ∙ sym q.count, p.start ∙ sym q.start)) _ _
      x.comes y.comes

  pub all_unique : {ρ : Rules} {times answers tried given began a t g s b u h r : List ℕ} {x y : Outcome}
      → AllMatched ρ names n tree times states answers tried given began a t g s x
      → AllMatched ρ names n tree times states answers tried given began b u h r y
      → (x ≡ y) × (a ≡ b) × (t ≡ u) × (g ≡ h) × (s ≡ r)
  all_unique {ρ} {times} {answers} {tried} {given} {began} x y =
      let e = outcome_unique _ _ (timed_fixed _ _ states times) _ _ x.comes y.comes in (
        e,
        after_unique _ answers e x.answers_memory y.answers_memory,
        after_unique _ tried e x.tried_memory y.tried_memory,
        after_unique _ given e x.given_memory y.given_memory,
        after_unique _ began e x.began_memory y.began_memory,
      )

  pub totals_unique : {ρ : Rules} {a b : Counting} → RowTotals ρ names n tree states a
      → RowTotals ρ names n tree states b
      → a ≡ b
  totals_unique x y =
      counts_unique _ _ (codes_fixed _ _ states)
      (λ a b c d e f p q.
      (p.yeses ∙ sym q.yeses, p.noes ∙ sym q.noes, p.unknowns ∙ sym q.unknowns)) _ _
      x.comes y.comes

  pub correction_unique : {ρ : Rules} {answers : List ℕ} {row : ℕ} {new s a t b : List ℕ} {x y : Outcome}
      → Correction ρ names n tree states answers row new s a x → Correction ρ names n tree states answers row new t b y
      → (x ≡ y) × (s ≡ t) × (a ≡ b)
  correction_unique {ρ} {answers} {row} {new} x y =
      let e = outcome_unique _ _ (correction_fixed _ _ states new n row) _ _ x.comes y.comes in (
        e,
        after_unique _ states e x.states_memory y.states_memory,
        after_unique _ answers e x.answers_memory y.answers_memory,
      )

-- what a push tells, and the queue afterwards
takes_unique : (ρ : Rules) (names : ℕ) (tree : List ℕ) (q : Queue) (time : ℕ) (row : List ℕ) (x y : Matching)
    (p r : Queue) → Takes ρ names tree q time row x p → Takes ρ names tree q time row y r → (x ≡ y) × (p ≡ r)
unfolding Takes
takes_unique ρ names tree q time row (Ok m) (Ok k) p r a b =
    let e = pushes_unique (tree_pushed a.1) (tree_pushed b.1) in
    (λ i. Ok (record { answer = e.0 i; tries = e.1 i; began = e.2 i }), e.3)
takes_unique ρ names tree q time row (Ok m) (Err s) p r a b =
    absurd (refused_passed (push_order ρ names tree q time row) _ _ a.0 b.0.by)
takes_unique ρ names tree q time row (Err s) (Ok k) p r a b =
    absurd (refused_passed (push_order ρ names tree q time row) _ _ b.0 a.0.by)
takes_unique ρ names tree q time row (Err s) (Err t) p r a b =
    let e = refused_by_unique (push_order ρ names tree q time row) (push_fixed _ _ q time row) a.0 b.0 in
    (ap Err e, a.1 ∙ sym b.1)

pub push_unique : {ρ : Rules} {names : ℕ} {tree : List ℕ} {q : Queue} {time : ℕ} {row : List ℕ} {x y : Matching}
    {p r : Queue} → Push ρ names tree q time row x p → Push ρ names tree q time row y r → (x ≡ y) × (p ≡ r)
push_unique a b = takes_unique _ _ _ _ _ _ _ _ _ _ a.comes b.comes

pub window_unique : {ρ : Rules} {names n : ℕ} {tree states : List ℕ} {a b : ℕ} {x y : Answering}
    → WindowAnswer ρ names n tree states a b x → WindowAnswer ρ names n tree states a b y → x ≡ y
window_unique {ρ} {n = n} {states = states} {a = a} {b = b} p q =
    tells_unique _ _ (row_fixed _ _ states n (max a b)) _ _ p.comes q.comes
