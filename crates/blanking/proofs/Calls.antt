-- Document 02, [11], over the contracts of the calls alone. Two calls are done, on traces that agree in the last K+1
-- rows on the pins that the tree's expression names as written. Then they tell the same answer and the same number
-- tried. For any rules, times and numbers of rows.
--   row_answer_lem, match_row_lem, match_all, push     by a tree
--   totals                                     the totals of a trace and of the overwritten one
--   sent_row                                   a row of a trace, and the last row of what is sent for it
--   listed_match_row, listed_match_all, listed_totals, listed_push     by alternatives handed in
use Rattle.std.specs.Prelude.{Ok}
use Prim.Native.Nat.{ℕ, ◌<◌, min}
use native.Mathlib.Nat.{zero-add}
use mathlib.Core.Path.{◌≡◌, ap, sym, ◌∙◌}
use mathlib.Core.Bool.{Bool, true}
use mathlib.Core.List.{List}
use lib.ListN.{length, get_or}
use Rattle.basics.specs.Memory.{after}
use Rattle.alf.specs.Refusals.{Comes}
use Rattle.basics.specs.Words as listed_words
use Rattle.basics.proofs.Listed.{listed_at}
use Rattle.alf.specs.declared.Rules.{Rules}
use Rattle.alf.specs.declared.Answer.{Answer}
use Rattle.alf.specs.Values.{state_at}
use Rattle.alf.specs.Alternatives.{steps_of, answer_of, tries}
use Rattle.alf.proofs.Answers.{number_same}
use Rattle.alternatives.specs.InMemory.{alternatives_of_lem, longest_of}
use Rattle.beginnings.specs.declared.times.Dated.{Dated}
use Rattle.queue.specs.Queues.{trace_of}
use Rattle.timed_queue.specs.declared.queues.Queue.{Queue}
use Rattle.row_calls.specs.Written.{Tells, RowAnswer}
use Rattle.matching_calls.specs.Matching.{expression, answers_on, tries_on, Finds, RowMatch, AllMatched}
use Rattle.matching_calls.specs.Matching.{Counts, RowTotals}
use Rattle.matcher.specs.declared.tables.Total.{Total}
use Rattle.trees.specs.Parts.{vector_at}
use Rattle.queue_calls.specs.Pushing.{Takes, Push}
use Rattle.listed_calls.specs.Listed as listed
use Rattle.listed_calls.specs.Listed.{ListedMatch, ListedAll, ListedTotals, ListedPush}
use Rattle.named_pins.specs.Pins.{names_in, names_of}
use Rattle.blank_calls.specs.Overwritten.{blanked}
use Rattle.blanking.specs.Pins.{SamePins, sent}
use Rattle.blanking.proofs.FilledNames.{meant_named}
use Rattle.blanking.proofs.ListedSteps.{passed_step}
use Rattle.blanking.proofs.PinsAlone.{fewer_pins, pins_answer, pins_tries, lists_answer, lists_tries}
use Rattle.blanking.proofs.Blanking.{sent_same, blanked_totals, blanked_lists}

-- an entry of a list from a rule
entry : (n i : ℕ) (f : ℕ → ℕ) → i < n → get_or (listed_words.listed 0 n f) i 0 ≡ f i
entry n i f h = listed_at 0 n i f 0 h ∙ ap f (zero-add i)

module _ (ρ : Rules) (k : ℕ) (tree : List ℕ) where
  -- two traces agree on the pins that the tree's expression names
  abbrev pub Alike : List ℕ → List ℕ → ℕ → ℕ → Type 0
  Alike states states' i j =
      SamePins (names_in (vector_at tree k (length tree))) (steps_of (expression ρ tree k)) k states states' i j

  module _ {states states' : List ℕ} {i j : ℕ} (s : Alike states states' i j) where
    read_alike : SamePins (names_in (expression ρ tree k)) (steps_of (expression ρ tree k)) k states states' i j
    read_alike = fewer_pins (meant_named ρ (vector_at tree k (length tree))) s

    answers : answers_on ρ k tree states i ≡ answers_on ρ k tree states' j
    answers = pins_answer ρ k states states' i j (expression ρ tree k) read_alike

    counts : tries_on ρ k tree states i ≡ tries_on ρ k tree states' j
    counts = pins_tries ρ k states states' i j (expression ρ tree k) read_alike

    pub row_answer_lem : {n n' : ℕ} {a b : Answer} → RowAnswer ρ k n tree states i (Ok a)
        → RowAnswer ρ k n' tree states' j (Ok b) → a ≡ b
    unfolding Tells
    row_answer_lem {a = a} {b = b} x y = number_same a b (x.comes.1 ∙ answers ∙ sym y.comes.1)

    pub match_row_lem : {n n' : ℕ} {times times' : List ℕ} {m m' : Dated} → RowMatch ρ k n tree times states i (Ok m)
        → RowMatch ρ k n' tree times' states' j (Ok m')
        → (m.answer ≡ m'.answer) × (m.tries ≡ m'.tries)
    unfolding Finds
    match_row_lem x y = (
      number_same _ _ (x.comes.1.is ∙ answers ∙ sym y.comes.1.is),
      x.comes.1.count ∙ counts ∙ sym y.comes.1.count,
    )

    -- entry i of one pair of lists, entry j of the other
    module _ {n n' : ℕ} (l : i < n) (l' : j < n') {times a t g b a₁ t₁ g₁ b₁ times' a' t' g' b' a₂ t₂ g₂ b₂ : List ℕ}
        {m m' : ℕ} (x : AllMatched ρ k n tree times states a t g b a₁ t₁ g₁ b₁ (Ok m))
        (y : AllMatched ρ k n' tree times' states' a' t' g' b' a₂ t₂ g₂ b₂ (Ok m')) where
      pub match_all : (get_or a₁ i 0 ≡ get_or a₂ j 0) × (get_or t₁ i 0 ≡ get_or t₂ j 0)
      unfolding after
      match_all = (
        ap (λ (z : List ℕ). get_or z i 0) x.answers_memory ∙ entry n i (answers_on ρ k tree states) l ∙ answers
            ∙ sym (entry n' j (answers_on ρ k tree states') l')
            ∙ sym (ap (λ (z : List ℕ). get_or z j 0) y.answers_memory),
        ap (λ (z : List ℕ). get_or z i 0) x.tried_memory ∙ entry n i (tries_on ρ k tree states) l ∙ counts
            ∙ sym (entry n' j (tries_on ρ k tree states') l')
            ∙ sym (ap (λ (z : List ℕ). get_or z j 0) y.tried_memory),
      )

  -- what two queues keep, with the rows that are pushed
  module _ {q q' : Queue} {row row' : List ℕ}
      (s : Alike (trace_of k q.rows row) (trace_of k q'.rows row') q.rows.kept.0 q'.rows.kept.0) where
    pub push : {time time' : ℕ} {p p' : Queue} {m m' : Dated} → Push ρ k tree q time row (Ok m) p
        → Push ρ k tree q' time' row' (Ok m') p'
        → (m.answer ≡ m'.answer) × (m.tries ≡ m'.tries)
    unfolding Takes
    push x y = (
      number_same _ _ (x.comes.1.matched.is ∙ answers s ∙ sym y.comes.1.matched.is),
      x.comes.1.matched.count ∙ counts s ∙ sym y.comes.1.matched.count,
    )

  -- the totals, so the line of the table, of a trace and of the trace in which every pin outside some is overwritten
  module _ (pins : ℕ → Bool) (named : (n : ℕ) → names_in (vector_at tree k (length tree)) n ≡ true → pins n ≡ true)
      (below : (n : ℕ) → pins n ≡ true → n < k) (other : ℕ → ℕ → ℕ) where
    pub totals : {n : ℕ} {states : List ℕ} {t t' : Total} → RowTotals ρ k n tree states (Ok t)
        → RowTotals ρ k n tree (blanked pins other k n states) (Ok t')
        → (t.yes ≡ t'.yes) × (t.no ≡ t'.no) × (t.unknown ≡ t'.unknown)
    unfolding Counts
    totals {n} {states} x y =
        let same = blanked_totals ρ k (vector_at tree k (length tree)) pins named below other states n in (
          x.comes.1.yeses ∙ same 1 ∙ sym y.comes.1.yeses,
          x.comes.1.noes ∙ same 0 ∙ sym y.comes.1.noes,
          x.comes.1.unknowns ∙ same 2 ∙ sym y.comes.1.unknowns,
        )

    -- row i of a trace, and the last row of what is sent for it
    pub sent_row : {n n' i : ℕ} {times times' states : List ℕ} {m m' : Dated}
        → RowMatch ρ k n tree times states i (Ok m)
        → RowMatch ρ k n' tree times' (sent pins other (steps_of (expression ρ tree k)) k i states)
        (min i (steps_of (expression ρ tree k))) (Ok m')
        → (m.answer ≡ m'.answer) × (m.tries ≡ m'.tries)
    sent_row {i = i} {states = states} x y =
        match_row_lem (fewer_pins named (sent_same pins other k states below (steps_of (expression ρ tree k)) i)) x y

-- alternatives handed in
module _ (ρ : Rules) (k : ℕ) (tree steps tests edges operands : List ℕ) where
  abbrev pub ListsAlike : List ℕ → List ℕ → ℕ → ℕ → Type 0
  ListsAlike states states' i j =
      SamePins (names_of (alternatives_of_lem tree k steps tests edges operands))
      (longest_of (alternatives_of_lem tree k steps tests edges operands)) k states states' i j

  pub listed_match_row : {states states' : List ℕ} {i j : ℕ} → ListsAlike states states' i j
      → {n n' : ℕ} {times times' : List ℕ} {m m' : Dated}
      → ListedMatch ρ k n tree steps tests edges operands states times i (Ok m)
      → ListedMatch ρ k n' tree steps tests edges operands states' times' j (Ok m')
      → (m.answer ≡ m'.answer) × (m.tries ≡ m'.tries)
  unfolding Finds
  listed_match_row {states} {states'} {i} {j} s x y =
      let some = passed_step k tree steps tests edges operands _ _ (λ a. a) x.comes.0 in
      let xs = alternatives_of_lem tree k steps tests edges operands in (
        number_same _ _
            (x.comes.1.matches.is ∙ lists_answer ρ k states states' i j xs some s
            ∙ sym y.comes.1.matches.is),
        x.comes.1.matches.count ∙ lists_tries ρ k states states' i j xs some s
            ∙ sym y.comes.1.matches.count,
      )

  -- entry i of one pair of lists, entry j of the other
  pub listed_match_all : {states states' : List ℕ} {i j : ℕ} → ListsAlike states states' i j
      → {n n' : ℕ} → i < n → j < n'
      → {times a t g b a₁ t₁ g₁ b₁ times' a' t' g' b' a₂ t₂ g₂ b₂ : List ℕ} {m m' : ℕ}
      → ListedAll ρ k n tree steps tests edges operands states times a t g b a₁ t₁ g₁ b₁ (Ok m)
      → ListedAll ρ k n' tree steps tests edges operands states' times' a' t' g' b' a₂ t₂ g₂ b₂ (Ok m')
      → (get_or a₁ i 0 ≡ get_or a₂ j 0) × (get_or t₁ i 0 ≡ get_or t₂ j 0)
  unfolding after Comes
  listed_match_all {states} {states'} {i} {j} s {n} {n'} l l' x y =
      let some = passed_step k tree steps tests edges operands _ _ (λ a. a) x.comes.0 in
      let xs = alternatives_of_lem tree k steps tests edges operands in
      let st = state_at ρ k states in
      let st' = state_at ρ k states' in (
        ap (λ (z : List ℕ). get_or z i 0) x.answers_memory ∙ entry n i (answer_of st xs) l
            ∙ lists_answer ρ k states states' i j xs some s
            ∙ sym (ap (λ (z : List ℕ). get_or z j 0) y.answers_memory ∙ entry n' j (answer_of st' xs) l'),
        ap (λ (z : List ℕ). get_or z i 0) x.tried_memory ∙ entry n i (tries st xs) l
            ∙ lists_tries ρ k states states' i j xs some s
            ∙ sym (ap (λ (z : List ℕ). get_or z j 0) y.tried_memory ∙ entry n' j (tries st' xs) l'),
      )

  -- the totals of a trace and of the trace in which every pin outside some is overwritten
  pub listed_totals : (pins : ℕ → Bool)
      → ((n : ℕ) → names_of (alternatives_of_lem tree k steps tests edges operands) n ≡ true → pins n ≡ true)
      → ((n : ℕ) → pins n ≡ true → n < k) → (other : ℕ → ℕ → ℕ) {n : ℕ} {states : List ℕ} {t t' : Total}
      → ListedTotals ρ k n tree steps tests edges operands states (Ok t)
      → ListedTotals ρ k n tree steps tests edges operands (blanked pins other k n states) (Ok t')
      → (t.yes ≡ t'.yes) × (t.no ≡ t'.no) × (t.unknown ≡ t'.unknown)
  unfolding Counts
  listed_totals pins named below other {n} {states} x y =
      let some = passed_step k tree steps tests edges operands _ _ (λ a. a) x.comes.0 in
      let xs = alternatives_of_lem tree k steps tests edges operands in
      let same = blanked_lists ρ k xs some pins named below other states n in (
        x.comes.1.yeses ∙ same 1 ∙ sym y.comes.1.yeses,
        x.comes.1.noes ∙ same 0 ∙ sym y.comes.1.noes,
        x.comes.1.unknowns ∙ same 2 ∙ sym y.comes.1.unknowns,
      )

  pub listed_push : {q q' : Queue} {row row' : List ℕ}
      → ListsAlike (trace_of k q.rows row) (trace_of k q'.rows row') q.rows.kept.0 q'.rows.kept.0
      → {time time' : ℕ} {p p' : Queue} {m m' : Dated}
      → ListedPush ρ k tree steps tests edges operands q time row (Ok m) p
      → ListedPush ρ k tree steps tests edges operands q' time' row' (Ok m') p'
      → (m.answer ≡ m'.answer) × (m.tries ≡ m'.tries)
  unfolding listed.Takes
  listed_push {q} {q'} {row} {row'} s x y =
      let some = passed_step k tree steps tests edges operands _ _ (λ h. h.accepted) x.comes.0 in
      let xs = alternatives_of_lem tree k steps tests edges operands in
      let i = q.rows.kept.0 in
      let j = q'.rows.kept.0 in
      let a = trace_of k q.rows row in
      let b = trace_of k q'.rows row' in (
        number_same _ _
            (x.comes.1.pushed.matched.is ∙ lists_answer ρ k a b i j xs some s
            ∙ sym y.comes.1.pushed.matched.is),
        x.comes.1.pushed.matched.count ∙ lists_tries ρ k a b i j xs some s
            ∙ sym y.comes.1.pushed.matched.count,
      )
