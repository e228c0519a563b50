-- The queue answers at push i what the document defines for row i of the trace fed so far, and tries as many
-- alternatives, for any feed of any length.
--   keeps              before push i the queue keeps the last K of the i rows fed, or all
--   near               what is kept with the row pushed agrees with the last rows fed
--   queue_answers      push i's answer and number tried are row i's
--   queue_windows      of a vector expression, push i's answer is the greatest over the windows that end at row i
use mathlib.Core.Path.{◌≡◌, ap, sym, ◌∙◌, fun_ext}
use mathlib.Core.List.{List, [], ◌∷◌}
use Prim.Native.Nat.{ℕ, zero, suc, ◌+◌, ◌-◌, ◌*◌, ◌<◌, ◌≤◌, min}
use native.Mathlib.Numerals.{add-one}
use native.Mathlib.Nat.{zero-mul}
use native.Mathlib.Omega.{arith}
use lib.ListN.{length, take, drop}
use lib.Seq.{drop-nil}
use Rattle.alf.specs.declared.Rules.{Rules}
use Rattle.alf.specs.declared.Answer.{Answer}
use Rattle.alf.specs.Expressions.{Boolean, Vector}
use Rattle.alf.specs.Windows.{row_answer}
use Rattle.alf.specs.Answers.{number_of}
use Rattle.alf.specs.Values.{state, row_of, state_at}
use Rattle.alf.specs.Alternatives.{Test, test, Alternative, alternatives}
use Rattle.basics.proofs.AllEntries.{All, none, more}
use Rattle.alf.proofs.Conditions.{AsksTest, Asks}
use Rattle.alf.proofs.Nearness.{Near, answers_near, tries_near}
use Rattle.matcher.specs.Answers.{Matches}
use Rattle.matcher.proofs.Agreement.{matches_windows}
use Rattle.queue.specs.declared.queues.Queue.{Queue}
use Rattle.alternatives.specs.InMemory.{longest_of}
use Rattle.queue.specs.Queues.{held_of, trace_of, last_rows, stored, fed, Feed}
use Rattle.alternatives.proofs.Longest.{longest_within}
use Rattle.queue.proofs.LastRows.{fed_length, last_length, last_push, last_again, drop_row, held_stored}

-- nothing is asked of the operands
abbrev pub Anything : Boolean → Type 0
Anything c = Unit {0}

tests_any : (s : List Test) → All (AsksTest Anything) s
tests_any [] = none
tests_any (test e c ∷ s) = more {x = test e c} tt (tests_any s)

steps_any : (x : Alternative) → Asks Anything x
steps_any [] = none
steps_any (s ∷ x) = more (tests_any s) (steps_any x)

pub any_asks : (xs : List Alternative) → All (Asks Anything) xs
any_asks [] = none
any_asks (x ∷ xs) = more (steps_any x) (any_asks xs)

module _ {ρ : Rules} {names : ℕ} {xs : List Alternative} {n : ℕ} {rows : ℕ → List ℕ} {queues : ℕ → Queue}
    {answers : ℕ → Answer}
    {counts : ℕ → ℕ} (f : Feed ρ names xs n rows queues answers counts) where
  abbrev K : ℕ
  K = longest_of xs

  pub record Kept (i : ℕ) : Type 0 where
    pub number : (queues i).kept.0 ≡ min i K
    pub held : held_of names (queues i) ≡ last_rows names K i (fed rows i)

  fed_whole : (i : ℕ) → i ≤ n → length (fed rows i) ≡ i * names
  fed_whole i h = fed_length names rows i (λ j l. f.full j (omega arith))

  -- what is kept with the row pushed are the last rows fed
  trace_is : (i : ℕ) → i < n → Kept i
      → trace_of names (queues i) (rows i) ≡ drop ((i - K) * names) (fed rows (suc i))
  unfolding fed
  trace_is i l k = rw k.held (last_push names K i (fed rows i) (rows i) (fed_whole i (omega arith)))

  kept_next : (i : ℕ) → i < n → Kept i → Kept (suc i)
  kept_next i l k =
      let p = f.pushes i l in
      let m : (queues (suc i)).kept.0 ≡ min (suc i) K = omega (arith, p.kept, k.number) in
      let t = fed rows (suc i) in
      let e =
      ap (last_rows names K ((queues i).kept.0 + 1)) (trace_is i l k)
      ∙ ap (λ (j : ℕ). last_rows names K (j + 1) (drop ((i - K) * names) t)) k.number
      ∙ last_again names K i t
      ∙ ap (λ (j : ℕ). last_rows names K j t) (add-one i) in
      let w = last_length names K (suc i) t (fed_whole (suc i) l) ∙ ap (λ (j : ℕ). j * names) (sym m) in
      record {
        number = m;
        held =
            ap (take ((queues (suc i)).kept.0 * names)) (p.states ∙ ap stored e)
            ∙ held_stored (last_rows names K (suc i) t) ((queues (suc i)).kept.0 * names) w;
      }

  pub keeps : (i : ℕ) → i ≤ n → Kept i
  unfolding fed last_rows
  keeps zero h =
      record {
        number = omega (arith, f.first);
        held = rw (f.first, zero-mul names) (sym (drop-nil ((0 - K) * names)));
      }
  keeps (suc i) h = kept_next i h (keeps i (omega arith))

  pub near : (i : ℕ) → i < n → Kept i
      → Near Anything (state_at ρ names (trace_of names (queues i) (rows i))) (state_at ρ names (fed rows (suc i))) K
      (queues i).kept.0 i
  near i l k =
      record {
        room = omega (arith, k.number);
        agree = λ d a b c o. ap (λ (r : ℕ → ℕ). state ρ r c) (fun_ext (same d a b));
      }
    where
      same : (d : ℕ) → d ≤ K → d ≤ (queues i).kept.0 → (j : ℕ)
          → row_of names (trace_of names (queues i) (rows i)) ((queues i).kept.0 - d) j
          ≡ row_of names (fed rows (suc i)) (i - d) j
      same d a b j =
          let e : i - K + ((queues i).kept.0 - d) ≡ i - d = omega (arith, k.number) in
          rw (trace_is i l k) (drop_row names (i - K) (fed rows (suc i)) ((queues i).kept.0 - d) j)
          ∙ ap (λ (r : ℕ). row_of names (fed rows (suc i)) r j) e

  pub queue_answers : 0 < K → (i : ℕ) → i < n
      → Matches (state_at ρ names (fed rows (suc i))) xs i (answers i) (counts i)
  queue_answers some i l =
      let k = keeps i (omega arith) in
      let p = f.pushes i l in
      record {
        is =
            p.matched.is
            ∙ answers_near Anything _ _ K (queues i).kept.0 i xs some (near i l k) (any_asks xs)
            (longest_within xs);
        count =
            p.matched.count
            ∙ tries_near Anything _ _ K (queues i).kept.0 i xs some (near i l k) (any_asks xs) (longest_within xs);
      }

  -- so, where the alternatives are those of a vector expression, it is the answer on windows
  pub queue_windows : (p : Vector) → xs ≡ alternatives p → 0 < K → (i : ℕ) → i < n
      → number_of (answers i) ≡ row_answer (state_at ρ names (fed rows (suc i))) p i
  queue_windows p same some i l = matches_windows (state_at ρ names (fed rows (suc i))) p same (queue_answers some i l)
