-- Document 02, [11], as a partner uses it: every pin outside a set that holds the named ones is overwritten by any
-- states, and all rows before the last K+1 are cut away. For any rules.
--   fed_row                       a row of rows put one after the other
--   blanked_same, sent_same       the overwritten trace agrees with the trace on the pins that are named
--   blanked_answer, blanked_tries, blanked_totals     the whole trace overwritten: the same at every row, and in all
--   sent_answer, sent_tries       what is sent for a row: the same at its last row
--   blanked_lists                 the totals of alternatives handed in
--   named_below                   the pins that an accepted pattern names are there
use Rattle.std.specs.Prelude.{if◌then◌else◌}
use Prim.Native.Nat.{ℕ, zero, suc, ◌+◌, ◌-◌, ◌*◌, ◌<◌, ◌≤◌, min}
use native.Mathlib.Nat.{suc-mul, zero-add, mul-le-mul_right}
use native.Mathlib.Omega.{arith}
use mathlib.Core.Path.{◌≡◌, refl, ap, sym, ◌∙◌}
use mathlib.Core.Bool.{Bool, true}
use mathlib.Core.Logic.{◌⊎◌, inl, inr}
use mathlib.Core.List.{List}
use lib.Dec.{eqb}
use lib.ListN.{length, get_or, get_or-append}
use lib.Seq.{get_or-append-add}
use Rattle.basics.proofs.Bools.{below?}
use Rattle.basics.proofs.Counts.{count_same}
use Rattle.basics.proofs.Listed.{listed_at}
use Rattle.alf.specs.declared.Rules.{Rules}
use Rattle.alf.specs.Expressions.{Vector, VectorOver}
use Rattle.alf.specs.Values.{row_of, state_at}
use Rattle.alf.specs.Windows.{row_answer}
use Rattle.alf.specs.Alternatives.{Alternative, alternatives, steps_of, tries}
use Rattle.alf.specs.Steady.{meant}
use Rattle.alf.specs.Traces.{total}
use Rattle.steady_laws.proofs.Meant.{meant_steps}
use Rattle.alternatives.specs.InMemory.{longest_of}
use Rattle.matcher.specs.Tables.{total_of}
use Rattle.queue.specs.Queues.{fed}
use Rattle.queue.proofs.LastRows.{fed_length}
use Rattle.named_pins.specs.Pins.{names_in, names_of}
use Rattle.blank_calls.specs.Overwritten.{blanked_row, blanked}
use Rattle.blank_calls.proofs.Rows.{row_length}
use Rattle.blanking.specs.Pins.{SamePins, sent}
use Rattle.blanking.proofs.Named.{names_over}
use Rattle.blanking.proofs.FilledNames.{meant_named}
use Rattle.blanking.proofs.PinsAlone.{fewer_pins, pins_answer, pins_tries, lists_answer}

pub fed_row : (k : ℕ) (rows : ℕ → List ℕ) (m : ℕ) → ((i : ℕ) → i < m → length (rows i) ≡ k)
    → (r n : ℕ) → r < m → n < k → row_of k (fed rows m) r n ≡ get_or (rows r) n 0
unfolding fed
fed_row k rows zero full r n h l = absurd (omega arith)
fed_row k rows (suc m) full r n h l =
    go (λ a. fed_row k rows m (λ i b. full i (omega arith)) r n a l) (below? r m)
  where
    whole : length (fed rows m) ≡ m * k
    whole = fed_length k rows m (λ i b. full i (omega arith))

    go : (r < m → row_of k (fed rows m) r n ≡ get_or (rows r) n 0) → (r < m) ⊎ (m ≤ r)
        → row_of k (fed rows (suc m)) r n ≡ get_or (rows r) n 0
    go before (inl a) =
        let b : suc r * k ≤ m * k = mul-le-mul_right k a in
        get_or-append (fed rows m) (rows m) 0 (r * k + n) (omega (arith, b, suc-mul r k, whole)) ∙ before a
    go before (inr a) =
        let e : r ≡ m = omega arith in
        rw e
        (ap (λ (x : ℕ). get_or (fed rows (suc m)) (x + n) 0) (sym whole) ∙ get_or-append-add (fed rows m) (rows m) n 0)

module _ (pins : ℕ → Bool) (other : ℕ → ℕ → ℕ) (k : ℕ) (states : List ℕ) where
  row_kept : (r n : ℕ) → n < k → pins n ≡ true → get_or (blanked_row pins other k states r) n 0 ≡ row_of k states r n
  unfolding blanked_row
  row_kept r n l e =
      listed_at 0 k n (λ m. if pins m then row_of k states r m else other r m) 0 l ∙ rw (zero-add n, e) refl

  module _ (below : (n : ℕ) → pins n ≡ true → n < k) where
    pub blanked_same : (K n i : ℕ) → i < n → SamePins pins K k states (blanked pins other k n states) i i
    blanked_same K n i l =
        record {
          number = refl;
          same = λ d m a b e.
              sym
              (fed_row k (blanked_row pins other k states) n (λ r h. row_length pins other k states r) (i - d) m
              (omega arith) (below m e)
              ∙ row_kept (i - d) m (below m e) e);
        }

    pub sent_same : (K i : ℕ) → SamePins pins K k states (sent pins other K k i states) i (min i K)
    sent_same K i =
        record {
          number = omega arith;
          same = λ d m a b e.
              let r : i - min i K + (min i K - d) ≡ i - d = omega arith in
              sym
              (fed_row k (λ x. blanked_row pins other k states (i - min i K + x)) (min i K + 1)
              (λ x h. row_length pins other k states _)
              (min i K - d) m (omega arith) (below m e)
              ∙ row_kept (i - min i K + (min i K - d)) m (below m e) e
              ∙ ap (λ (x : ℕ). row_of k states x m) r);
        }

-- any pins that are among the k, and among which are those that the pattern names, as it is written
module _ (ρ : Rules) (k : ℕ) (p : Vector) (pins : ℕ → Bool) (named : (n : ℕ) → names_in p n ≡ true → pins n ≡ true)
    (below : (n : ℕ) → pins n ≡ true → n < k) (other : ℕ → ℕ → ℕ) (states : List ℕ) where
  abbrev read : Vector
  read = meant ρ p

  inside : (n : ℕ) → names_in read n ≡ true → pins n ≡ true
  inside n e = named n (meant_named ρ p n e)

  module _ (n i : ℕ) (l : i < n) where
    alike : SamePins (names_in read) (steps_of read) k states (blanked pins other k n states) i i
    alike = fewer_pins inside (blanked_same pins other k states below (steps_of read) n i l)

    pub blanked_answer : row_answer (state_at ρ k states) (meant ρ p) i
        ≡ row_answer (state_at ρ k (blanked pins other k n states)) (meant ρ p) i
    blanked_answer = pins_answer ρ k states (blanked pins other k n states) i i read alike

    pub blanked_tries : tries (state_at ρ k states) (alternatives (meant ρ p)) i
        ≡ tries (state_at ρ k (blanked pins other k n states)) (alternatives (meant ρ p)) i
    blanked_tries = pins_tries ρ k states (blanked pins other k n states) i i read alike

  pub blanked_totals : (n a : ℕ) → total (state_at ρ k states) (meant ρ p) n a
      ≡ total (state_at ρ k (blanked pins other k n states)) (meant ρ p) n a
  unfolding total
  blanked_totals n a = count_same n _ _ (λ i l. ap (λ (x : ℕ). eqb x a) (blanked_answer n i l))

  -- K is that of the pattern as written
  module _ (i : ℕ) where
    abbrev view : List ℕ
    view = sent pins other (steps_of p) k i states

    sent_alike : SamePins (names_in read) (steps_of read) k states view i (min i (steps_of p))
    sent_alike =
        rw (meant_steps ρ p) (fewer_pins inside (sent_same pins other k states below (steps_of p) i))

    pub sent_answer : row_answer (state_at ρ k states) (meant ρ p) i
        ≡ row_answer (state_at ρ k (sent pins other (steps_of p) k i states)) (meant ρ p) (min i (steps_of p))
    sent_answer = pins_answer ρ k states view i (min i (steps_of p)) read sent_alike

    pub sent_tries : tries (state_at ρ k states) (alternatives (meant ρ p)) i
        ≡ tries (state_at ρ k (sent pins other (steps_of p) k i states)) (alternatives (meant ρ p)) (min i (steps_of p))
    sent_tries = pins_tries ρ k states view i (min i (steps_of p)) read sent_alike

-- alternatives handed in, of which one has a step, and any pins among which are those that their tests name
module _ (ρ : Rules) (k : ℕ) (xs : List Alternative) (some : 0 < longest_of xs) (pins : ℕ → Bool)
    (named : (n : ℕ) → names_of xs n ≡ true → pins n ≡ true) (below : (n : ℕ) → pins n ≡ true → n < k)
    (other : ℕ → ℕ → ℕ) (states : List ℕ) where
  pub blanked_lists : (n a : ℕ) → total_of (state_at ρ k states) xs n a
      ≡ total_of (state_at ρ k (blanked pins other k n states)) xs n a
  unfolding total_of
  blanked_lists n a =
      count_same n _ _
      (λ i l.
      ap (λ (x : ℕ). eqb x a)
      (lists_answer ρ k states (blanked pins other k n states) i i xs some
      (fewer_pins named (blanked_same pins other k states below (longest_of xs) n i l))))

-- the pins that an accepted pattern names are among the k
pub named_below : (k : ℕ) (p : Vector) → VectorOver k p → (n : ℕ) → names_in p n ≡ true → n < k
named_below k p over n e = names_over k n p over e
