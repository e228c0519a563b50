-- What the check of a trace in lists comes to: 18, 12, 13 or 15, or passed; and what is known of one that passes.
--   checked_18, checked_12, checked_rows   what `check_lists` and `check_trace` return
--   comes_first, comes_then   refused by the first part of an order; past it
--   names_good, rows_lent, lists_pass, some_rows          lists that pass 18 and 12
--   trace_good, rows_good                                 a trace that passes is good, and its codes are states
--   rows_fixed, trace_fixed                               each row of the order fixes its place
--   rows_split                                            the rows' order, of the first ones and of those behind them
use Rattle.std.specs.Prelude.{Err, Ok}
use mathlib.Core.Path.{◌≡◌, refl, sym}
use mathlib.Core.Bool.{Bool, false}
use mathlib.Core.List.{List, ◌++◌, append-nil, append_assoc}
use mathlib.Core.Logic.{◌⊎◌, inl, inr}
use Prim.Native.Nat.{ℕ, zero, suc, ◌+◌, ◌%◌, ◌*◌, ◌≤◌, ◌<◌}
use native.Mathlib.Omega.{arith}
use native.Mathlib.Nat.{add-zero, mul-le-mul_right}
use lib.ListN.{length, get_or}
use Rattle.basics.specs.Deciding.{Decides}
use Rattle.basics.proofs.Bools.{below?}
use Rattle.basics.proofs.Deciding.{not_told}
use Rattle.basics.proofs.Stable.{le_stable, eq_stable}
use Rattle.basics.specs.declared.Refusal.{Refusal}
use Rattle.basics.specs.Refusing.{Outcome}
use Rattle.alf.specs.Names.{names_in, GoodSlot}
use Rattle.alf.specs.Refusals.{Order, bad_slot, RefusedWith, Passed, Comes}
use Rattle.alf.proofs.Orders.{Is, plainly, by_first, by_then, none_first, passed_both, passed_left, passed_right}
use Rattle.alf.proofs.Orders.{fixed_both}
use Rattle.alf.proofs.Outcomes.{AllFixed, at_fixed, first_fixed}
use Rattle.names.specs.Check.{names_order}
use Rattle.trace_writer.specs.Writing.{AllLists, BadState, lent_order, rows_order, lists_order}
use Rattle.trace_writer.specs.Putting.{RowsLent, SomeRows, NamesGood, Good}
use Rattle.trace_writer.proofs.StableNames.{slot_stable}

slots_good : (names : List ℕ) → ((p : ℕ) → bad_slot names p → ⊥) → (j : ℕ) → j < names_in names → GoodSlot names j
slots_good names f j h =
    slot_stable names j (λ n. none_first (λ i. (i < names_in names) × (GoodSlot names i → ⊥)) f j (h, n))

pub checked_18 :
    (names times states : List ℕ) (n : ℕ) {b : Bool} {o : Outcome} (made : ℕ → Type 0) →
    Decides b (AllLists names times states n) →
    b ≡ false →
    Is o 18 0 →
    Comes (lent_order names times states n) made o
unfolding Comes RefusedWith
checked_18 names times states n made t f e =
    rw e (plainly _ 18 0 (inl (refl, record { given = not_told _ t f; there = refl })))

module _ {names times states : List ℕ} {n : ℕ} where
  -- lists that fit: a list of names that is refused is refused with 12
  twelve : AllLists names times states n → (i p : ℕ) → RefusedWith (names_order names) i p
      → RefusedWith (lent_order names times states n) i p
  unfolding RefusedWith
  twelve all i p (inl h) = absurd (h.1.given all.slots)
  twelve all i p (inr (h, inl j)) = inr ((λ p a. a.given all), inl j)
  twelve all i p (inr (h, inr j)) = absurd j.1

  pub checked_12 : AllLists names times states n → (o : Outcome) → Comes (names_order names) (λ m. m ≡ names_in names) o
      → Comes (lent_order names times states n) (λ m. m ≡ names_in names) o
  unfolding Comes Passed
  checked_12 all (Ok k) c = (((λ p a. a.given all), (c.0.1.0, tt)), c.1)
  checked_12 all (Err r) c = record { by = twelve all _ _ c.by; bare = c.bare }

-- refused by the first part of an order, whatever is asked afterwards
pub comes_first : (o rest : Order) (made made' : ℕ → Type 0) {x : Outcome} {r : Refusal} → Comes o made x
    → x ≡ Err r
    → Comes (o ++ rest) made' (Err r)
unfolding Comes
comes_first o rest made made' c e = by_first o rest (rw e at c)

-- the first part is passed
pub comes_then : (o rest : Order) (made : ℕ → Type 0) (x : Outcome) → Passed o → Comes rest made x
    → Comes (o ++ rest) made x
unfolding Comes
comes_then o rest made (Ok k) h c = (passed_both o rest h c.0, c.1)
comes_then o rest made (Err r) h c = by_then o rest h c

-- the lists that pass 18 and 12
module _ {names times states : List ℕ} {n k : ℕ} (g : NamesGood names times states n k) where
  pub rows_lent : RowsLent k times states n
  rows_lent =
      record { times_all = g.all.lists.times_all; states_all = rw g.counted g.all.lists.states_all }

  pub lists_pass : Passed (lent_order names times states n)
  unfolding Passed
  lists_pass = ((λ p a. a.given g.all), ((λ p a. a.given.1 (g.good p a.given.0)), tt))

  -- some of the rows
  pub some_rows : (first many : ℕ) → first + many ≤ n → SomeRows k times states first many
  some_rows first many h =
      record {
        times_all = omega (arith, rows_lent.times_all);
        states_all = rw rows_lent.states_all (mul-le-mul_right k h);
      }

  pub checked_rows : (o : Outcome) → Comes (rows_order k times states 0 n) (λ m. m ≡ k) o
      → Comes (lists_order names times states n) (λ m. m ≡ names_in names) o
  checked_rows o c = comes_then (lent_order names times states n) _ _ o lists_pass (rw g.counted at c)

lists_stable : (names times states : List ℕ) (n : ℕ) → ((AllLists names times states n → ⊥) → ⊥)
    → AllLists names times states n
lists_stable names times states n h =
    record {
      slots =
          record {
            whole = eq_stable (length names % 32) 0 (λ k. h (λ a. k a.slots.whole));
            some = le_stable 1 (names_in names) (λ k. h (λ a. k a.slots.some));
            few = le_stable (names_in names) 32 (λ k. h (λ a. k a.slots.few));
          };
      lists =
          record {
            some = le_stable 1 n (λ k. h (λ a. k a.lists.some));
            few = le_stable n 65535 (λ k. h (λ a. k a.lists.few));
            times_all = eq_stable (length times) n (λ k. h (λ a. k a.lists.times_all));
            states_all = eq_stable (length states) (n * names_in names) (λ k. h (λ a. k a.lists.states_all));
          };
    }

passed_good : {names times states : List ℕ} {n k : ℕ} → Passed (lent_order names times states n) → k ≡ names_in names
    → NamesGood names times states n k
unfolding Passed
passed_good {names} {times} {states} {n} p e =
    record {
      all = lists_stable names times states n (λ h. p.0 0 (record { given = h; there = refl }));
      good = slots_good names p.1.0;
      counted = e;
    }

pub names_good :
    {names times states : List ℕ} {n k : ℕ} {o : Outcome} →
    Comes (lent_order names times states n) (λ m. m ≡ names_in names) o →
    o ≡ Ok k →
    NamesGood names times states n k
unfolding Comes
names_good {names} {times} {states} {n} {k} c e =
    let d : Comes (lent_order names times states n) (λ m. m ≡ names_in names) (Ok k) = rw e at c in
    passed_good d.0 d.1

pub trace_good :
    {names times states : List ℕ} {n k : ℕ} {o : Outcome} →
    Comes (lists_order names times states n) (λ m. m ≡ names_in names) o →
    o ≡ Ok k →
    Good names times states n k
unfolding Comes
trace_good {names} {times} {states} {n} {k} c e =
    let d : Comes (lists_order names times states n) (λ m. m ≡ names_in names) (Ok k) = rw e at c in
    record { named = passed_good (passed_left (lent_order names times states n) _ d.0) d.1; passed = d.0 }

-- rows that pass have states alone for codes
module _ (k : ℕ) (times states : List ℕ) (first : ℕ) where
  last_good : (r i : ℕ) → Passed (rows_order k times states first (suc r)) → i < k
      → get_or states ((first + r) * k + i) 0 ≤ 7
  unfolding Passed rows_order
  last_good r i h l =
      let p = passed_right (rows_order k times states first r) _ h in
      le_stable _ 7
      (λ b.
      none_first (BadState k states (first + r)) p.1.0 ((first + r) * k + i)
      (record { from = omega arith; to = omega arith; above = omega (arith, b) }))

  pub rows_good : (n r i : ℕ) → Passed (rows_order k times states first n) → r < n → i < k
      → get_or states ((first + r) * k + i) 0 ≤ 7
  unfolding rows_order
  rows_good zero r i h l m = absurd (omega arith)
  rows_good (suc n) r i h l m =
      go (below? r n) (rows_good n r i (passed_left (rows_order k times states first n) _ h))
    where
      go : (r < n) ⊎ (n ≤ r) → (r < n → i < k → get_or states ((first + r) * k + i) 0 ≤ 7)
          → get_or states ((first + r) * k + i) 0 ≤ 7
      go (inl b) ih = ih b m
      go (inr b) ih = let e : r ≡ n = omega arith in rw e (last_good n i h m)

  pub rows_fixed : (n : ℕ) → AllFixed (rows_order k times states first n)
  unfolding rows_order
  rows_fixed zero = tt
  rows_fixed (suc n) =
      fixed_both (rows_order k times states first n) _ (rows_fixed n) (at_fixed _ _, (first_fixed _, tt))

pub trace_fixed : (names times states : List ℕ) (n : ℕ) → AllFixed (lists_order names times states n)
trace_fixed names times states n = (at_fixed _ _, (first_fixed _, rows_fixed (names_in names) times states 0 n))

-- rows checked one after the other: the first ones, then those behind them
pub rows_split : (k : ℕ) (times states : List ℕ) (first a b : ℕ)
    → rows_order k times states first (a + b)
    ≡ rows_order k times states first a ++ rows_order k times states (first + a) b
unfolding rows_order
rows_split k times states first a zero = rw add-zero (sym (append-nil _))
rows_split k times states first a (suc b) =
    let e : a + suc b ≡ suc (a + b) = omega arith in
    let f : first + (a + b) ≡ first + a + b = omega arith in
    rw (e, f, rows_split k times states first a b, append_assoc) refl
