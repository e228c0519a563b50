-- What is so of a name and of a row where nothing is refused.
--   one_name                                      a name is one, and new
--   one_row, row_few, row_time_lem, row_later, row_states, time_small     a row has a time above the last, and states
use Prim.Native.Nat.{ℕ, zero, suc, ◌-◌, ◌<◌, ◌≤◌}
use native.Mathlib.Omega.{arith}
use mathlib.Core.Path.{◌≡◌, refl}
use mathlib.Core.Bool.{Bool, true, false}
use mathlib.Core.Logic.{◌⊎◌, inl, inr}
use mathlib.Core.List.{List, []}
use lib.Dec.{ltb}
use lib.ListN.{length, get_or}
use borrow.Author.Tests.{ltb-true}
use Rattle.basics.specs.Words.{all}
use Rattle.basics.proofs.Bools.{and_right, below?}
use Rattle.basics.proofs.Stable.{le_stable, lt_stable, true_stable}
use Rattle.alf.specs.Names.{is_decimal}
use Rattle.alf.specs.Refusals.{Passed}
use Rattle.alf.proofs.Orders.{passed_left, passed_right}
use Rattle.figures.specs.Numbers.{reading}
use Rattle.trace_texts.specs.Words.{Word, Line, line}
use Rattle.trace_texts.specs.Texts.{none, time_bound, is_time, time_of_lem, code_of, state_word, NewName}
use Rattle.trace_texts.specs.Texts.{names_order, states_order}
use Rattle.trace_texts.specs.Texts.{row_order, rows_order}

pub one_name : (ws : List Word) (m i : ℕ) → Passed (names_order ws m) → i < m → (32 ≤ i → ⊥) × NewName ws i
unfolding names_order Passed
one_name ws zero i q h = absurd (omega arith)
one_name ws (suc m) i q h = go (below? i m) (one_name ws m i (passed_left (names_order ws m) _ q))
  where
    go : (i < m) ⊎ (m ≤ i) → (i < m → (32 ≤ i → ⊥) × NewName ws i) → (32 ≤ i → ⊥) × NewName ws i
    go (inl l) ih = ih l
    go (inr l) ih =
        let e : i ≡ m = omega arith in
        let r = passed_right (names_order ws m) _ q in
        let there : (NewName ws m → ⊥) → ⊥ = λ n. r.1.0 (get_or ws m none).at (record { given = n; there = refl }) in
        rw e (
          (λ f. r.0 (get_or ws m none).at (record { given = f; there = refl })),
          record {
            name = true_stable _ (λ n. there (λ x. n x.name));
            new = λ j f g. there (λ x. x.new j f g);
          },
        )

pub one_row : (k : ℕ) (passed : Bool) (rows : List Line) (m r : ℕ) → Passed (rows_order k passed rows m) → r < m
    → Passed (row_order k passed rows r)
unfolding rows_order
one_row k passed rows zero r q h = absurd (omega arith)
one_row k passed rows (suc m) r q h =
    go (below? r m) (one_row k passed rows m r (passed_left (rows_order k passed rows m) _ q))
  where
    go : (r < m) ⊎ (m ≤ r) → (r < m → Passed (row_order k passed rows r)) → Passed (row_order k passed rows r)
    go (inl l) ih = ih l
    go (inr l) ih =
        let e : r ≡ m = omega arith in
        rw e (passed_right (rows_order k passed rows m) _ q)

one_state : (row : Line) (m i : ℕ) → Passed (states_order row m) → i < m → code_of (state_word row i).bytes ≤ 7
unfolding states_order Passed
one_state row zero i q h = absurd (omega arith)
one_state row (suc m) i q h = go (below? i m) (one_state row m i (passed_left (states_order row m) _ q))
  where
    go : (i < m) ⊎ (m ≤ i) → (i < m → code_of (state_word row i).bytes ≤ 7) → code_of (state_word row i).bytes ≤ 7
    go (inl l) ih = ih l
    go (inr l) ih =
        let e : i ≡ m = omega arith in
        let r = passed_right (states_order row m) _ q in
        rw e
        (le_stable _ 7
        (λ n. r.1.0 (state_word row m).at (record { given = lt_stable 7 _ (λ f. n (omega arith)); there = refl })))

not_false : (b : Bool) → (b ≡ false → ⊥) → b ≡ true
not_false true h = refl
not_false false h = absurd (h refl)

-- what passed of one row
module _ (k : ℕ) (passed : Bool) (rows : List Line) (r : ℕ) (q : Passed (row_order k passed rows r)) where
  abbrev here : Line
  here = get_or rows r (line [] 0)

  pub row_few : r < 65535
  unfolding row_order Passed
  row_few =
      lt_stable r 65535
      (λ n. q.0 (get_or here.words 0 none).at (record {
        given = le_stable 65535 r (λ f. n (omega arith));
        there = refl;
      }))

  pub row_time_lem : is_time (get_or here.words 0 none).bytes ≡ true
  unfolding row_order Passed
  row_time_lem = not_false _ (λ e. q.1.0 (get_or here.words 0 none).at (record { given = e; there = refl }))

  pub row_later : 0 < r → time_of_lem (get_or rows (r - 1) (line [] 0)) < time_of_lem here
  unfolding row_order Passed
  row_later h =
      lt_stable _ _
      (λ n. q.1.1.0 (get_or here.words 0 none).at
      (record { given = (h, le_stable _ _ (λ f. n (omega arith))); there = refl }))

  pub row_states : (i : ℕ) → i < k → code_of (state_word here i).bytes ≤ 7
  unfolding row_order Passed
  row_states i h = one_state here k i (passed_left (states_order here k) _ q.1.1.1) h

pub time_small : (ds : List ℕ) → is_time ds ≡ true → reading 0 ds < time_bound
unfolding is_time
time_small ds h =
    ltb-true (reading 0 ds) time_bound (and_right (all is_decimal ds) _ (and_right (ltb 0 (length ds)) _ h))
