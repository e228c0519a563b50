-- Document 02, [11], over the contract of `blank`: the trace that it writes is a good trace of the same size, and on it
-- the totals of a pattern whose pins are kept are what they were, refusals included.
--   keeps_below                         a table keeps no pin behind its end
--   blank_lists, blank_is, blank_size, blank_codes     what is done: the lists fit, the trace, its size, its codes
--   rest_carried, rest_passed           an order that ends with 15 of the trace
--   totals_kept, totals_same            the totals by a tree
--   listed_totals_kept, listed_totals_same     by alternatives handed in
use Rattle.std.specs.Prelude.{Err, Ok}
use Rattle.std.specs.Prelude.{if◌then◌else◌}
use Prim.Native.Nat.{ℕ, ◌+◌, ◌*◌, ◌<◌, ◌≤◌}
use native.Mathlib.Nat.{zero-add, suc-mul, mul-le-mul_right}
use native.Mathlib.Omega.{arith}
use mathlib.Core.Path.{◌≡◌, refl, ap, sym, ◌∙◌}
use mathlib.Core.Bool.{Bool, true}
use mathlib.Core.Logic.{◌⊎◌, inl, inr}
use mathlib.Core.List.{List}
use lib.ListN.{length, get_or, get_or-eq_default}
use borrow.Author.Tests.{eq-eqb}
use Rattle.basics.specs.Memory.{after}
use Rattle.basics.proofs.Bools.{never, below?}
use Rattle.basics.proofs.Choices.{if_all}
use Rattle.basics.proofs.Listed.{listed_at}
use Rattle.basics.proofs.Stable.{lt_stable, eq_stable}
use Rattle.alf.specs.declared.Rules.{Rules}
use Rattle.alf.specs.States.{X}
use Rattle.alf.specs.Values.{row_of}
use Rattle.alf.specs.Refusals.{RefusedWith, Passed, Comes}
use Rattle.alf.proofs.Orders.{none_first}
use Rattle.states.specs.FirstBadCode.{Codes}
use Rattle.trees.specs.Parts.{vector_at}
use Rattle.alternatives.specs.InMemory.{alternatives_of_lem, longest_of}
use Rattle.judging.specs.Orders.{Rows, order, codes}
use Rattle.matching_calls.specs.Matching.{Counting}
use Rattle.matching_calls.specs.Matching.{Counts, RowTotals}
use Rattle.call_laws.proofs.Passing.{codes_never}
use Rattle.call_laws.proofs.Routes.{fed_codes}
use Rattle.call_laws.proofs.Theorems.{rows_stable}
use Rattle.call_laws.proofs.Unique.{totals_unique}
use Rattle.listed_calls.specs.Listed.{ListedTotals}
use Rattle.listed_calls.proofs.Unique.{listed_totals_unique}
use Rattle.named_pins.specs.Pins.{names_in, names_of}
use Rattle.named_pins.specs.Tables.{keeps}
use Rattle.blank_calls.specs.Overwritten.{blanked_row, blanked_by_x}
use Rattle.blank_calls.specs.Blanking.{Blanks}
use Rattle.blank_calls.proofs.Rows.{row_length, blanked_length}
use Rattle.blanking.proofs.ListedSteps.{passed_step}
use Rattle.blanking.proofs.Blanking.{blanked_totals, blanked_lists}

pub keeps_below : (kept : List ℕ) (n : ℕ) → keeps kept n ≡ true → n < length kept
unfolding keeps
keeps_below kept n h = go (below? n (length kept))
  where
    go : (n < length kept) ⊎ (length kept ≤ n) → n < length kept
    go (inl l) = l
    go (inr l) = never (rw (eq-eqb (get_or kept n 0) 0 (get_or-eq_default kept 0 l)) at h)

-- a row of codes, with some pins overwritten by X
row_codes : (pins : ℕ → Bool) (k n : ℕ) (states : List ℕ) → length states ≡ n * k → Codes states
    → (r : ℕ) → r < n → Codes (blanked_row pins (λ i m. X) k states r)
unfolding blanked_row
row_codes pins k n states all good r l i h =
    let size = row_length pins (λ i m. X) k states r in
    let inside : i < k = omega (arith, h, size) in
    let e = listed_at 0 k i (λ m. if pins m then row_of k states r m else X) 0 inside in
    rw (e, zero-add i)
    (if_all (λ (c : ℕ). c < 8) (pins i)
    (λ p. good (r * k + i) (omega (arith, inside, all, mul-le-mul_right k l, suc-mul r k))) (λ p. omega arith))

module _ {k n : ℕ} {states kept states' : List ℕ} {m : ℕ} (b : Blanks k n states kept states' (Ok m)) where
  pub blank_lists : (length kept ≡ k) × Rows k n (length states)
  unfolding Comes Passed
  blank_lists =
      let none = b.comes.0.0 0 in (
        eq_stable (length kept) k (λ d. none (record { given = λ f. d f.0; there = refl })),
        rows_stable k n (length states) (λ d. none (record { given = λ f. d f.1; there = refl })),
      )

  pub blank_is : states' ≡ blanked_by_x kept k n states
  unfolding after
  blank_is = b.memory

  pub blank_size : length states' ≡ length states
  blank_size = ap length blank_is ∙ blanked_length (keeps kept) (λ r i. X) k states n ∙ sym blank_lists.1.all

  blank_good : Codes states
  unfolding Comes Passed
  blank_good i l = lt_stable (get_or states i 0) 8 (λ d. none_first _ b.comes.0.1.0 i (l, omega (arith, d)))

  pub blank_codes : Codes states'
  blank_codes =
      rw blank_is
      (fed_codes (blanked_row (keeps kept) (λ r i. X) k states) n
      (row_codes (keeps kept) k n states blank_lists.1.all blank_good))

  below : (i : ℕ) → keeps kept i ≡ true → i < k
  below i h = omega (arith, keeps_below kept i h, blank_lists.0)

  -- 15 of the trace is given nowhere, before and after
  pub rest_passed : Passed (codes states')
  unfolding Passed
  rest_passed = (codes_never states' blank_codes, tt)

  pub rest_carried : (q p : ℕ) → RefusedWith (codes states) q p → ⊥
  unfolding RefusedWith
  rest_carried q p (inl x) = codes_never states blank_good p x.1
  rest_carried q p (inr x) = x.1

  module _ (Q : Type 0) where
    order_passed : Passed (order (Rows k n (length states)) Q (codes states))
        → Passed (order (Rows k n (length states')) Q (codes states'))
    unfolding Passed
    order_passed (x, (y, z)) = (λ p a. x p (rw blank_size at a), (y, rest_passed))

    order_carried : (q p : ℕ) → RefusedWith (order (Rows k n (length states)) Q (codes states)) q p
        → RefusedWith (order (Rows k n (length states')) Q (codes states')) q p
    unfolding RefusedWith
    order_carried q p (inl x) = rw blank_size (inl x)
    order_carried q p (inr (u, inl x)) = rw blank_size (inr (u, inl x))
    order_carried q p (inr (u, inr (v, x))) = absurd (rest_carried q p x)

  -- what a call may tell of the trace, it may tell of the overwritten one
  counts_carried : (Q : Type 0) (R R' : ℕ → ℕ → ℕ → Type 0)
      → (Passed (order (Rows k n (length states)) Q (codes states)) → (x y z : ℕ) → R x y z → R' x y z) → (r : Counting)
      → Counts (order (Rows k n (length states)) Q (codes states)) R r
      → Counts (order (Rows k n (length states')) Q (codes states')) R' r
  unfolding Counts
  counts_carried Q R R' f (Ok t) (p, x) = (order_passed Q p, f p _ _ _ x)
  counts_carried Q R R' f (Err q) h = record { by = order_carried Q _ _ h.by; bare = h.bare }

  module _ {ρ : Rules} {tree : List ℕ}
      (named : (i : ℕ) → names_in (vector_at tree k (length tree)) i ≡ true → keeps kept i ≡ true) where
    pub totals_kept : {r : Counting} → RowTotals ρ k n tree states r → RowTotals ρ k n tree states' r
    totals_kept {r} h =
        let same = blanked_totals ρ k (vector_at tree k (length tree)) (keeps kept) named below (λ r i. X) states n in
        record {
          comes =
              counts_carried _ _ _
              (λ p x y z t.
              rw blank_is
              (record { yeses = t.yeses ∙ same 1; noes = t.noes ∙ same 0; unknowns = t.unknowns ∙ same 2 })) r
              h.comes;
        }

    pub totals_same : {r r' : Counting} → RowTotals ρ k n tree states r → RowTotals ρ k n tree states' r' → r ≡ r'
    totals_same x y = totals_unique (totals_kept x) y

  module _ {ρ : Rules} (tree steps tests edges operands : List ℕ)
      (named : (i : ℕ) → names_of (alternatives_of_lem tree k steps tests edges operands) i ≡ true → keeps kept i ≡ true)
    where
      pub listed_totals_kept : {r : Counting} → ListedTotals ρ k n tree steps tests edges operands states r
          → ListedTotals ρ k n tree steps tests edges operands states' r
      listed_totals_kept {r} h =
          let xs = alternatives_of_lem tree k steps tests edges operands in
          record {
            comes =
                counts_carried _ _ _
                (λ p x y z t.
                let some = passed_step k tree steps tests edges operands _ _ (λ a. a) p in
                let same = blanked_lists ρ k xs some (keeps kept) named below (λ r i. X) states n in
                rw blank_is
                (record { yeses = t.yeses ∙ same 1; noes = t.noes ∙ same 0; unknowns = t.unknowns ∙ same 2 })) r
                h.comes;
          }

      pub listed_totals_same : {r r' : Counting} → ListedTotals ρ k n tree steps tests edges operands states r
          → ListedTotals ρ k n tree steps tests edges operands states' r' → r ≡ r'
      listed_totals_same x y = listed_totals_unique (listed_totals_kept x) y
