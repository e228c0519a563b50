-- 13 and 15 row by row: what the check of a row means for the rows' order.
--   row_late, row_bad, row_passes   a row that is refused or passes
--   rows_none, rows_passed          no row yet; all of them
--   next_place                      the place behind a row's codes
use Rattle.std.specs.Prelude.{Ok}
use mathlib.Core.Path.{◌≡◌, refl}
use mathlib.Core.Bool.{Bool, true, false}
use mathlib.Core.List.{List}
use mathlib.Core.Logic.{inl, inr}
use Prim.Native.Nat.{ℕ, zero, suc, ◌+◌, ◌*◌, ◌≤◌, ◌<◌}
use native.Mathlib.Omega.{arith}
use native.Mathlib.Numerals.{add-one}
use lib.Dec.{eqb}
use borrow.Author.Tests.{eqb-true, eqb-false}
use Rattle.basics.specs.Deciding.{Decides}
use Rattle.basics.proofs.Deciding.{told, not_told}
use Rattle.basics.specs.Refusing.{Outcome}
use Rattle.alf.specs.Refusals.{RefusedWith, Passed, Comes}
use Rattle.alf.proofs.Orders.{Is, plainly, refused_first, refused_then, passed_both}
use Rattle.trace_format.specs.Parts.{CodesTo}
use Rattle.trace_writer.specs.Putting.{Later}
use Rattle.trace_writer.specs.Writing.{rows_order, BadState}
use Rattle.trace_format.proofs.RowByRow.{not_above, next_to}

module _ (k : ℕ) (times states : List ℕ) (first : ℕ) where
  further : (m n number p : ℕ) → m ≤ n → RefusedWith (rows_order k times states first m) number p → RefusedWith
      (rows_order k times states first n) number p
  unfolding rows_order
  further m zero number p h r = let e : m ≡ 0 = omega arith in rw e at r
  further m (suc n) number p h r = go (eqb m (suc n)) refl (further m n number p)
    where
      go :
          (b : Bool) →
          eqb m (suc n) ≡ b →
          (m ≤ n → RefusedWith (rows_order k times states first m) number p → RefusedWith
          (rows_order k times states first n) number p) →
          RefusedWith (rows_order k times states first (suc n)) number p
      go true e ih = rw (eqb-true m (suc n) e) at r
      go false e ih =
          refused_first (rows_order k times states first n) _ number p (ih (omega (arith, eqb-false m (suc n) e)) r)

  module _
      {n r : ℕ} (made : ℕ → Type 0) (before : r < n) (passed : Passed (rows_order k times states first r))
      {b : Bool} (tested : Decides b (Later times (first + r)))
    where
      pub row_late : {o : Outcome} → Is o 13 (first + r) → b ≡ false → Comes (rows_order k times states first n) made o
      unfolding Comes RefusedWith rows_order
      row_late e f =
          rw e
          (plainly _ 13 (first + r)
          (further (suc r) n 13 (first + r) before
          (refused_then (rows_order k times states first r) _ 13 (first + r) passed
          (inl (refl, record { given = not_above (first + r) _ _ (not_told _ tested f); there = refl })))))

      module _ (later : b ≡ true) where
        above : (p : ℕ) → Rattle.alf.specs.Refusals.not_above times (first + r) p → ⊥
        above p a = omega (arith, told _ tested later a.given.0, a.given.1)

        module _ {from bad : ℕ} (there : from ≡ (first + r) * k) (codes : CodesTo states from (from + k) bad) where
          no_bad : (i : ℕ) → i < bad → BadState k states (first + r) i → ⊥
          no_bad i l w = omega (arith, codes.good i (omega (arith, w.from)) l, w.above)

          pub row_bad : {o : Outcome} → Is o 15 bad → bad < from + k → Comes (rows_order k times states first n) made o
          unfolding Comes RefusedWith rows_order
          row_bad e l =
              rw e
              (plainly _ 15 bad
              (further (suc r) n 15 bad before
              (refused_then (rows_order k times states first r) _ 15 bad passed
              (inr (
                above,
                inl (
                  refl,
                  record {
                    given =
                        record { from = omega (arith, codes.low); to = omega arith; above = codes.bad l };
                    before = no_bad;
                  },
                ),
              )))))

          pub row_passes : from + k ≤ bad → Passed (rows_order k times states first (r + 1))
          unfolding Passed rows_order
          row_passes l =
              rw add-one
              (passed_both (rows_order k times states first r) _ passed
              (above, ((λ p a. no_bad p (omega (arith, a.given.to)) a.given), tt)))

  pub rows_none : Passed (rows_order k times states first 0)
  unfolding Passed rows_order
  rows_none = tt

  pub rows_passed : {r n : ℕ} → r ≡ n → Passed (rows_order k times states first r)
      → Comes (rows_order k times states first n)
      (λ m. m ≡ k) (Ok k)
  unfolding Comes
  rows_passed e p = (rw e at p, refl)

-- the codes of the next row stand right behind
pub next_place : (k first i : ℕ) {from : ℕ} → from ≡ (first + i) * k → from + k ≡ (first + (i + 1)) * k
next_place k first i e =
    let f : first + (i + 1) ≡ first + i + 1 = omega arith in
    rw (e, f) (next_to (first + i) k)
