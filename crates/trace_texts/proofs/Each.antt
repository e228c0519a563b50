-- An order that is made piece by piece: o n is the order of the pieces before the n-th.
--   piece_refused, piece_passed     a piece that is refused, and one that passes, once those before it have passed
use Prim.Native.Nat.{ℕ, zero, suc, ◌+◌, ◌<◌, ◌≤◌}
use native.Mathlib.Omega.{arith}
use native.Mathlib.Numerals.{add-one}
use mathlib.Core.Path.{◌≡◌}
use mathlib.Core.List.{◌++◌}
use mathlib.Core.Logic.{◌⊎◌, inl, inr}
use Rattle.basics.proofs.Bools.{below?}
use Rattle.alf.specs.Refusals.{Order, RefusedWith, Passed}
use Rattle.alf.proofs.Orders.{refused_first, refused_then, passed_both}

module _ (o piece : ℕ → Order) (grows : (n : ℕ) → o (suc n) ≡ o n ++ piece n) where
  further : (m n number p : ℕ) → m ≤ n → RefusedWith (o m) number p → RefusedWith (o n) number p
  further m zero number p h r = let e : m ≡ 0 = omega arith in rw e at r
  further m (suc n) number p h r = go (below? n m) (further m n number p)
    where
      go : (n < m) ⊎ (m ≤ n) → (m ≤ n → RefusedWith (o m) number p → RefusedWith (o n) number p)
          → RefusedWith (o (suc n)) number p
      go (inl l) ih = let e : m ≡ suc n = omega arith in rw e at r
      go (inr l) ih = rw (grows n) (refused_first (o n) (piece n) number p (ih l r))

  pub piece_refused : (i n number p : ℕ) → i < n → Passed (o i) → RefusedWith (piece i) number p
      → RefusedWith (o n) number p
  piece_refused i n number p h q r =
      further (suc i) n number p h (rw (grows i) (refused_then (o i) (piece i) number p q r))

  pub piece_passed : (i : ℕ) → Passed (o i) → Passed (piece i) → Passed (o (i + 1))
  piece_passed i q r = rw (add-one i, grows i) (passed_both (o i) (piece i) q r)
