-- What is good is passed: where nothing of an order holds, the call is not refused.
--   codes_never, times_never                           15 of codes, 13 of times that rise
--   codes_passed, row_passed, timed_passed, timed_row_passed, push_passed     the orders of the calls
use Prim.Native.Nat.{ℕ, ◌<◌}
use native.Mathlib.Omega.{arith}
use mathlib.Core.List.{List}
use Rattle.alf.specs.Refusals.{Passed, bad_code, early_row, Rising}
use Rattle.states.specs.FirstBadCode.{Codes}
use Rattle.timed_queue.specs.declared.queues.Queue.{Queue}
use Rattle.judging.specs.Orders.{order, codes, codes_row}
use Rattle.judging.specs.TimedOrders.{timed_codes, timed_codes_row}
use Rattle.queue_calls.specs.Pushing.{Early, row_and_time}

pub codes_never : (states : List ℕ) → Codes states → (p : ℕ) → bad_code states p → ⊥
codes_never states s p a = omega (arith, s p a.given.0, a.given.1)

pub times_never : (times : List ℕ) → Rising times → (p : ℕ) → early_row times p → ⊥
times_never times t p a = let (l, (k, u)) = a.given in omega (arith, u, t p k l)

pub row_passed : {P Q : Type 0} (states : List ℕ) (n row : ℕ) → P → Q → Codes states → row < n
    → Passed (order P Q (codes_row states n row))
unfolding Passed
row_passed states n row x y s h =
    (λ p a. a.given x, (λ p a. a.given y, (codes_never states s, (λ p a. omega (arith, h, a.given), tt))))

pub codes_passed : {P Q : Type 0} (states : List ℕ) → P → Q → Codes states → Passed (order P Q (codes states))
unfolding Passed
codes_passed states x y s = (λ p a. a.given x, (λ p a. a.given y, (codes_never states s, tt)))

pub timed_row_passed : {P Q : Type 0} (states times : List ℕ) (n row : ℕ) → P → Q → Codes states → Rising times
    → row < n → Passed (order P Q (timed_codes_row states times n row))
unfolding Passed
timed_row_passed states times n row x y s t h = (
  λ p a. a.given x,
  (λ p a. a.given y, (codes_never states s, (times_never times t, (λ p a. omega (arith, h, a.given), tt)))),
)

pub timed_passed : {P Q : Type 0} (states times : List ℕ) → P → Q → Codes states → Rising times
    → Passed (order P Q (timed_codes states times))
unfolding Passed
timed_passed states times x y s t =
    (λ p a. a.given x, (λ p a. a.given y, (codes_never states s, (times_never times t, tt))))

pub push_passed : {P Q : Type 0} (q : Queue) (time : ℕ) (row : List ℕ) → P → Q → Codes row → (Early q time → ⊥)
    → Passed (order P Q (row_and_time q time row))
unfolding Passed
push_passed q time row x y s t =
    (λ p a. a.given x, (λ p a. a.given y, (codes_never row s, (λ p a. t a.given, tt))))
