-- The last k rows of a trace.
--   fed_length           n rows have n times the names
--   last_length          how many states the last k rows have
--   last_push            the last rows with a row behind them are rows of the trace with that row
--   last_again           the last k rows of those are the last k rows of that trace
--   drop_row             row j of what is left behind m rows is row m + j
--   held_stored          what a queue holds of states that were stored in it
use mathlib.Core.Path.{◌≡◌, ap, sym, ◌∙◌}
use mathlib.Core.List.{List, ◌++◌}
use Prim.Native.Nat.{ℕ, zero, suc, ◌+◌, ◌-◌, ◌*◌, ◌<◌, min}
use native.Mathlib.Nat.{zero-mul, suc-mul, add-mul}
use native.Mathlib.Omega.{arith}
use lib.ListN.{length, get_or, take, drop, replicate, length-append, length-drop}
use lib.Seq.{drop-append-le, drop-drop, get_or-drop, take_at}
use Rattle.alf.specs.Values.{row_of}
use Rattle.basics.specs.Memory.{placed}
use Rattle.queue.specs.Queues.{last_rows, fed, stored}

pub fed_length : (names : ℕ) (rows : ℕ → List ℕ) (n : ℕ)
    → ((i : ℕ) → i < n → length (rows i) ≡ names)
    → length (fed rows n) ≡ n * names
unfolding fed
fed_length names rows zero h = sym (zero-mul names)
fed_length names rows (suc n) h =
    let e = fed_length names rows n (λ i l. h i (omega arith)) in
    let f = h n (omega arith) in
    length-append (fed rows n) (rows n) ∙ omega (arith, suc-mul n names)

-- n rows are the last k of them, or all, and those before
split : (names k n : ℕ) → n * names ≡ min n k * names + (n - k) * names
split names k n =
    let e : min n k + (n - k) ≡ n = omega arith in
    ap (λ (m : ℕ). m * names) (sym e) ∙ add-mul (min n k) (n - k) names

module _ (names k : ℕ) where
  pub last_length : (n : ℕ) (trace : List ℕ) → length trace ≡ n * names
      → length (last_rows names k n trace) ≡ min n k * names
  unfolding last_rows
  last_length n trace h = omega (arith, length-drop ((n - k) * names) trace, split names k n)

  pub last_push : (n : ℕ) (trace row : List ℕ) → length trace ≡ n * names
      → last_rows names k n trace ++ row ≡ drop ((n - k) * names) (trace ++ row)
  unfolding last_rows
  last_push n trace row h =
      sym (drop-append-le ((n - k) * names) trace row (omega (arith, split names k n)))

  pub last_again : (n : ℕ) (trace : List ℕ)
      → last_rows names k (min n k + 1) (drop ((n - k) * names) trace) ≡ last_rows names k (n + 1) trace
  unfolding last_rows
  last_again n trace =
      let e : n - k + (min n k + 1 - k) ≡ n + 1 - k = omega arith in
      drop-drop ((min n k + 1 - k) * names) ((n - k) * names) trace
      ∙ ap (λ (m : ℕ). drop m trace)
      (sym (add-mul (n - k) (min n k + 1 - k) names) ∙ ap (λ (m : ℕ). m * names) e)

pub drop_row : (names m : ℕ) (trace : List ℕ) (j i : ℕ)
    → row_of names (drop (m * names) trace) j i ≡ row_of names trace (m + j) i
drop_row names m trace j i =
    get_or-drop (m * names) trace (j * names + i) 0
    ∙ ap (λ (x : ℕ). get_or trace x 0) (omega (arith, add-mul m j names))

pub held_stored : (states : List ℕ) (n : ℕ) → length states ≡ n → take n (stored states) ≡ states
unfolding placed
held_stored states n h = take_at states (drop (0 + length states) (replicate 512 0)) n h
