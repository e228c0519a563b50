-- Pins add no events: an expression with its pins has the longest window that it has as written.
--   placed_longest, placed_too_long     and answers no on windows of more events
use Prim.Native.Nat.{ℕ, zero, suc, ◌-◌, ◌≤◌, max}
use native.Mathlib.Omega.{arith}
use mathlib.Core.Path.{◌≡◌, refl, ◌∙◌}
use mathlib.Core.Bool.{Bool, true, false}
use mathlib.Core.List.{List}
use lib.Dec.{eqb}
use lib.ListN.{length}
use Rattle.alf.specs.Expressions.{Boolean, stays, Vector, edge, join, while, on_right, on_left}
use Rattle.alf.specs.Expressions.{Join, followed_by_join, either_order, with_or_then, any_order, with, or_else}
use Rattle.alf.specs.Bytes.{boolean_bytes, vector_bytes}
use Rattle.steady_pins.specs.Pinned.{pin_at, pinned, by_places}
use Rattle.steady_pins.proofs.PinMoves.{pinned_none, pinned_one}
use Rattle.alf.specs.Windows.{answer}
use Rattle.window_answers.specs.Lengths.{joined_length, longest}
use Rattle.window_answers.proofs.LongWindows.{NoBeyond, too_long}

joined_some : (j : Join) (n m : ℕ) → 1 ≤ n → 1 ≤ joined_length j n m
unfolding joined_length
joined_some followed_by_join n m h = omega arith
joined_some either_order n m h = omega arith
joined_some with_or_then n m h = omega arith
joined_some any_order n m h = omega arith
joined_some with n m h = omega arith
joined_some or_else n m h = omega arith

longest_some : (p : Vector) → 1 ≤ longest p
unfolding longest
longest_some (edge e c) = omega arith
longest_some (join j p q) = joined_some j (longest p) (longest q) (longest_some p)
longest_some (while s p c) = longest_some p

with_test : (p : Vector) (c : Boolean) → longest (join with p (edge stays c)) ≡ max (longest p) 1
unfolding longest joined_length
with_test p c = refl

module _ (operand : ℕ → Boolean) (pins : List ℕ) where
  next : (n end : ℕ) (p : Vector) → longest (pinned operand pins n end p) ≡ longest p
      → (q : Bool) → eqb (pin_at pins end n) 0 ≡ q → longest (pinned operand pins (suc n) end p) ≡ longest p
  next n end p h true e = rw (pinned_none operand pins end p n e) h
  next n end p h false e =
      let l = longest_some p in
      let w = with_test (pinned operand pins n end p) (operand (pin_at pins end n)) in
      rw (pinned_one operand pins end p n e) (omega arith)

  pinned_longest : (n end : ℕ) (p : Vector) → longest (pinned operand pins n end p) ≡ longest p
  unfolding pinned
  pinned_longest zero end p = refl
  pinned_longest (suc n) end p = next n end p (pinned_longest n end p) (eqb (pin_at pins end n) 0) refl

  pub placed_longest : (end : ℕ) (p : Vector) → longest (by_places operand pins end p) ≡ longest p
  unfolding by_places longest
  placed_longest end (edge e c) = pinned_longest 32 end _
  placed_longest end (join j p q) =
      let x = placed_longest (end - 1 - length (vector_bytes q)) p in
      let y = placed_longest (end - 1) q in
      pinned_longest 32 end _ ∙ rw (x, y) refl
  placed_longest end (while on_right p c) = placed_longest (end - 1 - length (boolean_bytes c)) p
  placed_longest end (while on_left p c) = placed_longest (end - 1) p

pub placed_too_long : (st : Boolean → ℕ → ℕ) (operand : ℕ → Boolean) (pins : List ℕ) (end : ℕ) (p : Vector)
    → NoBeyond (answer st (by_places operand pins end p)) (longest p)
placed_too_long st operand pins end p a b l =
    let e = placed_longest operand pins end p in too_long st (by_places operand pins end p) a b (omega arith)
