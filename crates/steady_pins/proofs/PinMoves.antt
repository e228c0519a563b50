-- A part's pins entry after entry: an entry without a pin, and with one.
--   moves_none, moves_one       whether a pin moves
--   pinned_none, pinned_one     the part with its pins' tests
use Prim.Native.Nat.{ℕ, suc, ◌-◌}
use mathlib.Core.Path.{◌≡◌, refl}
use mathlib.Core.Bool.{Bool, true, false, not, ◌||◌}
use mathlib.Core.List.{List}
use lib.Dec.{eqb}
use Rattle.basics.specs.Words.{some}
use Rattle.alf.specs.Expressions.{Boolean, Vector, edge, join, with, stays}
use Rattle.steady_pins.specs.Pinned.{pin_at, pinned}
use Rattle.steady_pins.specs.Moving.{pin_moves, pins_move}

or_none : (s : Bool) → (s || false) ≡ s
or_none true = refl
or_none false = refl

module _ (c : ℕ → ℕ → ℕ) (pins : List ℕ) (end b n : ℕ) where
  pub moves_none : eqb (pin_at pins end n) 0 ≡ true → pins_move c pins end (suc n) b ≡ pins_move c pins end n b
  unfolding some pin_moves
  moves_none e = rw e (or_none (pins_move c pins end n b))

  pub moves_one : eqb (pin_at pins end n) 0 ≡ false
      → pins_move c pins end (suc n) b
      ≡ (pins_move c pins end n b || not (eqb (c (pin_at pins end n) (b - 1)) (c (pin_at pins end n) b)))
  unfolding some pin_moves
  moves_one e = rw e refl

module _ (operand : ℕ → Boolean) (pins : List ℕ) (end : ℕ) (p : Vector) (n : ℕ) where
  pub pinned_none : eqb (pin_at pins end n) 0 ≡ true → pinned operand pins (suc n) end p ≡ pinned operand pins n end p
  unfolding pinned
  pinned_none e = rw e refl

  pub pinned_one : eqb (pin_at pins end n) 0 ≡ false
      → pinned operand pins (suc n) end p
      ≡ join with (pinned operand pins n end p) (edge stays (operand (pin_at pins end n)))
  unfolding pinned
  pinned_one e = rw e refl
