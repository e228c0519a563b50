-- Where a part's pins say no: a pin is an operand's `?-`, so none of them may change its state at the last event of a
-- window.
--   pin_moves, pins_move     the pin of an entry changes its state at a row; one of the first n entries' pins does
use Rattle.std.specs.Prelude.{ℕ, ◌-◌, Bool, not, ◌&&◌, List, eqb}
use Rattle.basics.specs.Words.{some}
use Rattle.steady_pins.specs.Pinned.{pin_at}

-- `c` is the state of the operand that ends at a place, at each row
module _ (c : ℕ → ℕ → ℕ) (pins : List ℕ) (end : ℕ) where
  -- entry k of the part that ends at `end` is a pin, and its operand has another state at row b than at the row before
  unfoldable pub pin_moves : ℕ → ℕ → Bool
  pin_moves b k =
      not (eqb (pin_at pins end k) 0) && not (eqb (c (pin_at pins end k) (b - 1)) (c (pin_at pins end k) b))

  abbrev pub pins_move : ℕ → ℕ → Bool
  pins_move n b = some n (pin_moves b)
