-- Document 02, [11], "Partners' pins blanked": what an answer depends on, and what a partner may send. The pins that an
-- expression names are defined in named_pins, the overwritten trace in blank_calls.
--   SamePins           two traces agree on some pins "in the last K+1 rows, fewer near the start"
--   sent               what a partner may send for a row: its last K+1 rows, fewer near the start, so overwritten
use Rattle.std.specs.Prelude.{ℕ, ◌+◌, ◌-◌, ◌≤◌, min, ◌≡◌, Bool, true, List}
use Rattle.alf.specs.Values.{row_of}
use Rattle.queue.specs.Queues.{fed}
use Rattle.blank_calls.specs.Overwritten.{blanked_row}

-- rows i and j of two traces, and the K rows before each, fewer near the start, have the same states of these pins; and
-- "the row number up to K" is the same
pub record SamePins (pins : ℕ → Bool) (K k : ℕ) (states states' : List ℕ) (i j : ℕ) : Type 0 where
  pub number : min i K ≡ min j K
  pub same : (d n : ℕ) → d ≤ K → d ≤ i → pins n ≡ true → row_of k states (i - d) n ≡ row_of k states' (j - d) n

-- the last K+1 rows up to row i
abbrev pub sent : (ℕ → Bool) → (ℕ → ℕ → ℕ) → ℕ → ℕ → ℕ → List ℕ → List ℕ
sent pins other K k i states = fed (λ r. blanked_row pins other k states (i - min i K + r)) (min i K + 1)
