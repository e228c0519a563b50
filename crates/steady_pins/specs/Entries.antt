-- The entries of a part of a tree among the pins.
--   Entries, PinNumber      they are there; how many pins are among them
use Rattle.std.specs.Prelude.{ℕ, ◌<◌, ◌≤◌, ◌≡◌, List, length}
use Rattle.steady_pins.specs.Pinned.{pin_count_lem}

-- the pins of a tree of at most 256 bytes have entries for the part that ends at `end`
pub record Entries (pins : List ℕ) (end : ℕ) : Type 0 where
  pub long : length pins ≡ 8192
  pub some : 0 < end
  pub few : end ≤ 256

pub record PinNumber (pins : List ℕ) (end n : ℕ) : Type 0 where
  pub is : n ≡ pin_count_lem pins end 32
  pub few : n ≤ 32
