-- What the functions inside ask and give.
--   Wide       how many digits a number needs
--   Counted    what a share is reckoned from
use Rattle.std.specs.Prelude.{ℕ, ◌^◌, ◌<◌, ◌≤◌, ◌≡◌}
use Rattle.figures.specs.Numbers.{width}

-- how many digits a number below 2^64 needs
pub record Wide (n r : ℕ) : Type 0 where
  pub is : r ≡ width n
  pub some : 1 ≤ r
  pub few : r ≤ 20

-- counts of 32 bits, and some event
pub record Counted (yeses events : ℕ) : Type 0 where
  pub few : yeses < 2 ^ 32
  pub small : events < 2 ^ 32
  pub some : 0 < events
