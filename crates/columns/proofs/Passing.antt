-- A law of passes; those of what is written from a rule are passed on.
--   tried_fits      one more try fits an entry
use Rattle.std.specs.Prelude.{if◌then◌else◌}
use mathlib.Core.Path.{◌≡◌}
use mathlib.Core.List.{List}
use Prim.Native.Nat.{ℕ, ◌+◌, ◌<◌, ◌≤◌}
use native.Mathlib.Omega.{arith}
use mathlib.Core.Bool.{Bool, true, false}
use lib.Dec.{eqb}
use lib.ListN.{get_or}
use Rattle.basics.proofs.Stores.{Writing}
use Rattle.columns.specs.Passes.{Counted}
use Rattle.state_columns.proofs.Overs.{front_ahead}
pub use Rattle.state_columns.proofs.Overs.{writing_ahead, front_ahead, over_length, over_inside, over_before}
pub use Rattle.state_columns.proofs.Overs.{over_behind, front_inside, over_end, over_filled}

-- one more try fits an entry
pub tried_fits : {tries₀ : List ℕ} {n : ℕ} {best w tries : List ℕ} {i : ℕ} → Writing tries₀ 0 w tries i
    → Counted tries₀ n best → i < n → (v : ℕ) → v ≡ (if eqb (get_or best i 0) 2 then 0 else 1)
    → get_or tries i 0 + v < 256
tried_fits {best = best} {i = i} g h l v e =
    omega (arith, front_ahead g, h.small i l, go (eqb (get_or best i 0) 2))
  where
    go : (b : Bool) → (if b then 0 else 1) ≤ 1
    go true = omega arith
    go false = omega arith
