-- The share's rule is rounding half up to millionths.
--   share_rounds    the millionths lie at most half a millionth above the share, and less than that below
--   share_unique    no other number of millionths is so
use Prim.Native.Nat.{ℕ, ◌+◌, ◌*◌, ◌<◌, ◌≤◌}
use native.Mathlib.Nat.{div-mul-le_self, lt-div-mul-add, div-eq_of_lt-le, add-mul}
use native.Mathlib.Omega.{arith}
use mathlib.Core.Path.{◌≡◌, sym}
use Rattle.figures.specs.Share.{millionths}

-- m / 1000000 lies at most half a millionth above yeses / events, and less than that below
pub record Rounds (yeses events m : ℕ) : Type 0 where
  pub not_above : m * (2 * events) ≤ 2 * yeses * 1000000 + events
  pub not_below : 2 * yeses * 1000000 + events < (m + 1) * (2 * events)

pub share_rounds : (yeses events : ℕ) → 0 < events → Rounds yeses events (millionths yeses events)
unfolding millionths
share_rounds yeses events h =
    let p : 0 < 2 * events = omega arith in
    record {
      not_above = div-mul-le_self (2 * yeses * 1000000 + events) (2 * events);
      not_below = omega (
        arith,
        add-mul (millionths yeses events) 1 (2 * events),
        lt-div-mul-add {a = 2 * yeses * 1000000 + events} p,
      );
    }

pub share_unique : (yeses events m : ℕ) → Rounds yeses events m → m ≡ millionths yeses events
unfolding millionths
share_unique yeses events m r =
    sym (div-eq_of_lt-le (2 * events) r.not_above r.not_below)
