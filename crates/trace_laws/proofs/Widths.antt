-- The fewest bytes of a time.
--   fewest_fits      each time of a trace fits into its fewest bytes
--   fewest-or-eight  a width that fits is the fewest, or eight where four would do
use mathlib.Core.Path.{◌≡◌, refl}
use mathlib.Core.List.{List}
use mathlib.Core.Logic.{◌⊎◌, inl, inr}
use Prim.Native.Nat.{ℕ, ◌^◌, ◌<◌, ◌≤◌}
use native.Mathlib.Omega.{arith}
use lib.ListN.{get_or}
use borrow.Author.Tests.{lt-ltb, le-ltb}
use Rattle.basics.proofs.Bools.{below?}
use Rattle.trace_format.specs.Format.{Fits, Fitting, fewest, fewest_of, Trace}

pub fewest_4 : (t : ℕ) → t < 4294967296 → fewest t ≡ 4
unfolding fewest
fewest_4 t h = rw (lt-ltb t 4294967296 h)

pub fewest_8 : (t : ℕ) → 4294967296 ≤ t → fewest t ≡ 8
unfolding fewest
fewest_8 t h = rw (le-ltb t 4294967296 h)

fewest_fits_one : (t : ℕ) → t < 2 ^ 64 → Fits (fewest t) t
fewest_fits_one t h = go (below? t 4294967296)
  where
    go : (t < 4294967296) ⊎ (4294967296 ≤ t) → Fits (fewest t) t
    go (inl l) = rw (fewest_4 t l) (record { kind = inl refl; small = omega arith })
    go (inr l) = rw (fewest_8 t l) (record { kind = inr refl; small = omega arith })

pub fewest_fits : {names times states : List ℕ} {n : ℕ} → Trace names times states n → Fitting (fewest_of times) times n
fewest_fits {times = times} t r h = fewest_fits_one (get_or times r 0) (t.words r)
