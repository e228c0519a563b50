-- An edge from its number, and a half from its number: what the code's tests on numbers say of the definitions.
-- Main names: half_any, half_the (a half from its number), edge_pair, edge_changes, edge_stays (an edge from its
-- number).
use mathlib.Core.Path.{◌≡◌, refl}
use Prim.Native.Nat.{ℕ, zero, suc, ◌-◌, ◌/◌, ◌%◌, ◌<◌, ◌≤◌}
use native.Mathlib.Numerals.{sub-one}
use borrow.Author.Tests.{lt-ltb, le-ltb, ne_eqb}
use Rattle.alf.specs.Expressions.{any, the, pair, changes, stays}
use Rattle.alf.specs.Decoder.{half_at, edge_at}

pub half_any : (h : ℕ) → h ≡ 0 → half_at h ≡ any
unfolding half_at
half_any h e = rw e refl

pub half_the : (h : ℕ) → (h ≡ 0 → ⊥) → half_at h ≡ the (h - 1)
unfolding half_at
half_the zero n = absurd (n refl)
half_the (suc s) n = rw sub-one refl

pub edge_pair : (k : ℕ) → k < 81 → edge_at k ≡ pair (half_at (k / 9)) (half_at (k % 9))
unfolding edge_at
edge_pair k h = rw (lt-ltb k 81 h) refl

pub edge_changes : (k : ℕ) → k ≡ 81 → edge_at k ≡ changes
unfolding edge_at
edge_changes k e = rw e refl

pub edge_stays : (k : ℕ) → 81 ≤ k → (k ≡ 81 → ⊥) → edge_at k ≡ stays
unfolding edge_at
edge_stays k h n = rw (le-ltb k 81 h, ne_eqb k 81 n) refl
