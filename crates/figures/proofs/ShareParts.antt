-- The share, in parts.
--   share_none, share_some    the share by cases
--   point_start               millionths with a point: the parts that are to be written
--   share_length              the share of two numbers of 32 bits has at most 27 bytes
use Prim.Native.Nat.{ℕ, ◌+◌, ◌-◌, ◌*◌, ◌/◌, ◌^◌, ◌<◌, ◌≤◌}
use native.Mathlib.Nat.{div-le_self}
use native.Mathlib.Omega.{arith}
use mathlib.Core.Logic.{◌⊎◌, inl, inr}
use mathlib.Core.Path.{◌≡◌, refl, sym, ap}
use mathlib.Core.List.{List, [], ◌∷◌, ◌++◌, append-nil}
use lib.ListN.{length, length-append}
use mir.Val.{Fits}
use mir.Syntax.{w32, w64}
use borrow.Author.Tests.{ne_eqb}
use Rattle.basics.specs.Memory.{Room}
use Rattle.basics.proofs.Bools.{below?}
use Rattle.basics.proofs.PartByPart.{Going, going_start}
use Rattle.figures.specs.Numbers.{digits, decimal}
use Rattle.figures.specs.Share.{millionths, with_point, share}
use Rattle.figures.proofs.Digits.{digits_length, decimal_short}

-- the share, in parts
pub share_none : (yeses n : ℕ) → n ≤ 1 → share yeses n ≡ 45 ∷ []
unfolding share
share_none yeses n h = let e : n - 1 ≡ 0 = omega arith in rw e refl

small_millionths : (yeses events : ℕ) → millionths yeses events ≤ 2 * yeses * 1000000 + events
unfolding millionths
small_millionths yeses events = div-le_self (2 * yeses * 1000000 + events) (2 * events)

pub share_some : (yeses n : ℕ) → 1 < n → share yeses n ≡ with_point (millionths yeses (n - 1))
unfolding share
share_some yeses n h = rw (ne_eqb (n - 1) 0 (λ e. omega arith)) refl

pub point_start : (m : ℕ) (out : List ℕ) (at : ℕ) → Room out at (with_point m)
    → Going out at (with_point m) (decimal (m / 1000000) ∷ (46 ∷ []) ∷ digits 6 m ∷ []) out at
unfolding with_point
point_start m out at r =
    going_start _ (ap (λ (l : List ℕ). decimal (m / 1000000) ++ (46 ∷ l)) (sym (append-nil (digits 6 m)))) r

point_short : (yeses events : ℕ) → yeses < 2 ^ 32 → events < 2 ^ 32
    → length (with_point (millionths yeses events)) ≤ 27
unfolding with_point
point_short yeses events f g =
    let m : millionths yeses events ≤ 2 * yeses * 1000000 + events = small_millionths yeses events in
    let h : Fits w64 (millionths yeses events / 1000000) = record { fits = omega arith } in
    simp length-append (omega (
      arith,
      decimal_short (millionths yeses events / 1000000) h,
      digits_length 6 (millionths yeses events),
    ))

pub share_length : (yeses n : ℕ) → Fits w32 yeses → Fits w32 n → length (share yeses n) ≤ 27
share_length yeses n f g = go (below? 1 n)
  where
    go : (1 < n) ⊎ (n ≤ 1) → length (share yeses n) ≤ 27
    go (inl h) =
        let s : n - 1 < 2 ^ 32 = omega (arith, g.fits) in
        omega (arith, ap length (share_some yeses n h), point_short yeses (n - 1) f.fits s)
    go (inr h) = omega (arith, ap length (share_none yeses n h))
