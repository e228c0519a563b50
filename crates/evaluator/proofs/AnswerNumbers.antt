-- An answer's number by its rank.
--   numbered_yes     what is neither no nor unknown is yes
use Prim.Native.Nat.{ℕ, zero, suc}
use mathlib.Core.Path.{◌≡◌, refl}
use Rattle.alf.specs.Windows.{numbered}

pub numbered_yes : (r : ℕ) → (r ≡ 0 → ⊥) → (r ≡ 1 → ⊥) → 1 ≡ numbered r
unfolding numbered
numbered_yes zero n o = absurd (n refl)
numbered_yes (suc zero) n o = absurd (o refl)
numbered_yes (suc (suc r)) n o = refl
