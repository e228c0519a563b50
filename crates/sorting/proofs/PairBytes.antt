-- The tests of `pair_byte`, way by way: the byte of an operator of two by the sorts of its operands.
use mathlib.Core.Path.{◌≡◌}
use mathlib.Core.Bool.{Bool, true, false}
use Prim.Native.Nat.{ℕ, ◌≤◌, ◌<◌}
use borrow.Author.Tests.{eq-eqb, ne_eqb, lt-ltb, le-ltb}
use Rattle.sorting.specs.Passes.{pair_byte}

module _ {c : ℕ} {l r : Bool} where
  pub both_and : l ≡ true → r ≡ true → c ≡ 40 → 54 ≡ pair_byte c l r
  unfolding pair_byte
  both_and a b e = rw (a, b, eq-eqb c 40 e)

  pub both_or : l ≡ true → r ≡ true → (c ≡ 40 → ⊥) → c ≡ 41 → 55 ≡ pair_byte c l r
  unfolding pair_byte
  both_or a b n e = rw (a, b, ne_eqb c 40 n, eq-eqb c 41 e)

  pub both_below : l ≡ true → r ≡ true → (c ≡ 40 → ⊥) → (c ≡ 41 → ⊥) → c < 50
      → 255 ≡ pair_byte c l r
  unfolding pair_byte
  both_below a b n m e = rw (a, b, ne_eqb c 40 n, ne_eqb c 41 m, lt-ltb c 50 e)

  pub both_above : l ≡ true → r ≡ true → (c ≡ 40 → ⊥) → (c ≡ 41 → ⊥) → 50 ≤ c
      → c ≡ pair_byte c l r
  unfolding pair_byte
  both_above a b n m e = rw (a, b, ne_eqb c 40 n, ne_eqb c 41 m, le-ltb c 50 e)

  pub right_and : l ≡ true → r ≡ false → c ≡ 40 → 56 ≡ pair_byte c l r
  unfolding pair_byte
  right_and a b e = rw (a, b, eq-eqb c 40 e)

  pub right_other : l ≡ true → r ≡ false → (c ≡ 40 → ⊥) → 255 ≡ pair_byte c l r
  unfolding pair_byte
  right_other a b n = rw (a, b, ne_eqb c 40 n)

  pub left_and : l ≡ false → r ≡ true → c ≡ 40 → 57 ≡ pair_byte c l r
  unfolding pair_byte
  left_and a b e = rw (a, b, eq-eqb c 40 e)

  pub left_other : l ≡ false → r ≡ true → (c ≡ 40 → ⊥) → 255 ≡ pair_byte c l r
  unfolding pair_byte
  left_other a b n = rw (a, b, ne_eqb c 40 n)

  pub none_below : l ≡ false → r ≡ false → c < 50 → c ≡ pair_byte c l r
  unfolding pair_byte
  none_below a b e = rw (a, b, lt-ltb c 50 e)

  pub none_above : l ≡ false → r ≡ false → 50 ≤ c → 255 ≡ pair_byte c l r
  unfolding pair_byte
  none_above a b e = rw (a, b, le-ltb c 50 e)
