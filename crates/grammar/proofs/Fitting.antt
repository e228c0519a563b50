-- A pair of brackets more, where level l is asked for and level m is weaker: laws of `deepened`, for how many pairs
-- there are and for how deep they open. Main names: deepened_open, deepened_more, deepened_plain, deepened_less.
use Rattle.std.specs.Prelude.{if◌then◌else◌}
use Prim.Native.Nat.{ℕ, suc, ◌≤◌}
use native.Mathlib.Omega.{arith}
use mathlib.Core.Path.{◌≡◌, refl}
use mathlib.Core.Bool.{Bool, true, false}
use lib.Dec.{leb}
use borrow.Author.Tests.{le-leb, leb-true}
use Rattle.grammar.specs.Written.{deepened}

pub deepened_open : (l m n : ℕ) → deepened l m n ≤ suc n
unfolding deepened
deepened_open l m n = go (leb m l)
  where
    go : (b : Bool) → (if b then n else suc n) ≤ suc n
    go true = omega arith
    go false = omega arith

pub deepened_more : (l m n : ℕ) → n ≤ deepened l m n
unfolding deepened
deepened_more l m n = go (leb m l)
  where
    go : (b : Bool) → n ≤ (if b then n else suc n)
    go true = omega arith
    go false = omega arith

pub deepened_plain : (l m n : ℕ) → m ≤ l → deepened l m n ≡ n
unfolding deepened
deepened_plain l m n h = rw (le-leb m l h)

deepened_shut : (l m n : ℕ) → leb m l ≡ false → deepened l m n ≡ suc n
unfolding deepened
deepened_shut l m n e = rw e

pub deepened_less : (l m n : ℕ) → deepened (suc l) m n ≤ deepened l m n
deepened_less l m n = go (leb m l) refl
  where
    go : (b : Bool) → leb m l ≡ b → deepened (suc l) m n ≤ deepened l m n
    go true q =
        let h : m ≤ l = leb-true m l q in
        omega (arith, deepened_plain (suc l) m n (omega arith), deepened_more l m n)
    go false q = omega (arith, deepened_open (suc l) m n, deepened_shut l m n q)
