-- Each entry of a list: each-none, each-more, each-all.
use mathlib.Core.Path.{◌≡◌}
use mathlib.Core.Logic.{◌⊎◌, inl, inr}
use mathlib.Core.List.{List}
use Prim.Native.Nat.{ℕ, ◌+◌, ◌<◌, ◌≤◌}
use native.Mathlib.Omega.{arith}
use lib.ListN.{length, get_or}
use Rattle.basics.proofs.Bools.{below?}
use Rattle.listed_acceptance.specs.Lists.{Each}

-- the first i entries are so
abbrev pub Upto : (ℕ → Type 0) → List ℕ → ℕ → Type 0
Upto so l i = (j : ℕ) → j < i → so (get_or l j 0)

pub upto_more : (so : ℕ → Type 0) (l : List ℕ) (i : ℕ) → Upto so l i → so (get_or l i 0) → Upto so l (i + 1)
upto_more so l i h s j m = go (below? j i)
  where
    go : (j < i) ⊎ (i ≤ j) → so (get_or l j 0)
    go (inl k) = h j k
    go (inr k) = let e : j ≡ i = omega arith in rw e s

pub upto_all : (so : ℕ → Type 0) (l : List ℕ) (i : ℕ) → length l ≤ i → Upto so l i → Each so l
upto_all so l i h u j m = u j (omega arith)
