-- A list of names that is passed has at most 32: names_few.
use Prim.Native.Nat.{ℕ, ◌<◌, ◌≤◌}
use native.Mathlib.Omega.{arith}
use mathlib.Core.Path.{refl}
use mathlib.Core.Logic.{◌⊎◌, inl, inr}
use mathlib.Core.List.{List}
use Rattle.basics.proofs.Bools.{below?}
use Rattle.alf.specs.Names.{names_in}
use Rattle.alf.specs.Refusals.{Passed}
use Rattle.names.specs.Check.{names_order}

pub names_few : (names : List ℕ) → Passed (names_order names) → names_in names ≤ 32
unfolding Passed
names_few names h = go (below? 32 (names_in names))
  where
    go : (32 < names_in names) ⊎ (names_in names ≤ 32) → names_in names ≤ 32
    go (inl l) = absurd (h.0 0 (record { given = λ s. omega (arith, s.few); there = refl }))
    go (inr l) = l
