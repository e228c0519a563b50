-- The number of alternatives of the vector expression that ends at a place, counted no further than 65, from those of
-- its operands.
-- Main names: counts_small, edge_number_lem, before_number, condition_number, join_number, joins.
use Prim.Native.Nat.{ℕ, ◌-◌, ◌*◌, ◌≤◌, min}
use native.Mathlib.Omega.{arith}
use native.Mathlib.Nat.{mul-le-mul}
use mathlib.Core.Path.{◌≡◌, refl}
use mathlib.Core.List.{List}
use lib.ListN.{get_or}
use Rattle.alf.specs.Decoder.{join_at}
use Rattle.alf.specs.Alternatives.{number_of_alternatives}
use Rattle.trees.specs.Parts.{EndsVector, vector_at}
use Rattle.alternatives.specs.Picks.{count_of}
use Rattle.acceptance.specs.Sizes.{Counts}
use Rattle.trees.proofs.Vectors.{Conditioned, Joined, edge_is, before_is}
use Rattle.acceptance.proofs.CappedCounts.{number_edge, number_while, number_join, number_some, cap_count}

pub counts_small : {b n m : ℕ} → Counts b n m → n * m ≤ 4225
counts_small o = mul-le-mul o.left o.right

-- what a count is
abbrev pub Number : List ℕ → ℕ → ℕ → ℕ → Type 0
Number t names end r = r ≡ min 65 (number_of_alternatives (vector_at t names end))

module _ (t : List ℕ) (names end : ℕ) where
  pub edge_number_lem : EndsVector t names end → 64 ≤ get_or t (end - 1) 0 → Number t names end 1
  edge_number_lem h k = rw (edge_is t names end h k, number_edge) refl

  pub before_number : {r : ℕ} → EndsVector t names end → get_or t (end - 1) 0 ≡ 57 → Number t names (end - 1) r
      → Number t names end r
  before_number h k e = rw (before_is t names end h k, number_while) e

  pub condition_number : {r m : ℕ} → Conditioned t names end m → Number t names m r → Number t names end r
  condition_number c e = rw (c.is, number_while) e

  module _ {m x y : ℕ} (j : Joined t names end m) (e : Number t names m x) (d : Number t names (end - 1) y) where
    pub join_number : {r : ℕ} → r ≡ min 65 (count_of (join_at (get_or t (end - 1) 0 - 50)) x y)
        → Number t names end r
    join_number g = rw (j.is, number_join, cap_count _ _ _ (number_some _) (number_some _), ← e, ← d) g

    pub joins : Counts (get_or t (end - 1) 0) x y
    joins = record { joins = j.low; no_more = j.high; left = omega arith; right = omega arith }
