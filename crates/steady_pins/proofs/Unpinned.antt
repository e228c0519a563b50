-- Without pins the expression of a tree, by its places, is the one that is written.
-- Main names: pinned_none, placed_none.
use Prim.Native.Nat.{ℕ, zero, suc, ◌+◌, ◌-◌, ◌*◌, ◌≤◌}
use mathlib.Core.Path.{◌≡◌, refl}
use mathlib.Core.List.{List}
use lib.ListN.{get_or}
use borrow.Author.Tests.{eq-eqb}
use Rattle.alf.specs.Expressions.{Boolean, Vector}
use Rattle.trees.specs.Parts.{EndsVector, vector_at, boolean_at, Start}
use Rattle.trees.proofs.Vectors.{Conditioned, Joined, edge_is, before_is, before_ends}
use Rattle.steady_pins.specs.Pinned.{pinned, by_places}
use Rattle.steady_pins.proofs.Starting.{vector_start, boolean_start}
use Rattle.steady_pins.proofs.TreeInduction.{Cases, by_parts}

module _ (pins : List ℕ) (none : (i : ℕ) → get_or pins i 0 ≡ 0) where
  pub pinned_none : (operand : ℕ → Boolean) (n end : ℕ) (p : Vector) → pinned operand pins n end p ≡ p
  unfolding pinned
  pinned_none operand zero end p = refl
  pinned_none operand (suc n) end p =
      rw (eq-eqb _ 0 (none ((end - 1) * 32 + n))) (pinned_none operand n end p)

  module _ (t : List ℕ) (names : ℕ) where
    abbrev Written : ℕ → Type 0
    Written end = by_places (boolean_at t names) pins end (vector_at t names end) ≡ vector_at t names end

    edge_written : (end : ℕ) → EndsVector t names end → 64 ≤ get_or t (end - 1) 0 → Written end
    unfolding by_places
    edge_written end h k = rw (edge_is t names end h k) (pinned_none (boolean_at t names) 32 end _)

    before_written : (end m : ℕ) → EndsVector t names end → get_or t (end - 1) 0 ≡ 57 → Start t names (end - 1) m
        → Written (end - 1)
        → Written end
    unfolding by_places
    before_written end m h k s e =
        let v = vector_start t names (end - 1) (before_ends t names end h k) s in
        rw (before_is t names end h k, v, e, s.left) refl

    condition_written : (end m : ℕ) → EndsVector t names end → Conditioned t names end m
        → Start t names (end - 1) m
        → Written m
        → Written end
    unfolding by_places
    condition_written end m h c s e =
        let v = boolean_start t names (end - 1) c.right s in
        rw (c.is, v, e) refl

    join_written : (end m : ℕ) → EndsVector t names end → Joined t names end m → Start t names (end - 1) m
        → Written m → Written (end - 1) → Written end
    unfolding by_places
    join_written end m h j s e d =
        let v = vector_start t names (end - 1) j.right s in
        rw (j.is, v, e, d) (pinned_none (boolean_at t names) 32 end _)

    written_cases : Cases t names Written
    written_cases =
        record {
          on_edge = edge_written;
          on_before = before_written;
          on_condition = condition_written;
          on_join = join_written;
        }

    pub placed_none : (end : ℕ) → EndsVector t names end
        → by_places (boolean_at t names) pins end (vector_at t names end) ≡ vector_at t names end
    placed_none end h = by_parts written_cases end h
