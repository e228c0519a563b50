-- The pins of a part, one after another.
--   place_held                          the states listed are those of an operand
--   Pinning, pinning_first, pinning_none, pinning_one, pinning_all     the pins among the entries so far
use Prim.Native.Nat.{ℕ, ◌+◌, ◌-◌, ◌≤◌}
use native.Mathlib.Omega.{arith}
use native.Mathlib.Numerals.{add-one}
use mathlib.Core.Path.{◌≡◌, refl}
use mathlib.Core.List.{List}
use lib.ListN.{length}
use borrow.Author.Tests.{eq-eqb, ne_eqb}
use Rattle.basics.specs.Words.{some}
use Rattle.alf.specs.declared.Rules.{Rules}
use Rattle.steady_pins.specs.Pinned.{pin_at}
use Rattle.steady_pins.proofs.PinMoves.{moves_none, moves_one}
use Rattle.evaluator.specs.Rows.{state_of}
use Rattle.answer_table.specs.Tables.{Column}
use Rattle.held_parts.specs.Holding.{Cleared, list_moves, place_moves, part_moves}
use Rattle.held_parts.proofs.Clearing.{cleared_none, cleared_then, cleared_as}

module _ {ρ : Rules} {tree states : List ℕ} {names first size : ℕ} where
  pub place_held : {place base : ℕ} {list t u : List ℕ} → Column ρ tree names states place first size list
      → Cleared (list_moves list) base size t u
      → Cleared (place_moves ρ tree place states names first) base size t u
  unfolding list_moves place_moves
  place_held {place} {list = list} c g =
      cleared_as {n = size} (omega arith) (λ a b l k.
      let e : first + b - 1 ≡ first + (b - 1) = omega arith in
      rw (e, ← (c.is b k).is, ← (c.is (b - 1) (omega arith)).is) refl) g

-- the pins among the first n entries of the part that ends at `end`
pub record Pinning (ρ : Rules) (tree pins : List ℕ) (end : ℕ) (states : List ℕ) (names first n base size : ℕ)
    (t u : List ℕ) : Type 0 where
  pub is : Cleared (part_moves ρ tree pins end states names first n) base size t u

module _ {ρ : Rules} {tree pins : List ℕ} {end : ℕ} {states : List ℕ} {names first base size : ℕ} {t : List ℕ} where
  pub pinning_first : length t ≡ 65536 → Pinning ρ tree pins end states names first 0 base size t t
  unfolding part_moves some
  pinning_first h = record { is = cleared_none h }

  module _ {n : ℕ} {u : List ℕ} (g : Pinning ρ tree pins end states names first n base size t u) where
    pub pinning_none : pin_at pins end n ≡ 0 → Pinning ρ tree pins end states names first (n + 1) base size t u
    unfolding part_moves
    pinning_none e =
        record {
          is = cleared_as {n = size} (omega arith) (λ a b l k.
              rw (add-one, moves_none (state_of ρ tree names states) pins end (first + b) n (eq-eqb _ _ e)) refl)
              g.is;
        }

    pub pinning_one : {v : List ℕ} → (pin_at pins end n ≡ 0 → ⊥)
        → Cleared (place_moves ρ tree (pin_at pins end n) states names first) base size u v
        → Pinning ρ tree pins end states names first (n + 1) base size t v
    unfolding part_moves place_moves
    pinning_one d h =
        record {
          is = cleared_as {n = size} (omega arith) (λ a b l k.
              rw (add-one, moves_one (state_of ρ tree names states) pins end (first + b) n (ne_eqb _ _ d)) refl)
              (cleared_then {n = size} (omega arith) g.is h);
        }

    pub pinning_all : n ≤ 32 → 32 ≤ n → Cleared (part_moves ρ tree pins end states names first 32) base size t u
    pinning_all l m = let e : 32 ≡ n = omega arith in rw e g.is
