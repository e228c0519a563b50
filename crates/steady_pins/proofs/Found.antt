-- The pins of a tree are those of document 02, [2].
--   found_means              a tree with its pins is what is meant: the filled expression where the rules say so
--   found_pins               each pin is a place where a boolean expression ends
use Rattle.std.specs.Prelude.{if◌then◌else◌}
use Prim.Native.Nat.{ℕ, ◌≤◌}
use native.Mathlib.Omega.{arith}
use mathlib.Core.Path.{◌≡◌, sym, ◌∙◌}
use mathlib.Core.Bool.{Bool, true, false}
use mathlib.Core.List.{List}
use lib.ListN.{replicate, length-replicate}
use Rattle.alf.specs.declared.Rules.{Rules}
use Rattle.alf.specs.Expressions.{Vector}
use Rattle.alf.specs.Steady.{meant, filled}
use Rattle.steady_laws.proofs.Besides.{filled_beside_lem}
use Rattle.trees.specs.Parts.{EndsBoolean, vector_at, boolean_at}
use Rattle.trees.proofs.Starts.{of_boolean, ends_pos}
use Rattle.steady_pins.specs.Pinned.{by_places, Pins}
use Rattle.steady_pins.specs.Finding.{Tree, alone, marked, pins_of}
use Rattle.steady_pins.proofs.Placed.{Placed, placed_map, tree_placed, Operand}
use Rattle.steady_pins.proofs.BesideLike.{Here, zeros, alone_like}
use Rattle.steady_pins.proofs.Unpinned.{placed_none}
use Rattle.steady_pins.proofs.MarkedPins.{marked_long}
use Rattle.steady_pins.proofs.PinEntries.{Entries, zeros_entries, near_alone, marked_entries}
use Rattle.steady_pins.proofs.FoundParts.{Clear, part_found}

blank_clear : {end n : ℕ} → end ≤ 256 → Clear end n (replicate 8192 0)
blank_clear l =
    record { room = let e = length-replicate {A = ℕ} 8192 0 in omega arith; none = λ i o. zeros i 8192 }

module _ {t : List ℕ} {names : ℕ} where
  placed_here : {end : ℕ} {p : Vector} → Placed (Operand t names) end p → Placed (Here (boolean_at t names)) end p
  placed_here = placed_map (λ i c r. (r.is, ends_pos (of_boolean r.ends)))

  placed_each : {end : ℕ} {p : Vector} → Placed (Operand t names) end p → Placed (λ i c. EndsBoolean t names i) end p
  placed_each = placed_map (λ i c r. r.ends)

  pub found_means : (ρ : Rules) {end : ℕ} → Tree t names end
      → by_places (boolean_at t names) (pins_of ρ t names end) end (vector_at t names end) ≡ meant ρ (vector_at t names end)
  unfolding pins_of meant
  found_means ρ {end} h = go ρ.steady_pins
    where
      go : (q : Bool)
          → by_places (boolean_at t names)
          (if q then marked end (vector_at t names end) alone alone (replicate 8192 0) else replicate 8192 0) end
          (vector_at t names end)
          ≡ (if q then filled (vector_at t names end) else vector_at t names end)
      go true =
          part_found (boolean_at t names) (placed_here (tree_placed t names end h.ends))
          (alone_like (boolean_at t names)) (alone_like (boolean_at t names)) (replicate 8192 0) (blank_clear h.few)
          ∙ sym (filled_beside_lem (vector_at t names end))
      go false = placed_none (replicate 8192 0) (λ i. zeros i 8192) t names end h.ends

  pub found_pins : (ρ : Rules) {end : ℕ} → Tree t names end → Pins t names (pins_of ρ t names end)
  unfolding pins_of
  found_pins ρ {end} h = go ρ.steady_pins
    where
      blank : Entries (EndsBoolean t names) (replicate 8192 0)
      blank = zeros_entries (EndsBoolean t names) 8192

      go : (q : Bool) → Pins t names
          (if q then marked end (vector_at t names end) alone alone (replicate 8192 0) else replicate 8192 0)
      go true =
          record {
            long = marked_long end (vector_at t names end) alone alone (replicate 8192 0)
                ∙ length-replicate {A = ℕ} 8192 0;
            stands = (marked_entries (EndsBoolean t names) (placed_each (tree_placed t names end h.ends))
                (near_alone (EndsBoolean t names)) (near_alone (EndsBoolean t names)) blank).is;
          }
      go false = record { long = length-replicate {A = ℕ} 8192 0; stands = blank.is }
