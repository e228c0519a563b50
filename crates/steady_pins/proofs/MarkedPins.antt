-- The table of a tree: how long it is, and what it is by the rules.
--   step_long, marked_long             the table stays as long as it is
--   found_on, found_off                the pins of a tree, by its rules
use Rattle.std.specs.Prelude.{if◌then◌else◌}
use Prim.Native.Nat.{ℕ, ◌-◌, ◌*◌}
use mathlib.Core.Path.{◌≡◌, refl, ap, ◌∙◌}
use mathlib.Core.Bool.{Bool, true, false, ◌&&◌}
use mathlib.Core.List.{List}
use lib.ListN.{length, replicate}
use lib.Seq.{sets}
use Rattle.alf.specs.declared.Rules.{Rules}
use Rattle.alf.specs.Expressions.{Vector, edge, join, while, on_right, on_left}
use Rattle.alf.specs.Bytes.{vector_bytes}
use Rattle.alf.specs.Steady.{is_then, is_step_lem, moves}
use Rattle.basics.proofs.Stores.{sets_length}
use Rattle.trees.specs.Parts.{vector_at}
use Rattle.steady_pins.specs.declared.finding.Beside.{Beside}
use Rattle.steady_pins.specs.Finding.{alone, pin_row, step_marked, marked, pins_of}

-- the table stays as long as it is
pub step_long : (before : Beside) (end : ℕ) (p : Vector) (after : Beside) (l : List ℕ)
    → length (step_marked before end p after l) ≡ length l
unfolding step_marked
step_long before end p after l = go (before.changing && (moves p && after.changing))
  where
    go : (q : Bool) → length (if q then sets l ((end - 1) * 32) (pin_row before end p after) else l) ≡ length l
    go true = sets_length l ((end - 1) * 32) (pin_row before end p after)
    go false = refl

pub marked_long : (end : ℕ) (p : Vector) (before after : Beside) (l : List ℕ)
    → length (marked end p before after l) ≡ length l
unfolding marked
marked_long end (edge e c) before after l = step_long before end (edge e c) after l
marked_long end (join j p q) before after l =
    go _ _ (is_then j) (is_step_lem (join j p q))
    (marked_long (end - 1) q _ _ _ ∙ marked_long (end - 1 - length (vector_bytes q)) p _ _ l)
    (marked_long (end - 1) q _ _ _ ∙ marked_long (end - 1 - length (vector_bytes q)) p _ _ l)
  where
    go : (x y : List ℕ) (u v : Bool) → length x ≡ length l → length y ≡ length l
        → length (if u then x else if v then step_marked before end (join j p q) after l else y) ≡ length l
    go x y true v a b = a
    go x y false true a b = step_long before end (join j p q) after l
    go x y false false a b = b
marked_long end (while on_right p c) before after l = marked_long _ p _ _ l
marked_long end (while on_left p c) before after l = marked_long _ p _ _ l

-- the pins of a tree, by its rules
module _ (ρ : Rules) (t : List ℕ) (names end : ℕ) where
  pub found_on : {blank pins : List ℕ} → ρ.steady_pins ≡ true → blank ≡ replicate 8192 0
      → pins ≡ marked end (vector_at t names end) alone alone blank → pins ≡ pins_of ρ t names end
  unfolding pins_of
  found_on h b e = rw h (e ∙ ap (marked end (vector_at t names end) alone alone) b)

  pub found_off : {blank : List ℕ} → ρ.steady_pins ≡ false → blank ≡ replicate 8192 0 → blank ≡ pins_of ρ t names end
  unfolding pins_of
  found_off h b = rw h b
