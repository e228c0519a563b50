-- What the code that writes a step has tested, case by case of the last byte, and what follows for the operands' steps.
-- Main names: placing_pos, placing_end, placing_shaping; edge_room, edge_pins_room, edge_written; Held, before_held,
-- condition_held, held_stepping, held_room, held_written; joined.
use Prim.Native.Nat.{ℕ, ◌-◌, ◌<◌, ◌≤◌}
use native.Mathlib.Omega.{arith}
use mathlib.Core.Path.{◌≡◌, ◌∙◌}
use mathlib.Core.List.{List, ◌++◌}
use lib.ListN.{length, get_or}
use Rattle.trees.specs.Parts.{Start}
use Rattle.trees.proofs.Vectors.{Joined, vector_pos, condition_is, join_is}
use Rattle.alf.specs.Expressions.{name}
use Rattle.steady_pins.specs.Pinned.{pin_tests}
use Rattle.acceptance.specs.Notes.{Noted}
use Rattle.acceptance.specs.Sizes.{alternative_at, Shaping}
use Rattle.acceptance.proofs.NotedParts.{noted_part}
use Rattle.step_tests.specs.Steps.{step_at, Placing, Stepping, Put, Fits, OnePut, PinsFit}
use Rattle.step_tests.proofs.StepTests.{edge_fits, edge_pins, edge_put, held, held_fits, held_put}
use Rattle.step_tests.proofs.StepTests.{before_same, before_whole, before_placing}
use Rattle.step_tests.proofs.StepTests.{condition_same, condition_whole, condition_placing}

-- the step is that of the expression that ends at `part`, and the test of the condition that ends at `place`
pub record Held (pins t : List ℕ) (names end a j : ℕ) (edges operands : List ℕ) (from part place : ℕ) : Type 0 where
  pub whole : Placing pins t names end a j edges operands from
  pub inner : Placing pins t names part a j edges operands from
  pub is : step_at pins t names end a j ≡ step_at pins t names part a j ++ held place
  pub same : length (alternative_at name pins t names part a) ≡ length (alternative_at name pins t names end a)
  pub shorter : part < end
  pub small : place < 65536

module _ {pins t : List ℕ} {names end a j : ℕ} {edges operands : List ℕ} {from : ℕ}
    (h : Placing pins t names end a j edges operands from) where
  -- an expression has a last byte, and ends within the 256 that there may be
  pub placing_pos : 0 < end
  placing_pos = vector_pos t names end h.chosen.ends

  pub placing_end : end ≤ 256
  placing_end = omega (arith, h.few, h.chosen.ends.within)

  -- the pins have entries for each part
  pub placing_shaping : Shaping pins t names end a
  placing_shaping = record { chosen = h.chosen; small = placing_end; long = h.long }

  -- the step is there, since there are more than j
  module _ {n : ℕ} (g : length (alternative_at name pins t names end a) ≡ n) (l : j < n) where
    there : j < length (alternative_at name pins t names end a)
    there = omega arith

    -- an edge
    pub edge_room : 64 ≤ get_or t (end - 1) 0 → Fits (end - 1) edges operands from
    edge_room k = edge_fits h k (there)

    module _ {next : ℕ} {edges' operands' : List ℕ} (k : 64 ≤ get_or t (end - 1) 0)
        (q : OnePut (get_or t (end - 1) 0 - 64) (end - 1) from edges operands next edges' operands') where
      pub edge_pins_room : PinsFit pins end 32 edges' operands' next
      edge_pins_room = edge_pins h k (there) q

      pub edge_written : {last : ℕ} {edges'' operands'' : List ℕ}
          → Put (pin_tests name pins 32 end) next edges' operands' last edges'' operands''
          → Put (step_at pins t names end a j) from edges operands last edges'' operands''
      edge_written r = edge_put h k (there) q r

    -- c & P, and P & c
    module _ {m : ℕ} (s : Start t names (end - 1) m) where
      pub before_held : get_or t (end - 1) 0 ≡ 57 → Held pins t names end a j edges operands from (end - 1) m
      before_held k =
          record {
            whole = h;
            inner = before_placing h s k there;
            is = before_whole h s k there;
            same = before_same h s k there;
            shorter = omega (arith, placing_pos);
            small = omega (arith, placing_end, s.before);
          }

      pub condition_held : get_or t (end - 1) 0 ≡ 56 → Held pins t names end a j edges operands from m (end - 1)
      condition_held k =
          let c = condition_is t names end h.chosen.ends s k in
          record {
            whole = h;
            inner = condition_placing h s c there;
            is = condition_whole h s c there;
            same = condition_same h s c there;
            shorter = omega (arith, placing_pos, s.before);
            small = omega (arith, placing_end);
          }

  -- P j Q: neither an edge nor a condition
  pub joined : {m : ℕ} → Start t names (end - 1) m → get_or t (end - 1) 0 < 64
      → (get_or t (end - 1) 0 ≡ 57 → ⊥) → (get_or t (end - 1) 0 ≡ 56 → ⊥) → Joined t names end m
  joined s k b c = join_is t names end h.chosen.ends s k c b

-- what is asked for the inner step
pub held_stepping : {pins notes t : List ℕ} {names end a steps j : ℕ} {edges operands : List ℕ} {from part place : ℕ}
    → Held pins t names end a j edges operands from part place
    → length (alternative_at name pins t names end a) ≡ steps → Noted pins notes t names end
    → Stepping pins notes t names part a steps j edges operands from
held_stepping h e n =
    record { placing = h.inner; counted = h.same ∙ e; noted = noted_part (omega (arith, h.shorter)) n }

-- behind the inner step there is room for the condition's test, and with it the whole step is written
module _ {pins t : List ℕ} {names end a j : ℕ} {edges operands : List ℕ} {from part place : ℕ}
    (h : Held pins t names end a j edges operands from part place) {next : ℕ} {edges' operands' : List ℕ}
    (p : Put (step_at pins t names part a j) from edges operands next edges' operands') where
  pub held_room : Fits place edges' operands' next
  held_room = held_fits h.is p h.small h.whole.edges_room h.whole.operands_room

  pub held_written : {last : ℕ} {edges'' operands'' : List ℕ}
      → OnePut 20 place next edges' operands' last edges'' operands''
      → Put (step_at pins t names end a j) from edges operands last edges'' operands''
  held_written q = held_put h.is p q
