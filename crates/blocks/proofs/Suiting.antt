-- Laws of lists that columns suit.
--   suited                    what the test for it asks
--   prepare_asked             their tests may be numbered
--   blocks_asked_lem              prepared columns are ready for all rows
use mathlib.Core.Path.{◌≡◌}
use mathlib.Core.List.{List, [], ◌∷◌}
use Prim.Native.Nat.{ℕ, zero, suc, ◌≤◌}
use native.Mathlib.Omega.{arith}
use lib.ListN.{length, get_or}
use Rattle.basics.specs.Words.{greatest_of}
use Rattle.trees.specs.Parts.{EndsBoolean}
use Rattle.evaluator.proofs.Booleans.{some_bytes}
use Rattle.alternatives.specs.InMemory.{Shape}
use Rattle.blocks.specs.Numbering.{OperandAt}
use Rattle.blocks.specs.Rows.{Suited, Scratch, PrepareAsked, PreparedOr, BlocksAsked}

-- no entry is above the greatest
entry_small : (l : List ℕ) (k : ℕ) → get_or l k 0 ≤ greatest_of (λ n. n) l
unfolding greatest_of
entry_small [] k = omega arith
entry_small (x ∷ l) zero = omega arith
entry_small (x ∷ l) (suc k) = omega (arith, entry_small l k)

pub suited : {steps edges : List ℕ} {n : ℕ} → 64 ≤ n → length edges ≤ 4096 → greatest_of (λ k. k) steps ≤ 16
    → Suited steps edges n
suited {steps} h k l =
    record { start = omega arith; few = k; short = λ i j. omega (arith, entry_small steps i) }

module _ {tree : List ℕ} {names : ℕ} {steps counts edges operands kinds ends slots tables cols : List ℕ} {n : ℕ}
    (shape : Shape tree names steps counts edges operands) (suit : Suited steps edges n)
    (scratch : Scratch kinds ends slots tables cols) where
  pub prepare_asked : PrepareAsked tree edges operands kinds ends slots tables
  prepare_asked =
      record {
        asked =
            record {
              at = λ t h. operand (shape.known.boolean t h);
              enough = shape.known.enough;
              room = omega (arith, suit.few, scratch.slots_room);
              kinds_room = scratch.kinds_room;
              ends_room = scratch.ends_room;
            };
        room = scratch.tables_room;
      }
    where
      operand : {end : ℕ} → EndsBoolean tree names end → OperandAt tree end
      operand e = record { some = some_bytes e; within = e.within }

  pub blocks_asked_lem : {ends' slots' tables' : List ℕ} {many : ℕ}
      → length ends' ≡ length ends → length slots' ≡ length slots → length tables' ≡ length tables
      → PreparedOr tree edges operands ends' slots' tables' many → many ≤ 64
      → BlocksAsked tree names steps counts edges operands n ends' slots' many tables' cols
  blocks_asked_lem {ends'} {slots'} {tables'} {many} a b c p h =
      let q = p.is h names shape.known in
      record {
        ready =
            record {
              few = shape.few;
              short = suit.short;
              enough_steps = shape.enough_steps;
              enough_tests = omega (arith, shape.enough_tests, suit.few, scratch.slots_room);
              columns = λ t l. q.slot t (omega (arith, shape.enough_tests));
              operands = p.operand h names shape.known;
              some = omega (arith, scratch.ends_room);
              most = h;
              tabled = omega (arith, scratch.tables_room);
              room = omega (arith, scratch.cols_room);
            };
        prepared = q;
        start = suit.start;
      }
