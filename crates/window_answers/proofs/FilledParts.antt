-- A part of the table that is filled, from what was written: a leaf's, a condition's, an edge's, an operator's.
--   leaf_filled                          from the states at the rows
--   condition_filled, edge_filled        a leaf of the tree; an edge is held to its pins
--   while_filled, joined_filled          an operator, when its operands are filled; one of two vectors is held
--   vector_ends, boolean_ends            which expression it is
--   leaf_ready, part_held, right_fillable, left_fillable, part_ready     what is asked before
use Rattle.std.specs.Prelude.{if◌then◌else◌}
use Prim.Native.Nat.{ℕ, ◌+◌, ◌-◌, ◌*◌, ◌<◌, ◌≤◌}
use native.Mathlib.Omega.{arith}
use mathlib.Core.Path.{◌≡◌, refl, ◌∙◌}
use mathlib.Core.Bool.{Bool, true, false, not}
use mathlib.Core.List.{List}
use lib.Dec.{eqb}
use lib.ListN.{length}
use Rattle.alf.specs.Windows.{NO}
use Rattle.trees.specs.Parts.{EndsBoolean, EndsVector, Start}
use Rattle.trees.proofs.Starts.{ends_pos}
use Rattle.evaluator.specs.Rows.{state_of}
use Rattle.evaluator.proofs.Booleans.{last_byte}
use Rattle.answer_table.specs.Tables.{entry, stored, leaf_over_lem, operated, Column, Part, OperatorPart}
use Rattle.held_parts.specs.Holding.{Cleared, part_moves, Leaf, Holding}
use Rattle.window_answers.specs.Filling.{LeafFilled, Fillable, Filled}
use Rattle.answer_table.proofs.Stored.{stored_same}
use Rattle.answer_table.proofs.Shifts.{As, Like, moved, leaf_as, operated_as}
use Rattle.answer_table.proofs.Kept.{off}
use Rattle.window_answers.proofs.Tops.{On, on_boolean, not_vector}
use Rattle.window_answers.proofs.Vectors.{some_bytes, right_ends, right_sort, left_ends, left_sort}
use Rattle.window_answers.proofs.Vectors.{operator_byte, edge_answer, joined_answer, held_answer, operands_off}
use Rattle.alf.specs.declared.Rules.{Rules}

-- an answer behind a test
under_test : (q : Bool) {x y z : ℕ} → x ≡ (if q then NO else y) → y ≡ z → x ≡ (if q then NO else z)
under_test q h e = rw (← e) h

module _ {t : List ℕ} {end : ℕ} {states : List ℕ} {names first size : ℕ} {before : List ℕ} where
  pub leaf_filled : {ρ : Rules} {after : List ℕ} {k base : ℕ} {list : List ℕ}
      → Column ρ t names states end first size list
      → Part (leaf_over_lem k (entry list)) base size size before after
      → LeafFilled ρ k t end states names first size base before after
  leaf_filled {ρ} {k = k} {list = list} c p =
      let like : Like (λ x. first + x) size (entry list) (state_of ρ t names states end) =
      record { is = λ x l. (c.is x l).is }
      in
      record {
        answers = record {
          is = λ a b l u.
              p.is a b (omega arith) l u ∙ leaf_as (λ x. first + x) (moved first) size a b l u k like;
        };
        below = p.below;
        above = p.above;
        long = p.long;
      }

  pub condition_filled : {ρ : Rules} {after pins : List ℕ} {v : Bool}
      → Fillable v t pins end states names first size before → v ≡ false
      → LeafFilled ρ 0 t end states names first size ((end - 1) * 256) before after
      → Filled ρ t pins end states names first size before after
  unfolding leaf_over_lem
  condition_filled {ρ} {pins = pins} f e l =
      let p = ends_pos f.ends in
      let s = on_boolean t pins names states end ρ (not_vector _ f.ends.whole (f.sort ∙ e)) in
      record {
        answers = record { is = λ a b k u. l.answers.is a b k u ∙ rw s refl };
        above = λ i k. l.above i (omega arith);
        long = l.long;
      }

  -- an edge, held to its pins
  module _ (h : EndsVector t names end) {ρ : Rules} {pins : List ℕ} where
    pub edge_filled : {mid after : List ℕ} → 64 ≤ last_byte t end
        → LeafFilled ρ (last_byte t end) t (end - 1) states names first size ((end - 1) * 256) before mid
        → Cleared (part_moves ρ t pins end states names first 32) ((end - 1) * 256) size mid after
        → Filled ρ t pins end states names first size before after
    unfolding part_moves
    edge_filled e l c =
        let p = some_bytes h in
        record {
          answers = record {
            is = λ a b k u.
                under_test (part_moves ρ t pins end states names first 32 a b) (c.is a b k u) (l.answers.is a b k u)
                ∙ edge_answer h ρ pins states _ _ e;
          };
          above = λ i k. c.above i (omega arith) ∙ l.above i (omega arith);
          long = c.long;
        }

    -- an operator, when its operands are filled
    module _ (small : last_byte t end < 64) {m : ℕ} (g : Start t names (end - 1) m) {mid last : List ℕ}
        (x : Filled ρ t pins (end - 1) states names first size before mid)
        (y : Filled ρ t pins m states names first size mid last) (most : size ≤ 16) where
      -- both operands' answers stand in the table
      right_stands : As (λ z. first + z) size (stored last ((end - 1 - 1) * 256)) (On ρ t pins names states (end - 1))
      right_stands =
          let q = g.before in
          let o = ends_pos (left_ends h small g) in
          record {
            is = λ a b k u.
                stored_same mid last ((end - 1 - 1) * 256) a b (omega arith) (λ i n p. y.above i (omega arith))
                ∙ x.answers.is a b k u;
          }

      left_stands : As (λ z. first + z) size (stored last ((m - 1) * 256)) (On ρ t pins names states m)
      left_stands = record { is = y.answers.is }

      module _ {after : List ℕ}
          (p : Part (operated (last_byte t end) (stored last ((m - 1) * 256)) (stored last ((end - 1 - 1) * 256)))
          ((end - 1) * 256) size size last after) where
        operated_stands : (a b : ℕ) → a < b → b ≤ size
            → stored after ((end - 1) * 256) a b
            ≡ operated (last_byte t end) (On ρ t pins names states m) (On ρ t pins names states (end - 1)) (first + a)
            (first + b)
        operated_stands a b k u =
            p.is a b (omega arith) k u
            ∙ operated_as (λ z. first + z) (moved first) size a b k u left_stands right_stands (last_byte t end)
            (off last ((m - 1) * 256)) (off last ((end - 1 - 1) * 256)) (operands_off h small g pins states ρ)

        rest : (i : ℕ) → end * 256 ≤ i → entry after i ≡ entry before i
        rest i k =
            let o = some_bytes h in
            let q = g.before in
            p.above i (omega arith) ∙ y.above i (omega arith) ∙ x.above i (omega arith)

        -- with a condition, as it is; of two vectors, held to its pins
        pub while_filled : 56 ≤ last_byte t end → Filled ρ t pins end states names first size before after
        while_filled e =
            record {
              answers = record {
                is = λ a b k u.
                    operated_stands a b k u ∙ held_answer h small g pins states (first + a) (first + b) ρ e;
              };
              above = rest;
              long = p.long;
            }

        pub joined_filled : {held : List ℕ} → last_byte t end < 56
            → Cleared (part_moves ρ t pins end states names first 32) ((end - 1) * 256) size after held
            → Filled ρ t pins end states names first size before held
        unfolding part_moves
        joined_filled e c =
            let o = some_bytes h in
            record {
              answers = record {
                is = λ a b k u.
                    under_test (part_moves ρ t pins end states names first 32 a b) (c.is a b k u)
                    (operated_stands a b k u)
                    ∙ joined_answer h small g pins states (first + a) (first + b) ρ e;
              };
              above = λ i k. c.above i (omega arith) ∙ rest i k;
              long = c.long;
            }

-- which expression it is
module _ {t pins : List ℕ} {end : ℕ} {states : List ℕ} {names first size : ℕ} {before : List ℕ} {v : Bool}
    (f : Fillable v t pins end states names first size before) where
  pub vector_ends : v ≡ true → EndsVector t names end
  vector_ends e = record { within = f.ends.within; whole = f.sort ∙ e }

  pub boolean_ends : v ≡ false → EndsBoolean t names end
  boolean_ends e =
      record { within = f.ends.within; whole = not_vector _ f.ends.whole (f.sort ∙ e) }

  -- and that its part, and a leaf's, has room
  pub leaf_ready : {place : ℕ} → EndsBoolean t names place
      → Leaf t place states names first size ((end - 1) * 256) before
  leaf_ready h =
      let p = ends_pos f.ends in
      record { ends = h; rows = f.rows; room = omega (arith, f.few); long = f.long }

  pub part_held : {last : List ℕ} → length last ≡ 65536 → Holding t pins end states names first size last
  part_held l =
      record { pinned = f.pinned; some = ends_pos f.ends; few = f.few; rows = f.rows; long = l }

-- what the calls ask
module _ {t pins : List ℕ} {end : ℕ} {states : List ℕ} {names first size : ℕ} {before : List ℕ} {v : Bool}
    (f : Fillable v t pins end states names first size before) (h : EndsVector t names end)
    (small : last_byte t end < 64) where
  pub right_fillable : Fillable (not (eqb (last_byte t end) 56)) t pins (end - 1) states names first size before
  right_fillable =
      record {
        ends = right_ends h small;
        sort = right_sort h small;
        few = omega (arith, f.few);
        pinned = f.pinned;
        rows = f.rows;
        long = f.long;
      }

  module _ {m : ℕ} (g : Start t names (end - 1) m) {mid : List ℕ} where
    pub left_fillable : length mid ≡ 65536
        → Fillable (not (eqb (last_byte t end) 57)) t pins m states names first size mid
    left_fillable l =
        record {
          ends = left_ends h small g;
          sort = left_sort h small g;
          few = omega (arith, f.few, g.before);
          pinned = f.pinned;
          rows = f.rows;
          long = l;
        }

  pub part_ready : {p q : ℕ} {last : List ℕ} → length last ≡ 65536 → p + 256 ≤ (end - 1) * 256
      → q + 256 ≤ (end - 1) * 256 → OperatorPart (last_byte t end) p q size ((end - 1) * 256) last
  part_ready l p q =
      record {
        byte = operator_byte h small;
        most = f.rows.most;
        left = p;
        right = q;
        room = omega (arith, f.few);
        long = l;
      }
