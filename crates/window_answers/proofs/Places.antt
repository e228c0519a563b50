-- The answer of an expression with its pins, from those of its operands: by places, as the table has them.
--   edge_placed, join_placed        an edge, an operator of two vectors: no where a pin moves
--   right_placed, left_placed       a condition behind the vector, and before it
use Rattle.std.specs.Prelude.{if◌then◌else◌}
use Prim.Native.Nat.{ℕ, ◌-◌, min}
use mathlib.Core.Path.{◌≡◌, refl}
use mathlib.Core.List.{List}
use lib.ListN.{length}
use Rattle.alf.specs.Expressions.{Boolean, Edge, Join, Vector, edge, join, while, on_right, on_left}
use Rattle.alf.specs.Bytes.{boolean_bytes, vector_bytes}
use Rattle.alf.specs.Windows.{NO, held, joined, answer}
use Rattle.steady_pins.specs.Pinned.{pinned, by_places}
use Rattle.steady_pins.specs.Moving.{pins_move}
use Rattle.steady_pins.proofs.PinnedAnswers.{pinned_answer}

module _ (operand : ℕ → Boolean) (pins : List ℕ) (end : ℕ) where
  edge_is : (e : Edge) (c : Boolean)
      → by_places operand pins end (edge e c) ≡ pinned operand pins 32 end (edge e (operand (end - 1)))
  unfolding by_places
  edge_is e c = refl

  module _ (p : Vector) {m : ℕ} where
    join_is : (j : Join) (q : Vector) → m ≡ end - 1 - length (vector_bytes q)
        → by_places operand pins end (join j p q)
        ≡ pinned operand pins 32 end (join j (by_places operand pins m p) (by_places operand pins (end - 1) q))
    unfolding by_places
    join_is j q e = rw e refl

    right_is : (c : Boolean) → m ≡ end - 1 - length (boolean_bytes c)
        → by_places operand pins end (while on_right p c)
        ≡ while on_right (by_places operand pins m p) (operand (end - 1))
    unfolding by_places
    right_is c e = rw e refl

    left_is : (c : Boolean) → m ≡ end - 1 - length (vector_bytes p)
        → by_places operand pins end (while on_left p c)
        ≡ while on_left (by_places operand pins (end - 1) p) (operand m)
    unfolding by_places
    left_is c e = rw e refl

module _ (st : Boolean → ℕ → ℕ) (operand : ℕ → Boolean) (pins : List ℕ) (end a b : ℕ) where
  pub edge_placed : (e : Edge) (c : Boolean)
      → answer st (by_places operand pins end (edge e c)) a b
      ≡ (if pins_move (λ m. st (operand m)) pins end 32 b then NO else answer st (edge e (operand (end - 1))) a b)
  edge_placed e c = rw (edge_is operand pins end e c) (pinned_answer st operand pins end _ a b 32)

  module _ (p : Vector) {m : ℕ} where
    pub join_placed : (j : Join) (q : Vector) → m ≡ end - 1 - length (vector_bytes q)
        → answer st (by_places operand pins end (join j p q)) a b
        ≡ (if pins_move (λ m. st (operand m)) pins end 32 b then NO
        else joined j (answer st (by_places operand pins m p)) (answer st (by_places operand pins (end - 1) q)) a b)
    unfolding answer
    join_placed j q e = rw (join_is operand pins end p j q e) (pinned_answer st operand pins end _ a b 32)

    pub right_placed : (c : Boolean) → m ≡ end - 1 - length (boolean_bytes c)
        → answer st (by_places operand pins end (while on_right p c)) a b
        ≡ min (answer st (by_places operand pins m p) a b) (held (st (operand (end - 1))) a b)
    unfolding answer
    right_placed c e = rw (right_is operand pins end p c e) refl

    pub left_placed : (c : Boolean) → m ≡ end - 1 - length (vector_bytes p)
        → answer st (by_places operand pins end (while on_left p c)) a b
        ≡ min (answer st (by_places operand pins (end - 1) p) a b) (held (st (operand m)) a b)
    unfolding answer
    left_placed c e = rw (left_is operand pins end p c e) refl
