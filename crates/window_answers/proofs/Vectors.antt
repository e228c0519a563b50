-- A vector expression in a tree, from its last byte: its operands end where the code looks for them, and its answer on
-- a window comes from theirs.
--   edge_ends, right_ends, left_ends      its operands
--   right_sort, left_sort                 whether they are vector expressions: the byte says so
--   operator_byte                         it is an edge, or an operator of bytes 50 to 57
--   edge_answer, joined_answer, held_answer     its answer: an edge, an operator of two vectors, one with a condition
--   operands_off                          two vector expressions answer no on windows without an event
use Rattle.std.specs.Prelude.{if◌then◌else◌}
use Prim.Native.Nat.{ℕ, ◌-◌, ◌<◌, ◌≤◌, min}
use native.Mathlib.Omega.{arith}
use mathlib.Core.Path.{◌≡◌, sym}
use mathlib.Core.Bool.{true, not}
use mathlib.Core.Logic.{◌⊎◌, inl, inr}
use mathlib.Core.List.{List}
use lib.Dec.{eqb}
use borrow.Author.Tests.{lt-ltb, le-ltb, eq-eqb, ne_eqb}
use Rattle.alf.specs.declared.Rules.{Rules}
use Rattle.alf.specs.Values.{state_at}
use Rattle.alf.specs.Windows.{Window, NO, answer}
use Rattle.alf.specs.Decoder.{edge_at, join_at, is_boolean, is_vector, top_boolean, top_vector, under, stack_at}
use Rattle.basics.proofs.Bools.{below?, equal?}
use Rattle.alf.proofs.Made.{Made}
use Rattle.alf.proofs.Parts.{made_last}
use Rattle.alf.proofs.StackTops.{EdgeTop, JoinTop, ConditionTop, ConditionBeforeTop}
use Rattle.alf.proofs.StackTops.{edge_top, join_top, condition_top, condition_before_top, vector_class}
use Rattle.trees.specs.Parts.{Ends, EndsBoolean, EndsVector, boolean_at, vector_at, Start}
use Rattle.trees.proofs.Starts.{of_boolean, of_vector, ends_pos}
use Rattle.trees.proofs.Vectors.{boolean_under, vector_under}
use Rattle.steady_pins.specs.Moving.{pins_move}
use Rattle.evaluator.specs.Rows.{state_of}
use Rattle.evaluator.proofs.Booleans.{last_byte}
use Rattle.answer_table.specs.Tables.{OperatorByte, leaf_over_lem, operated}
use Rattle.alf.proofs.WindowBounds.{no_event}
use Rattle.answer_table.proofs.Shifts.{Off}
use Rattle.window_answers.proofs.Tops.{On, on_vector, on_boolean, boolean_sort, start_vector, start_boolean}
use Rattle.window_answers.proofs.Places.{edge_placed, join_placed, right_placed, left_placed}

-- which operator it is: of two vectors, a condition behind the vector, a condition before it
abbrev Which : ℕ → Type 0
Which k = (k < 56) ⊎ ((k ≡ 56) ⊎ (k ≡ 57))

module _ {t : List ℕ} {names end : ℕ} (h : EndsVector t names end) where
  pub some_bytes : 0 < end
  some_bytes = ends_pos (of_vector h)

  was : Made names (last_byte t end) (stack_at t names (end - 1)) (stack_at t names end)
  was = made_last t names end some_bytes

  edge_is : 64 ≤ last_byte t end → EdgeTop (last_byte t end) (stack_at t names (end - 1)) (stack_at t names end)
  edge_is = edge_top names _ was h.whole

  join_is : last_byte t end < 56 → JoinTop (last_byte t end) (stack_at t names (end - 1)) (stack_at t names end)
  join_is = join_top names _ was h.whole

  condition_is : last_byte t end ≡ 56 → ConditionTop (stack_at t names (end - 1)) (stack_at t names end)
  condition_is = condition_top names _ was h.whole

  before_is : last_byte t end ≡ 57 → ConditionBeforeTop (stack_at t names (end - 1)) (stack_at t names end)
  before_is = condition_before_top names _ was h.whole

  pub edge_ends : 64 ≤ last_byte t end → EndsBoolean t names (end - 1)
  edge_ends k = record { within = omega (arith, h.within); whole = (edge_is k).right }

  module _ (small : last_byte t end < 64) where
    pub operator_byte : OperatorByte (last_byte t end)
    operator_byte = let (l, u) = vector_class names _ was h.whole small in record { first = l; last = u }

    which : Which (last_byte t end)
    which = go (below? (last_byte t end) 56) (equal? (last_byte t end) 56)
      where
        go : (last_byte t end < 56) ⊎ (56 ≤ last_byte t end)
            → (last_byte t end ≡ 56) ⊎ (last_byte t end ≡ 56 → ⊥)
            → Which (last_byte t end)
        go (inl l) q = inl l
        go (inr l) (inl e) = inr (inl e)
        go (inr l) (inr d) = inr (inr (omega (arith, operator_byte.last)))

    -- the operand that ends last
    pub right_ends : Ends t names (end - 1)
    right_ends = go which
      where
        go : Which (last_byte t end) → Ends t names (end - 1)
        go (inl l) = of_vector (record { within = omega (arith, h.within); whole = (join_is l).right })
        go (inr (inl e)) = of_boolean (record { within = omega (arith, h.within); whole = (condition_is e).right })
        go (inr (inr e)) = of_vector (record { within = omega (arith, h.within); whole = (before_is e).right })

    pub right_sort : is_vector (stack_at t names (end - 1)) ≡ not (eqb (last_byte t end) 56)
    right_sort = go which
      where
        go : Which (last_byte t end) → is_vector (stack_at t names (end - 1)) ≡ not (eqb (last_byte t end) 56)
        go (inl l) = rw (ne_eqb (last_byte t end) 56 (λ e. omega arith)) (join_is l).right
        go (inr (inl e)) = rw (eq-eqb (last_byte t end) 56 e) (boolean_sort _ (condition_is e).right)
        go (inr (inr e)) = rw (ne_eqb (last_byte t end) 56 (λ d. omega arith)) (before_is e).right

    -- the other one, under it on the stack
    module _ {m : ℕ} (g : Start t names (end - 1) m) where
      pub left_sort : is_vector (stack_at t names m) ≡ not (eqb (last_byte t end) 57)
      left_sort = rw g.left (go which)
        where
          go : Which (last_byte t end) → is_vector (under (stack_at t names (end - 1))) ≡ not (eqb (last_byte t end) 57)
          go (inl l) = rw (ne_eqb (last_byte t end) 57 (λ e. omega arith)) (join_is l).left
          go (inr (inl e)) = rw (ne_eqb (last_byte t end) 57 (λ d. omega arith)) (condition_is e).left
          go (inr (inr e)) = rw (eq-eqb (last_byte t end) 57 e) (boolean_sort _ (before_is e).left)

      left_vector : is_vector (under (stack_at t names (end - 1))) ≡ true → EndsVector t names m
      left_vector = vector_under g (omega (arith, h.within))

      left_boolean : is_boolean (under (stack_at t names (end - 1))) ≡ true → EndsBoolean t names m
      left_boolean = boolean_under g (omega (arith, h.within))

      pub left_ends : Ends t names m
      left_ends = go which
        where
          go : Which (last_byte t end) → Ends t names m
          go (inl l) = of_vector (left_vector (join_is l).left)
          go (inr (inl e)) = of_vector (left_vector (condition_is e).left)
          go (inr (inr e)) = of_boolean (left_boolean (before_is e).left)

      -- the answer on a window
      module _ (pins states : List ℕ) where
        abbrev At : Rules → ℕ → Window
        At ρ e = On ρ t pins names states e

        pub operands_off : (ρ : Rules) → last_byte t end < 56 → Off (At ρ m) × Off (At ρ (end - 1))
        operands_off ρ l =
            let p = (left_vector (join_is l).left).whole in (
              λ x. rw (on_vector t pins names states m ρ p) (no_event _ _ x x (omega arith)),
              λ x. rw (on_vector t pins names states (end - 1) ρ (join_is l).right) (no_event _ _ x x (omega arith)),
            )

        -- by each operator
        module _ (a b : ℕ) where
          pub joined_answer : (ρ : Rules) → last_byte t end < 56
              → (if pins_move (state_of ρ t names states) pins end 32 b then NO
              else operated (last_byte t end) (At ρ m) (At ρ (end - 1)) a b)
              ≡ At ρ end a b
          unfolding operated
          joined_answer ρ l =
              rw (
                lt-ltb _ _ l,
                on_vector t pins names states m ρ (left_vector (join_is l).left).whole,
                on_vector t pins names states (end - 1) ρ (join_is l).right,
                on_vector t pins names states end ρ h.whole,
                (join_is l).is,
                g.left,
              )
              (sym
              (join_placed (state_at ρ names states) (boolean_at t names) pins end a b
              (top_vector (under (stack_at t names (end - 1)))) (join_at (last_byte t end - 50))
              (vector_at t names (end - 1)) (start_vector g (join_is l).right)))

          condition_answer : (ρ : Rules) → last_byte t end ≡ 56 → min (At ρ m a b) (At ρ (end - 1) a b) ≡ At ρ end a b
          condition_answer ρ e =
              rw (
                on_vector t pins names states m ρ (left_vector (condition_is e).left).whole,
                on_boolean t pins names states (end - 1) ρ (condition_is e).right,
                on_vector t pins names states end ρ h.whole,
                (condition_is e).is,
                g.left,
              )
              (sym
              (right_placed (state_at ρ names states) (boolean_at t names) pins end a b
              (top_vector (under (stack_at t names (end - 1)))) (boolean_at t names (end - 1))
              (start_boolean g (condition_is e).right)))

          before_answer : (ρ : Rules) → last_byte t end ≡ 57 → min (At ρ m a b) (At ρ (end - 1) a b) ≡ At ρ end a b
          before_answer ρ e =
              let d = left_placed (state_at ρ names states) (boolean_at t names) pins end a b
              (vector_at t names (end - 1)) (top_boolean (under (stack_at t names (end - 1))))
              (start_vector g (before_is e).right) in
              rw (
                on_boolean t pins names states m ρ (left_boolean (before_is e).left).whole,
                on_vector t pins names states (end - 1) ρ (before_is e).right,
                on_vector t pins names states end ρ h.whole,
                (before_is e).is,
              ) (omega arith)

          pub held_answer : (ρ : Rules) → 56 ≤ last_byte t end
              → operated (last_byte t end) (At ρ m) (At ρ (end - 1)) a b ≡ At ρ end a b
          unfolding operated
          held_answer ρ k = go which
            where
              go : Which (last_byte t end) → operated (last_byte t end) (At ρ m) (At ρ (end - 1)) a b ≡ At ρ end a b
              go (inl l) = absurd (omega arith)
              go (inr (inl e)) = rw (le-ltb (last_byte t end) 56 k) (condition_answer ρ e)
              go (inr (inr e)) = rw (le-ltb (last_byte t end) 56 k) (before_answer ρ e)

  pub edge_answer : (ρ : Rules) (pins states : List ℕ) (a b : ℕ) → 64 ≤ last_byte t end
      → (if pins_move (state_of ρ t names states) pins end 32 b then NO
      else leaf_over_lem (last_byte t end) (state_of ρ t names states (end - 1)) a b)
      ≡ On ρ t pins names states end a b
  unfolding leaf_over_lem answer
  edge_answer ρ pins states a b k =
      rw (le-ltb _ _ k, on_vector t pins names states end ρ h.whole, (edge_is k).is)
      (sym (edge_placed (state_at ρ names states) (boolean_at t names) pins end a b (edge_at (last_byte t end - 64))
      (boolean_at t names (end - 1))))
