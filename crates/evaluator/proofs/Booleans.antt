-- A boolean expression in a tree, from its last byte: its operands end where the code looks for them, and its state and
-- value come from theirs.
--   right_ends, left_ends, first_ends    its operands, from the last one back
--   name_known, operator_known           a name is in the list, an operator of two is one of the ten
--   name_state, literal_state, negation_state, binary_state, choice_state, value_state
use Prim.Native.Nat.{ℕ, ◌+◌, ◌-◌, ◌*◌, ◌<◌, ◌≤◌}
use native.Mathlib.Omega.{arith}
use mathlib.Core.Path.{◌≡◌, refl}
use mathlib.Core.Bool.{true}
use mathlib.Core.Logic.{◌⊎◌, inl, inr}
use mathlib.Core.List.{List}
use lib.ListN.{get_or, length}
use borrow.Author.Tests.{lt-ltb, le-ltb}
use Rattle.alf.specs.declared.Rules.{Rules}
use Rattle.alf.specs.States.{not_of_lem}
use Rattle.alf.specs.Expressions.{literal}
use Rattle.alf.specs.Values.{operate, chosen, value, recorded_or, state}
use Rattle.alf.proofs.Values.{settled, value_settled, state_negated, state_binary, state_choice}
use Rattle.alf.specs.Decoder.{binary_at, is_boolean, under, stack_at}
use Rattle.basics.proofs.Bools.{below?}
use Rattle.alf.proofs.Made.{Made}
use Rattle.alf.proofs.Parts.{made_last}
use Rattle.alf.proofs.StackTops.{NameTop, NegationTop, BinaryTop, ChoiceTop}
use Rattle.alf.proofs.StackTops.{name_top, literal_top, negation_top, binary_top, choice_top}
use Rattle.trees.specs.Parts.{EndsBoolean, boolean_at, Start}
use Rattle.trees.proofs.Starts.{of_boolean, ends_pos}
use Rattle.trees.proofs.Vectors.{boolean_under}
use Rattle.evaluator.specs.Rows.{Within, IsState, settled_by, state_of, value_of}

-- the last of the bytes before `end`
abbrev pub last_byte : List ℕ → ℕ → ℕ
last_byte t end = get_or t (end - 1) 0

module _ {t : List ℕ} {names end : ℕ} (h : EndsBoolean t names end) where
  pub some_bytes : 0 < end
  some_bytes = ends_pos (of_boolean h)

  was : Made names (last_byte t end) (stack_at t names (end - 1)) (stack_at t names end)
  was = made_last t names end some_bytes

  name_is : last_byte t end < 32 → NameTop names (last_byte t end) (stack_at t names end)
  name_is = name_top names _ was h.whole

  literal_is : 32 ≤ last_byte t end → last_byte t end < 40 → boolean_at t names end ≡ literal (last_byte t end - 32)
  literal_is = literal_top names _ was h.whole

  negation_is : 64 ≤ last_byte t end → NegationTop (stack_at t names (end - 1)) (stack_at t names end)
  negation_is = negation_top names _ was h.whole

  binary_is : 40 ≤ last_byte t end → last_byte t end < 60
      → BinaryTop (last_byte t end) (stack_at t names (end - 1)) (stack_at t names end)
  binary_is = binary_top names _ was h.whole

  choice_is : 60 ≤ last_byte t end → last_byte t end < 64
      → ChoiceTop (stack_at t names (end - 1)) (stack_at t names end)
  choice_is = choice_top names _ was h.whole

  pub name_known : last_byte t end < 32 → last_byte t end < names
  name_known k = (name_is k).known

  pub operator_known : 40 ≤ last_byte t end → last_byte t end < 60 → last_byte t end < 50
  operator_known k j = (binary_is k j).small

  -- the operands
  pub right_ends : 40 ≤ last_byte t end → EndsBoolean t names (end - 1)
  right_ends k =
      record { within = omega (arith, h.within); whole = go (below? (last_byte t end) 60) (below? (last_byte t end) 64) }
    where
      go : (last_byte t end < 60) ⊎ (60 ≤ last_byte t end) → (last_byte t end < 64) ⊎ (64 ≤ last_byte t end)
          → is_boolean (stack_at t names (end - 1)) ≡ true
      go (inl e) q = (binary_is k e).right
      go (inr e) (inl f) = (choice_is e f).right
      go (inr e) (inr f) = (negation_is f).right

  pub left_ends : {m : ℕ} → 40 ≤ last_byte t end → last_byte t end < 64 → Start t names (end - 1) m
      → EndsBoolean t names m
  left_ends k j g = boolean_under g (omega (arith, h.within)) (go (below? (last_byte t end) 60))
    where
      go : (last_byte t end < 60) ⊎ (60 ≤ last_byte t end) → is_boolean (under (stack_at t names (end - 1))) ≡ true
      go (inl e) = (binary_is k e).left
      go (inr e) = (choice_is e j).left

  pub first_ends : {m o : ℕ} → 60 ≤ last_byte t end → last_byte t end < 64 → Start t names (end - 1) m
      → Start t names m o → EndsBoolean t names o
  first_ends k j g f =
      let p = g.before in
      boolean_under f (omega (arith, h.within)) (rw g.left (choice_is k j).first)

  -- whether it is a name shows in its last byte
  pub settled_is : (x : ℕ) → settled (boolean_at t names end) x ≡ settled_by (last_byte t end) x
  unfolding settled
  settled_is x =
      go (below? (last_byte t end) 32) (below? (last_byte t end) 40)
      (below? (last_byte t end) 60) (below? (last_byte t end) 64)
    where
      go : (last_byte t end < 32) ⊎ (32 ≤ last_byte t end) → (last_byte t end < 40) ⊎ (40 ≤ last_byte t end)
          → (last_byte t end < 60) ⊎ (60 ≤ last_byte t end) → (last_byte t end < 64) ⊎ (64 ≤ last_byte t end)
          → settled (boolean_at t names end) x ≡ settled_by (last_byte t end) x
      go (inl e) q r w = rw (lt-ltb _ _ e, (name_is e).is) refl
      go (inr e) (inl f) r w = rw (le-ltb _ _ e, literal_is e f) refl
      go (inr e) (inr f) (inl g) w = rw (le-ltb _ _ e, (binary_is f g).is) refl
      go (inr e) (inr f) (inr g) (inl i) = rw (le-ltb _ _ e, (choice_is g i).is) refl
      go (inr e) (inr f) (inr g) (inr i) = rw (le-ltb _ _ e, (negation_is i).is) refl

  -- the state and the value
  module _ {states : List ℕ} {row : ℕ} (w : Within states names row) where
    abbrev At : Rules → ℕ → ℕ → Type 0
    At ρ e r = IsState (state_of ρ t names states e row) r

    pub name_room : last_byte t end < 32 → row * names + last_byte t end < length states
    name_room k = let l = name_known k in let r = w.room in omega arith

    pub name_state : (ρ : Rules) → last_byte t end < 32 → At ρ end (get_or states (row * names + last_byte t end) 0)
    unfolding state recorded_or
    name_state ρ k = record { is = rw (name_is k).is refl; code = w.codes _ (name_room k) }

    pub literal_state : (ρ : Rules) → 32 ≤ last_byte t end → last_byte t end < 40 → At ρ end (last_byte t end - 32)
    unfolding state recorded_or value
    literal_state ρ k j = record { is = rw (literal_is k j) refl; code = omega arith }

    pub negation_state : (ρ : Rules) {x r : ℕ} → 64 ≤ last_byte t end → At ρ (end - 1) x → (r ≡ not_of_lem x) × (r < 8)
        → At ρ end r
    negation_state ρ k a q =
        record { is = rw ((negation_is k).is, state_negated _ ρ, ← a.is) q.0; code = q.1 }

    pub binary_state : (ρ : Rules) {m x y r : ℕ} → 40 ≤ last_byte t end → last_byte t end < 60
        → Start t names (end - 1) m
        → At ρ m x → At ρ (end - 1) y → IsState (operate (binary_at (last_byte t end - 40)) x y) r → At ρ end r
    binary_state ρ k j g a d q =
        record { is = rw ((binary_is k j).is, state_binary _ ρ, ← g.left, ← a.is, ← d.is) q.is; code = q.code }

    abbrev ValueAt : Rules → ℕ → ℕ → Type 0
    ValueAt ρ e r = IsState (value_of ρ t names states e row) r

    pub value_state : (ρ : Rules) {x r : ℕ} → At ρ end x → IsState (settled_by (last_byte t end) x) r → ValueAt ρ end r
    value_state ρ a q = record { is = rw (value_settled _ ρ, settled_is, ← a.is) q.is; code = q.code }

    pub choice_state : (ρ : Rules) {m o c x y r : ℕ} → 60 ≤ last_byte t end → last_byte t end < 64
        → Start t names (end - 1) m
        → Start t names m o → At ρ o c → ValueAt ρ m x → ValueAt ρ (end - 1) y → IsState (chosen ρ c x y) r
        → At ρ end r
    choice_state ρ k j g f a d e q =
        record {
          is = rw ((choice_is k j).is, state_choice _ ρ, ← g.left, ← f.left, ← a.is, ← d.is, ← e.is) q.is;
          code = q.code;
        }
