-- Steps by their last byte: an edge, or two steps joined by `&`.
--   changing-..                        whether an edge changes, by its number
--   edge_step, no_step, with_is        what is a step
--   WithStep, with_step                the two steps that a step is joined of
--   edge_moves, with_moves             whether a step changes
--   name_own, other_own, with_own      the places of its plain names
use Rattle.std.specs.Prelude.{if◌then◌else◌}
use Prim.Native.Nat.{ℕ, zero, suc, ◌-◌, ◌/◌, ◌%◌, ◌<◌, ◌≤◌}
use native.Mathlib.Omega.{arith}
use mathlib.Core.Path.{◌≡◌, refl, ap, sym, ◌∙◌}
use mathlib.Core.Bool.{Bool, true, false, not, ◌&&◌, ◌||◌}
use mathlib.Core.Logic.{◌⊎◌, inl, inr}
use mathlib.Core.List.{List}
use lib.Dec.{eqb}
use lib.ListN.{get_or, length, set}
use borrow.Author.Tests.{lt-ltb, le-ltb, eq-eqb, ne_eqb}
use Rattle.alf.specs.Expressions.{pair, changes, stays}
use Rattle.alf.specs.Expressions.{Vector, join, with}
use Rattle.alf.specs.Bytes.{vector_bytes}
use Rattle.alf.specs.Decoder.{Stack, half_at, edge_at, join_at, is_vector, is_boolean, top_vector, top_boolean, stack_at}
use Rattle.alf.specs.Steady.{is_changing, is_with, is_step_lem, moves}
use Rattle.basics.proofs.Bools.{never, equal?, and_left, and_right}
use Rattle.alf.proofs.Made.{Made, a_name, a_literal, a_negation, a_binary, a_choice, an_edge, a_join}
use Rattle.alf.proofs.Made.{a_condition, a_condition_before, nothing}
use Rattle.alf.proofs.Parts.{made_last}
use Rattle.alf.proofs.StackTops.{edge_top, name_top}
use Rattle.trees.specs.Parts.{Ends, EndsBoolean, EndsVector, vector_at, Start}
use Rattle.trees.proofs.Starts.{of_boolean, ends_pos}
use Rattle.trees.proofs.Vectors.{Joined, vector_pos, right_ends, edge_is, join_is}
use Rattle.steady_pins.specs.Finding.{StepAt, named, own}
use Rattle.steady_pins.proofs.Starting.{vector_start}

-- an edge by its number
suc_same : (f t : ℕ) → not (eqb f t) ≡ not (eqb (suc f) (suc t))
suc_same f t = go (equal? f t)
  where
    go : (f ≡ t) ⊎ (f ≡ t → ⊥) → not (eqb f t) ≡ not (eqb (suc f) (suc t))
    go (inl e) = rw (eq-eqb f t e, eq-eqb (suc f) (suc t) (ap suc e)) refl
    go (inr n) = rw (ne_eqb f t n, ne_eqb (suc f) (suc t) (λ e. n (omega arith))) refl

halves_change : (f t : ℕ) → 0 < f → 0 < t → is_changing (pair (half_at f) (half_at t)) ≡ not (eqb f t)
unfolding is_changing half_at
halves_change zero t l u = absurd (omega arith)
halves_change (suc f) zero l u = absurd (omega arith)
halves_change (suc f) (suc t) l u = suc_same f t

first_free : (t : ℕ) → is_changing (pair (half_at 0) (half_at t)) ≡ false
unfolding is_changing half_at
first_free t = refl

second_free : (f : ℕ) → is_changing (pair (half_at f) (half_at 0)) ≡ false
unfolding is_changing half_at
second_free zero = refl
second_free (suc f) = refl

low_edge : (k : ℕ) → k < 81 → edge_at k ≡ pair (half_at (k / 9)) (half_at (k % 9))
unfolding edge_at
low_edge k l = rw (lt-ltb k 81 l) refl

pub changing_high : (k : ℕ) → 81 ≤ k → is_changing (edge_at k) ≡ eqb k 81
unfolding edge_at is_changing
changing_high k l = rw (le-ltb k 81 l) (go (eqb k 81))
  where
    go : (q : Bool) → is_changing (if q then changes else stays) ≡ q
    go true = refl
    go false = refl

pub changing_first : (k : ℕ) → k < 81 → k / 9 ≡ 0 → is_changing (edge_at k) ≡ false
changing_first k l e = rw (low_edge k l, e) (first_free (k % 9))

pub changing_second : (k : ℕ) → k < 81 → k % 9 ≡ 0 → is_changing (edge_at k) ≡ false
changing_second k l e = rw (low_edge k l, e) (second_free (k / 9))

pub changing_both : (k : ℕ) → k < 81 → (k / 9 ≡ 0 → ⊥) → (k % 9 ≡ 0 → ⊥)
    → is_changing (edge_at k) ≡ not (eqb (k / 9) (k % 9))
changing_both k l f t = rw (low_edge k l) (halves_change (k / 9) (k % 9) (omega arith) (omega arith))

-- what is a step, by the last byte
with_only : (k : ℕ) → (k ≡ 4 → ⊥) → is_with (join_at k) ≡ false
unfolding is_with join_at
with_only zero n = refl
with_only (suc zero) n = refl
with_only (suc (suc zero)) n = refl
with_only (suc (suc (suc zero))) n = refl
with_only (suc (suc (suc (suc zero)))) n = absurd (n refl)
with_only (suc (suc (suc (suc (suc zero))))) n = refl
with_only (suc (suc (suc (suc (suc (suc k)))))) n = refl

stopped : (names b : ℕ) {s s' : Stack} → Made names b s s' → is_vector s' ≡ true → b < 64 → (b ≡ 54 → ⊥)
    → is_step_lem (top_vector s') ≡ false
unfolding is_vector top_vector is_step_lem
stopped names b (a_name l u) h k n = never h
stopped names b (a_literal l u) h k n = never h
stopped names b (a_negation e d) h k n = never h
stopped names b (a_binary l u e) h k n = never h
stopped names b (a_choice e d) h k n = never h
stopped names b (an_edge l u e) h k n = absurd (omega arith)
stopped names b (a_join l u e) h k n = rw (with_only (b - 50) (λ d. n (omega arith))) refl
stopped names b (a_condition e d) h k n = refl
stopped names b (a_condition_before e d) h k n = refl
stopped names b nothing h k n = never h

-- the last byte of an operand that is a plain name, and of any other
plain : (names b place : ℕ) {s s' : Stack} (l : List ℕ) → Made names b s s' → is_boolean s' ≡ true → 32 ≤ b
    → named place (top_boolean s') l ≡ l
unfolding is_boolean top_boolean named
plain names b place l (a_name v u) h k = absurd (omega arith)
plain names b place l (a_literal v u) h k = refl
plain names b place l (a_negation e d) h k = refl
plain names b place l (a_binary v u e) h k = refl
plain names b place l (a_choice e d) h k = refl
plain names b place l (an_edge v u e) h k = never h
plain names b place l (a_join v u e) h k = never h
plain names b place l (a_condition e d) h k = never h
plain names b place l (a_condition_before e d) h k = never h
plain names b place l nothing h k = never h

-- two steps joined by `&`
pub record WithStep (t : List ℕ) (names end m : ℕ) : Type 0 where
  pub is : vector_at t names end ≡ join with (vector_at t names m) (vector_at t names (end - 1))
  pub left : StepAt t names m
  pub right : StepAt t names (end - 1)
  pub starts : end - 1 - length (vector_bytes (vector_at t names (end - 1))) ≡ m

module _ (t : List ℕ) (names end : ℕ) where
  byte : EndsVector t names end
      → Made names (get_or t (end - 1) 0) (stack_at t names (end - 1)) (stack_at t names end)
  byte h = made_last t names end (vector_pos t names end h)

  pub edge_step : EndsVector t names end → 64 ≤ get_or t (end - 1) 0 → is_step_lem (vector_at t names end) ≡ true
  unfolding is_step_lem
  edge_step h k = rw (edge_is t names end h k) refl

  pub no_step : EndsVector t names end → get_or t (end - 1) 0 < 64 → (get_or t (end - 1) 0 ≡ 54 → ⊥)
      → is_step_lem (vector_at t names end) ≡ false
  no_step h k n = stopped names _ (byte h) h.whole k n

  pub with_joined : {m : ℕ} → EndsVector t names end → get_or t (end - 1) 0 ≡ 54 → Start t names (end - 1) m
      → Joined t names end m
  with_joined h e s = join_is t names end h s (omega arith) (λ d. omega arith) (λ d. omega arith)

  pub with_is : {m : ℕ} → get_or t (end - 1) 0 ≡ 54 → Joined t names end m
      → vector_at t names end ≡ join with (vector_at t names m) (vector_at t names (end - 1))
  unfolding join_at
  with_is e j = rw e at j.is

  pub with_both : {m : ℕ} → get_or t (end - 1) 0 ≡ 54 → Joined t names end m
      → is_step_lem (vector_at t names end) ≡ (is_step_lem (vector_at t names m) && is_step_lem (vector_at t names (end - 1)))
  unfolding is_step_lem is_with
  with_both e j = ap is_step_lem (with_is e j)

  pub with_first : {m : ℕ} → get_or t (end - 1) 0 ≡ 54 → Joined t names end m
      → false ≡ is_step_lem (vector_at t names m) → false ≡ is_step_lem (vector_at t names end)
  with_first e j h = rw (with_both e j, ← h) refl

  pub with_second : {m : ℕ} {r : Bool} → get_or t (end - 1) 0 ≡ 54 → Joined t names end m
      → true ≡ is_step_lem (vector_at t names m) → r ≡ is_step_lem (vector_at t names (end - 1))
      → r ≡ is_step_lem (vector_at t names end)
  with_second e j h k = rw (with_both e j, ← h, ← k) refl

  -- a step that is no edge
  step_byte : StepAt t names end → get_or t (end - 1) 0 < 64 → get_or t (end - 1) 0 ≡ 54
  step_byte h k = go (equal? (get_or t (end - 1) 0) 54)
    where
      go : (get_or t (end - 1) 0 ≡ 54) ⊎ (get_or t (end - 1) 0 ≡ 54 → ⊥) → get_or t (end - 1) 0 ≡ 54
      go (inl e) = e
      go (inr n) = never (sym (no_step h.is.ends k n) ∙ h.step)

  -- the last operand of a step that is no edge
  pub step_right : StepAt t names end → get_or t (end - 1) 0 < 64 → Ends t names (end - 1)
  step_right h k = right_ends t names end h.is.ends k (λ e. let d = step_byte h k in omega arith)

  pub with_step : {m : ℕ} → StepAt t names end → get_or t (end - 1) 0 < 64 → Start t names (end - 1) m
      → WithStep t names end m
  with_step {m} h k s =
      let e = step_byte h k in
      let j = with_joined h.is.ends e s in
      let b = sym (with_both e j) ∙ h.step in
      let few = h.is.few in
      record {
        is = with_is e j;
        left = record {
          is = record { ends = j.left; few = omega (arith, s.before) };
          step = and_left (is_step_lem (vector_at t names m)) (is_step_lem (vector_at t names (end - 1))) b;
        };
        right = record {
          is = record { ends = j.right; few = omega arith };
          step = and_right (is_step_lem (vector_at t names m)) (is_step_lem (vector_at t names (end - 1))) b;
        };
        starts = vector_start t names (end - 1) j.right s;
      }

  -- whether it changes
  pub edge_moves : EndsVector t names end → 64 ≤ get_or t (end - 1) 0
      → moves (vector_at t names end) ≡ is_changing (edge_at (get_or t (end - 1) 0 - 64))
  unfolding moves
  edge_moves h k = ap moves (edge_is t names end h k)

  pub with_moves : {m : ℕ} → WithStep t names end m
      → moves (vector_at t names end) ≡ (moves (vector_at t names m) || moves (vector_at t names (end - 1)))
  unfolding moves
  with_moves w = ap moves w.is

  pub first_moves : {m : ℕ} → WithStep t names end m → true ≡ moves (vector_at t names m)
      → true ≡ moves (vector_at t names end)
  first_moves w h = rw (with_moves w, ← h) refl

  pub second_moves : {m : ℕ} {r : Bool} → WithStep t names end m → false ≡ moves (vector_at t names m)
      → r ≡ moves (vector_at t names (end - 1)) → r ≡ moves (vector_at t names end)
  second_moves w h k = rw (with_moves w, ← h, ← k) refl

  -- the places of its plain names
  pub operand_ends : EndsVector t names end → 64 ≤ get_or t (end - 1) 0 → EndsBoolean t names (end - 1)
  operand_ends h k =
      record { within = omega (arith, h.within); whole = (edge_top names _ (byte h) h.whole k).right }

  operand_byte : EndsBoolean t names (end - 1)
      → Made names (get_or t (end - 1 - 1) 0) (stack_at t names (end - 1 - 1)) (stack_at t names (end - 1))
  operand_byte c = made_last t names (end - 1) (ends_pos (of_boolean c))

  pub name_own : (l : List ℕ) → EndsVector t names end → 64 ≤ get_or t (end - 1) 0 → get_or t (end - 1 - 1) 0 < 32
      → own end (vector_at t names end) l ≡ set l (get_or t (end - 1 - 1) 0) (end - 1)
  unfolding own named
  name_own l h k u =
      let c = operand_ends h k in
      rw (edge_is t names end h k, (name_top names _ (operand_byte c) c.whole u).is) refl

  pub other_own : (l : List ℕ) → EndsVector t names end → 64 ≤ get_or t (end - 1) 0
      → 32 ≤ get_or t (end - 1 - 1) 0 → own end (vector_at t names end) l ≡ l
  unfolding own
  other_own l h k u =
      let c = operand_ends h k in
      rw (edge_is t names end h k) (plain names _ (end - 1) l (operand_byte c) c.whole u)

  pub with_own : {m : ℕ} (l : List ℕ) → WithStep t names end m
      → own end (vector_at t names end) l
      ≡ own m (vector_at t names m) (own (end - 1) (vector_at t names (end - 1)) l)
  unfolding own
  with_own {m} l w =
      ap (λ (p : Vector). own end p l) w.is
      ∙ ap (λ (k : ℕ). own k (vector_at t names m) (own (end - 1) (vector_at t names (end - 1)) l)) w.starts
