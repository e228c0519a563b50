-- The expression on top of a stack, by its sort, and what it answers on windows as an operand.
--   top_vector_lem, top_boolean_lem, boolean_sort, not_vector     which one it is
--   on_vector, on_boolean                                 a vector expression's answer; a condition
--   start_vector, start_boolean                           where it starts
use Prim.Native.Nat.{ℕ, ◌+◌, ◌-◌}
use native.Mathlib.Omega.{arith}
use mathlib.Core.Path.{◌≡◌, refl, sym}
use mathlib.Core.Bool.{true, false}
use mathlib.Core.List.{List}
use lib.ListN.{length}
use Rattle.alf.specs.declared.Rules.{Rules}
use Rattle.alf.specs.Expressions.{boolean, vector}
use Rattle.alf.specs.Bytes.{boolean_bytes, vector_bytes, bytes_of}
use Rattle.alf.specs.Values.{state_at}
use Rattle.alf.specs.Windows.{Window, held}
use Rattle.alf.specs.Decoder.{Stack, empty, broken, push, is_boolean, is_vector, top_boolean, top_vector, stack_at}
use Rattle.basics.proofs.Bools.{never}
use Rattle.trees.specs.Parts.{is_whole, top, boolean_at, vector_at, expression_at, Start}
use Rattle.evaluator.specs.Rows.{state_of}
use Rattle.window_answers.specs.Spans.{pinned_on}
use Rattle.window_answers.specs.Filling.{part_on}

pub top_vector_lem : (s : Stack) → is_vector s ≡ true → top s ≡ vector (top_vector s)
unfolding is_vector top top_vector
top_vector_lem empty h = never h
top_vector_lem broken h = never h
top_vector_lem (push (boolean c) s) h = never h
top_vector_lem (push (vector p) s) h = refl

pub top_boolean_lem : (s : Stack) → is_boolean s ≡ true → top s ≡ boolean (top_boolean s)
unfolding is_boolean top top_boolean
top_boolean_lem empty h = never h
top_boolean_lem broken h = never h
top_boolean_lem (push (boolean c) s) h = refl
top_boolean_lem (push (vector p) s) h = never h

pub boolean_sort : (s : Stack) → is_boolean s ≡ true → is_vector s ≡ false
unfolding is_boolean is_vector
boolean_sort empty h = refl
boolean_sort broken h = refl
boolean_sort (push (boolean c) s) h = refl
boolean_sort (push (vector p) s) h = never h

pub not_vector : (s : Stack) → is_whole s ≡ true → is_vector s ≡ false → is_boolean s ≡ true
unfolding is_whole is_vector is_boolean
not_vector empty w h = w
not_vector broken w h = w
not_vector (push (boolean c) s) w h = refl
not_vector (push (vector p) s) w h = never (sym h)

-- what the expression that ends at a place answers with its pins, as an operand
abbrev pub On : Rules → List ℕ → List ℕ → ℕ → List ℕ → ℕ → Window
On ρ t pins names states end =
    part_on (state_at ρ names states) (boolean_at t names) pins end (expression_at t names end)

module _ (t pins : List ℕ) (names : ℕ) (states : List ℕ) (end : ℕ) where
  pub on_vector : (ρ : Rules) → is_vector (stack_at t names end) ≡ true
      → On ρ t pins names states end ≡ pinned_on ρ t pins names states end
  unfolding part_on
  on_vector ρ h = rw (top_vector_lem (stack_at t names end) h) refl

  pub on_boolean : (ρ : Rules) → is_boolean (stack_at t names end) ≡ true
      → On ρ t pins names states end ≡ held (state_of ρ t names states end)
  unfolding part_on
  on_boolean ρ h = rw (top_boolean_lem (stack_at t names end) h) refl

-- where it starts
module _ {t : List ℕ} {names end m : ℕ} (g : Start t names end m) where
  pub start_vector : is_vector (stack_at t names end) ≡ true → m ≡ end - length (vector_bytes (vector_at t names end))
  unfolding bytes_of
  start_vector h =
      let e : m + length (vector_bytes (vector_at t names end)) ≡ end =
      rw (top_vector_lem (stack_at t names end) h) at g.is
      in
      omega arith

  pub start_boolean : is_boolean (stack_at t names end) ≡ true → m ≡ end - length (boolean_bytes (boolean_at t names end))
  unfolding bytes_of
  start_boolean h =
      let e : m + length (boolean_bytes (boolean_at t names end)) ≡ end =
      rw (top_boolean_lem (stack_at t names end) h) at g.is
      in
      omega arith
