-- Decoding the bytes of an expression gives the expression.
-- Main names: runs (a list of bytes run on a stack), runs_stack, runs_boolean, runs_vector, decode_bytes.
-- Assumes at most 32 names, as a name's byte is below 32.
use Prim.Native.Nat.{ℕ, zero, suc, ◌≤◌}
use native.Mathlib.Omega.{arith}
use mathlib.Core.Path.{◌≡◌, refl, ap, sym, ◌∙◌}
use mathlib.Core.List.{List, [], ◌∷◌, ◌++◌}
use lib.ListN.{get_or, length, take}
use lib.Seq.{take-suc, take-length}
use Rattle.alf.specs.Expressions.{Boolean, name, literal, negated, binary, choice, Vector, edge, join, while}
use Rattle.alf.specs.Expressions.{on_right, on_left, Expression, boolean, vector}
use Rattle.alf.specs.Expressions.{Over, VectorOver, ExpressionOver}
use Rattle.alf.specs.Bytes.{boolean_bytes, vector_bytes, bytes_of}
use Rattle.alf.specs.Decoder.{Stack, empty, push, operation_at, run}
use Rattle.alf.specs.Decoder.{if_so, is_boolean, is_vector, top_boolean, top_vector, under, stack_at, Decodes}
use Rattle.alf.proofs.OperatorBytes.{name_operation, literal_operation, binary_operation}
use Rattle.alf.proofs.OperatorBytes.{join_operation, edge_operation}
use Rattle.alf.proofs.OperatorBytes.{negation_operation, choice_operation, right_operation, left_operation}

-- the stack that a list of bytes makes of a stack
unfoldable pub runs : ℕ → List ℕ → Stack → Stack
runs names [] s = s
runs names (b ∷ bs) s = runs names bs (run (operation_at names b) s)

pub runs_append : (names : ℕ) (xs ys : List ℕ) (s : Stack)
    → runs names (xs ++ ys) s ≡ runs names ys (runs names xs s)
unfolding runs
runs_append names [] ys s = refl
runs_append names (x ∷ xs) ys s = runs_append names xs ys (run (operation_at names x) s)

pub runs_stack : (t : List ℕ) (names n : ℕ) → n ≤ length t → stack_at t names n ≡ runs names (take n t) empty
unfolding runs stack_at
runs_stack t names zero l = refl
runs_stack t names (suc n) l =
    ap (run (operation_at names (get_or t n 0))) (runs_stack t names n (omega arith))
    ∙ sym (rw (take-suc t n 0 l, runs_append) refl)

-- the bytes of an expression put it on the stack
module _ (names : ℕ) (few : names ≤ 32) where
  pub runs_boolean : (c : Boolean) → Over names c → (s : Stack)
      → runs names (boolean_bytes c) s ≡ push (boolean c) s
  unfolding runs boolean_bytes Over run if_so is_boolean top_boolean under
  runs_boolean (name i) l s = rw (name_operation names i l few) refl
  runs_boolean (literal v) l s = rw (literal_operation names v l) refl
  runs_boolean (negated a) o s = rw (runs_append, runs_boolean a o s, negation_operation) refl
  runs_boolean (binary k a b) (o, p) s =
      rw (runs_append, runs_boolean a o s, runs_append, runs_boolean b p, binary_operation) refl
  runs_boolean (choice c a b) (o, p, q) s =
      rw (runs_append, runs_boolean c o s, runs_append, runs_boolean a p, runs_append, runs_boolean b q)
      (rw choice_operation refl)

  pub runs_vector : (p : Vector) → VectorOver names p → (s : Stack)
      → runs names (vector_bytes p) s ≡ push (vector p) s
  unfolding runs vector_bytes VectorOver run if_so is_boolean is_vector top_boolean top_vector under
  runs_vector (edge e c) (k, o) s = rw (runs_append, runs_boolean c o s, edge_operation names e k) refl
  runs_vector (join j p q) (o, u) s =
      rw (runs_append, runs_vector p o s, runs_append, runs_vector q u, join_operation) refl
  runs_vector (while on_right p c) (o, u) s =
      rw (runs_append, runs_vector p o s, runs_append, runs_boolean c u, right_operation) refl
  runs_vector (while on_left p c) (o, u) s =
      rw (runs_append, runs_boolean c u s, runs_append, runs_vector p o, left_operation) refl

  runs_bytes : (e : Expression) → ExpressionOver names e → (s : Stack) → runs names (bytes_of e) s ≡ push e s
  unfolding bytes_of ExpressionOver
  runs_bytes (boolean c) o s = runs_boolean c o s
  runs_bytes (vector p) o s = runs_vector p o s

  pub decode_bytes : (e : Expression) → ExpressionOver names e → Decodes names (bytes_of e) e
  unfolding Decodes
  decode_bytes e o =
      runs_stack (bytes_of e) names _ (omega arith) ∙ rw take-length (runs_bytes e o empty)
