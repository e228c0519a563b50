-- Where the last operand of an expression starts, by the number of its bytes.
-- Main names: vector_start, vector_fits, boolean_start.
use Prim.Native.Nat.{ℕ, ◌+◌, ◌-◌}
use native.Mathlib.Omega.{arith}
use mathlib.Core.Path.{◌≡◌, refl, ap}
use mathlib.Core.Bool.{true}
use mathlib.Core.List.{List}
use lib.ListN.{length}
use Rattle.alf.specs.Expressions.{boolean, vector}
use Rattle.alf.specs.Bytes.{boolean_bytes, vector_bytes, bytes_of}
use Rattle.alf.specs.Decoder.{Stack, empty, broken, push, is_boolean, is_vector, top_boolean, top_vector}
use Rattle.basics.proofs.Bools.{never}
use Rattle.trees.specs.Parts.{EndsBoolean, EndsVector, vector_at, boolean_at, top, Start}

-- the bytes of the expression on top
vector_bytes_lem : (s : Stack) → is_vector s ≡ true → bytes_of (top s) ≡ vector_bytes (top_vector s)
unfolding is_vector top top_vector bytes_of
vector_bytes_lem empty h = never h
vector_bytes_lem broken h = never h
vector_bytes_lem (push (boolean c) s) h = never h
vector_bytes_lem (push (vector p) s) h = refl

boolean_bytes_lem : (s : Stack) → is_boolean s ≡ true → bytes_of (top s) ≡ boolean_bytes (top_boolean s)
unfolding is_boolean top top_boolean bytes_of
boolean_bytes_lem empty h = never h
boolean_bytes_lem broken h = never h
boolean_bytes_lem (push (boolean c) s) h = refl
boolean_bytes_lem (push (vector p) s) h = never h

module _ (t : List ℕ) (names end : ℕ) where
  pub vector_start : {m : ℕ} → EndsVector t names end → Start t names end m
      → end - length (vector_bytes (vector_at t names end)) ≡ m
  vector_start h s = let e = ap length (vector_bytes_lem _ h.whole) in omega (arith, s.is)

  pub vector_fits : {m : ℕ} → EndsVector t names end → Start t names end m
      → m + length (vector_bytes (vector_at t names end)) ≡ end
  vector_fits h s = let e = ap length (vector_bytes_lem _ h.whole) in omega (arith, s.is)

  pub boolean_start : {m : ℕ} → EndsBoolean t names end → Start t names end m
      → end - length (boolean_bytes (boolean_at t names end)) ≡ m
  boolean_start h s = let e = ap length (boolean_bytes_lem _ h.whole) in omega (arith, s.is)
