-- The pins that an expression names are those whose numbers are among its bytes: a byte below 32 is a pin, and every
-- other byte is not.
--   among_append     a number among the entries of two lists
--   bytes_named      the law, for any expression
use Prim.Native.Nat.{ℕ, ◌+◌, ◌<◌, ◌≤◌}
use native.Mathlib.Omega.{arith}
use mathlib.Core.Path.{◌≡◌, refl, ap, sym, ◌∙◌}
use mathlib.Core.Bool.{Bool, true, false, ◌||◌}
use mathlib.Core.Logic.{◌⊎◌, inl, inr}
use mathlib.Core.List.{List, [], ◌∷◌, ◌++◌}
use lib.Dec.{eqb}
use borrow.Author.Tests.{eq-eqb, ne_eqb}
use Rattle.basics.proofs.Bools.{equal?}
use Rattle.alf.specs.Expressions.{Boolean, name, literal, negated, binary, choice, Vector, edge, join, while}
use Rattle.alf.specs.Expressions.{Binary, and, or, xor, xnor, equals, differs, above, below, is_at_least, is_at_most}
use Rattle.alf.specs.Expressions.{Join, followed_by_join, either_order, with_or_then, any_order, with, or_else}
use Rattle.alf.specs.Expressions.{on_right, on_left, Expression, boolean, vector}
use Rattle.alf.specs.Bytes.{binary_byte, join_byte, edge_number, boolean_bytes, vector_bytes, bytes_of}
use Rattle.alf.specs.States.{among}
use Rattle.named_pins.specs.Pins.{names, names_in, named}

pub or_none : (p : Bool) → (p || false) ≡ p
or_none true = refl
or_none false = refl

or_swap : (p q : Bool) → (p || q) ≡ (q || p)
or_swap true true = refl
or_swap true false = refl
or_swap false true = refl
or_swap false false = refl

or_assoc : (p q r : Bool) → ((p || q) || r) ≡ (p || (q || r))
or_assoc true q r = refl
or_assoc false q r = refl

pub among_append : (n : ℕ) (xs ys : List ℕ) → among n (xs ++ ys) ≡ (among n xs || among n ys)
unfolding among
among_append n [] ys = refl
among_append n (x ∷ xs) ys =
    ap (λ (b : Bool). eqb n x || b) (among_append n xs ys) ∙ sym (or_assoc (eqb n x) (among n xs) (among n ys))

pub among_one : (n b : ℕ) → among n (b ∷ []) ≡ eqb b n
unfolding among
among_one n b = go (equal? b n)
  where
    go : (b ≡ n) ⊎ (b ≡ n → ⊥) → (eqb n b || false) ≡ eqb b n
    go (inl e) = rw (eq-eqb b n e, eq-eqb n b (sym e)) refl
    go (inr d) = rw (ne_eqb b n d, ne_eqb n b (λ e. d (sym e))) refl

binary_far : (o : Binary) → 32 ≤ binary_byte o
unfolding binary_byte
binary_far and = omega arith
binary_far or = omega arith
binary_far xor = omega arith
binary_far xnor = omega arith
binary_far equals = omega arith
binary_far differs = omega arith
binary_far above = omega arith
binary_far below = omega arith
binary_far is_at_least = omega arith
binary_far is_at_most = omega arith

join_far : (j : Join) → 32 ≤ join_byte j
unfolding join_byte
join_far followed_by_join = omega arith
join_far either_order = omega arith
join_far with_or_then = omega arith
join_far any_order = omega arith
join_far with = omega arith
join_far or_else = omega arith

module _ (n : ℕ) (pin : n < 32) where
  -- behind the operands stands the byte of an operator, or of a literal
  far : (b : ℕ) → 32 ≤ b → among n (b ∷ []) ≡ false
  far b h = among_one n b ∙ ne_eqb b n (λ e. omega arith)

  ended : (xs : List ℕ) (b : ℕ) → 32 ≤ b → among n (xs ++ (b ∷ [])) ≡ among n xs
  ended xs b h = rw (among_append n xs (b ∷ []), far b h) (or_none (among n xs))

  boolean_named : (c : Boolean) → among n (boolean_bytes c) ≡ names c n
  unfolding boolean_bytes names
  boolean_named (name i) = among_one n i
  boolean_named (literal s) = far (32 + s) (omega arith)
  boolean_named (negated a) = ended (boolean_bytes a) 147 (omega arith) ∙ boolean_named a
  boolean_named (binary o a b) =
      rw (among_append n (boolean_bytes a), ended (boolean_bytes b) (binary_byte o) (binary_far o))
      (rw (boolean_named a, boolean_named b) refl)
  boolean_named (choice c a b) =
      rw (among_append n (boolean_bytes c), among_append n (boolean_bytes a))
      (rw (ended (boolean_bytes b) 60 (omega arith), boolean_named c, boolean_named a, boolean_named b) refl)

  vector_named : (p : Vector) → among n (vector_bytes p) ≡ names_in p n
  unfolding vector_bytes names_in
  vector_named (edge e c) = ended (boolean_bytes c) (64 + edge_number e) (omega arith) ∙ boolean_named c
  vector_named (join j p q) =
      rw (among_append n (vector_bytes p), ended (vector_bytes q) (join_byte j) (join_far j))
      (rw (vector_named p, vector_named q) refl)
  vector_named (while on_right p c) =
      rw (among_append n (vector_bytes p), ended (boolean_bytes c) 56 (omega arith))
      (rw (vector_named p, boolean_named c) refl)
  vector_named (while on_left p c) =
      rw (among_append n (boolean_bytes c), ended (vector_bytes p) 57 (omega arith))
      (rw (vector_named p, boolean_named c) (or_swap (names c n) (names_in p n)))

  pub bytes_named : (x : Expression) → among n (bytes_of x) ≡ named x n
  unfolding bytes_of named
  bytes_named (boolean c) = boolean_named c
  bytes_named (vector p) = vector_named p
