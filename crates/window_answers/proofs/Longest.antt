-- The longest window of the vector expression that ends at a place, from those of its operands. It has no more events
-- than there are bytes before that place.
--   longest_fits                                                no more events than bytes
--   edge_longest, before_longest, condition_longest             of an expression of one operand
--   sum_longest, greater_longest, sum_fits                      of one of two
use Prim.Native.Nat.{ℕ, zero, suc, ◌+◌, ◌-◌, ◌<◌, ◌≤◌, max}
use native.Mathlib.Omega.{arith}
use native.Mathlib.Numerals.{sub-one}
use mathlib.Core.Path.{◌≡◌, refl, sym, ◌∙◌}
use mathlib.Core.Bool.{true}
use mathlib.Core.List.{List, [], ◌∷◌, ◌++◌}
use lib.ListN.{get_or, length, length-append}
use Rattle.alf.specs.Expressions.{Vector, edge, join, while, on_right, on_left, boolean, vector}
use Rattle.alf.specs.Expressions.{Join, followed_by_join, either_order, with_or_then, any_order, with, or_else}
use Rattle.alf.specs.Bytes.{edge_number, join_byte, boolean_bytes, vector_bytes, bytes_of}
use Rattle.alf.specs.Decoder.{join_at, arity_at}
use Rattle.alf.specs.Decoder.{Stack, empty, broken, push, is_vector, top_vector, stack_at}
use Rattle.basics.proofs.Bools.{never}
use Rattle.alf.proofs.Parts.{deep, size, back}
use Rattle.trees.specs.Parts.{EndsVector, vector_at}
use Rattle.trees.proofs.Starts.{of_vector, whole_deep}
use Rattle.trees.proofs.Vectors.{Conditioned, Joined, edge_is, before_is}
use Rattle.window_answers.specs.Lengths.{joined_length, longest}

-- no more events than bytes
joined_sum : (j : Join) (n m : ℕ) → joined_length j n m ≤ n + m
unfolding joined_length
joined_sum followed_by_join n m = omega arith
joined_sum either_order n m = omega arith
joined_sum with_or_then n m = omega arith
joined_sum any_order n m = omega arith
joined_sum with n m = omega arith
joined_sum or_else n m = omega arith

longest_bytes : (p : Vector) → longest p ≤ length (vector_bytes p)
unfolding longest vector_bytes
longest_bytes (edge e c) = omega (arith, length-append (boolean_bytes c) ((64 + edge_number e) ∷ []))
longest_bytes (join j p q) =
    let l = joined_sum j (longest p) (longest q) in
    let n = longest_bytes p in
    let m = longest_bytes q in
    omega (
      arith,
      length-append (vector_bytes p) (vector_bytes q ++ (join_byte j ∷ [])),
      length-append (vector_bytes q) (join_byte j ∷ []),
    )
longest_bytes (while on_right p c) =
    let n = longest_bytes p in
    omega (arith, length-append (vector_bytes p) (boolean_bytes c ++ (56 ∷ [])))
longest_bytes (while on_left p c) =
    let n = longest_bytes p in
    omega (arith, length-append (boolean_bytes c) (vector_bytes p ++ (57 ∷ [])), length-append (vector_bytes p) (57 ∷ []))

longest_size : (s : Stack) → is_vector s ≡ true → longest (top_vector s) ≤ size 1 s
unfolding is_vector top_vector size bytes_of
longest_size empty h = never h
longest_size broken h = never h
longest_size (push (boolean c) s) h = never h
longest_size (push (vector p) s) h = let l = longest_bytes p in omega arith

-- the expressions on top have no more bytes than there are
size_le : (t : List ℕ) (names m n : ℕ) → deep n (stack_at t names m) → size n (stack_at t names m) ≤ m
unfolding stack_at deep size
size_le t names zero zero h = omega arith
size_le t names zero (suc n) h = absurd h
size_le t names (suc m) zero h = omega arith
size_le t names (suc m) (suc n) h =
    let g = rw sub-one at (back t names (suc m) n (omega arith) h) in
    let l = size_le t names m (n + arity_at (get_or t m 0)) g.has in
    let e = g.less in
    omega arith

pub longest_fits : (t : List ℕ) (names end : ℕ) → EndsVector t names end → longest (vector_at t names end) ≤ end
longest_fits t names end h =
    let l = longest_size (stack_at t names end) h.whole in
    let u = size_le t names end 1 (whole_deep _ (of_vector h).whole) in
    omega arith

-- operators by their bytes
sum_at : (k n m : ℕ) → k < 4 → joined_length (join_at k) n m ≡ n + m
unfolding joined_length join_at
sum_at zero n m l = refl
sum_at (suc zero) n m l = refl
sum_at (suc (suc zero)) n m l = refl
sum_at (suc (suc (suc zero))) n m l = refl
sum_at (suc (suc (suc (suc k)))) n m l = absurd (omega arith)

greater_at : (k n m : ℕ) → 4 ≤ k → joined_length (join_at k) n m ≡ max n m
unfolding joined_length join_at
greater_at zero n m l = absurd (omega arith)
greater_at (suc zero) n m l = absurd (omega arith)
greater_at (suc (suc zero)) n m l = absurd (omega arith)
greater_at (suc (suc (suc zero))) n m l = absurd (omega arith)
greater_at (suc (suc (suc (suc zero)))) n m l = refl
greater_at (suc (suc (suc (suc (suc zero))))) n m l = refl
greater_at (suc (suc (suc (suc (suc (suc k)))))) n m l = refl

-- the longest window of the expression that ends at `end` has r events
abbrev pub Length : List ℕ → ℕ → ℕ → ℕ → Type 0
Length t names end r = r ≡ longest (vector_at t names end)

module _ (t : List ℕ) (names end : ℕ) where
  pub edge_longest : EndsVector t names end → 64 ≤ get_or t (end - 1) 0 → Length t names end 1
  unfolding longest
  edge_longest h k = rw (edge_is t names end h k) refl

  pub before_longest : {r : ℕ} → EndsVector t names end → get_or t (end - 1) 0 ≡ 57 → Length t names (end - 1) r
      → Length t names end r
  unfolding longest
  before_longest h k e = rw (before_is t names end h k) e

  pub condition_longest : {r m : ℕ} → Conditioned t names end m → Length t names m r → Length t names end r
  unfolding longest
  condition_longest c e = rw c.is e

  module _ {m x y : ℕ} (j : Joined t names end m) (e : Length t names m x) (d : Length t names (end - 1) y) where
    joined_longest : longest (vector_at t names end) ≡ joined_length (join_at (get_or t (end - 1) 0 - 50)) x y
    unfolding longest
    joined_longest = rw (j.is, e, d) refl

    pub sum_longest : get_or t (end - 1) 0 < 54 → Length t names end (x + y)
    sum_longest l = sym (joined_longest ∙ sum_at _ x y (omega (arith, j.low)))

    pub greater_longest : {r : ℕ} → 54 ≤ get_or t (end - 1) 0 → r ≡ max x y → Length t names end r
    greater_longest l h = h ∙ sym (joined_longest ∙ greater_at _ x y (omega arith))

    pub sum_fits : EndsVector t names end → get_or t (end - 1) 0 < 54 → x + y ≤ end
    sum_fits h l = let u = longest_fits t names end h in let s = sum_longest l in omega arith
