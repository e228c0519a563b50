-- An expression's longest window has no more events than its longest alternative has steps: so limit 8 bounds it.
--   longest_steps, longest_limited     no more than the steps; no more than 16 within limit 8
use Prim.Native.Nat.{ℕ, ◌+◌, ◌<◌, ◌≤◌}
use mathlib.Core.Path.{◌≡◌, refl}
use mathlib.Core.Bool.{false}
use native.Mathlib.Omega.{arith}
use mathlib.Core.List.{List, [], ◌∷◌, ◌++◌, map}
use lib.Dec.{ltb}
use lib.ListN.{length, length-append}
use borrow.Author.Tests.{ltb-false}
use Rattle.basics.specs.Words.{greatest_of}
use Rattle.alf.specs.Expressions.{Boolean, Edge, Vector, edge, join, while}
use Rattle.alf.specs.Expressions.{Join, followed_by_join, either_order, with_or_then, any_order, with, or_else}
use Rattle.alf.specs.Alternatives.{Alternative, each, chained, overlapped, rewritten, alternatives, steps_of, over_limit}
use Rattle.basics.proofs.Bools.{or_left, or_right}
use Rattle.basics.proofs.Extremes.{greatest_of_append}
use Rattle.alf.proofs.Growth.{some_alternative, join_left, join_right, while_part}
use Rattle.window_answers.specs.Lengths.{joined_length, longest}

abbrev most : List Alternative → ℕ
most = greatest_of length

-- the longest of the left ones before the longest of the right ones
behind_one : (x : Alternative) (ys : List Alternative) → 0 < length ys → length x + most ys ≤ most (map (◌++◌ x) ys)
unfolding greatest_of
behind_one x [] h = absurd (omega arith)
behind_one x (y ∷ []) h = omega (arith, length-append x y)
behind_one x (y ∷ (z ∷ ys)) h = let e = behind_one x (z ∷ ys) (omega arith) in omega (arith, length-append x y)

behind_each : (xs ys : List Alternative) → 0 < length xs → 0 < length ys → most xs + most ys ≤ most (chained xs ys)
unfolding greatest_of each
behind_each [] ys h k = absurd (omega arith)
behind_each (x ∷ []) ys h k =
    let e = behind_one x ys k in
    omega (arith, greatest_of_append length (map (◌++◌ x) ys) [])
behind_each (x ∷ (z ∷ xs)) ys h k =
    let e = behind_one x ys k in
    let d = behind_each (z ∷ xs) ys (omega arith) k in
    omega (arith, greatest_of_append length (map (◌++◌ x) ys) (each ◌++◌ (z ∷ xs) ys))

-- each operator that puts one operand behind the other has the chains among its alternatives
in_order : (j : Join) (xs ys : List Alternative) → 0 < length xs → 0 < length ys → joined_length j 1 1 ≡ 2
    → most xs + most ys ≤ most (rewritten j xs ys)
unfolding rewritten joined_length
in_order followed_by_join xs ys h k o = behind_each xs ys h k
in_order either_order xs ys h k o =
    let e = behind_each xs ys h k in omega (arith, greatest_of_append length (chained xs ys) (chained ys xs))
in_order with_or_then xs ys h k o =
    let e = behind_each xs ys h k in omega (arith, greatest_of_append length (overlapped xs ys) (chained xs ys))
in_order any_order xs ys h k o =
    let e = behind_each xs ys h k in
    let d = greatest_of_append length (chained xs ys) (overlapped xs ys) in
    omega (arith, greatest_of_append length (chained xs ys ++ overlapped xs ys) (chained ys xs))
in_order with xs ys h k o = absurd (omega arith)
in_order or_else xs ys h k o = absurd (omega arith)

module _ (p q : Vector) (h : longest p ≤ most (alternatives p)) (k : longest q ≤ most (alternatives q)) where
  summed : (j : Join) → joined_length j 1 1 ≡ 2 → longest p + longest q ≤ most (alternatives (join j p q))
  unfolding alternatives
  summed j o =
      let e = in_order j (alternatives p) (alternatives q) (some_alternative p) (some_alternative q) o in omega arith

  joined_steps : (j : Join) → joined_length j (longest p) (longest q) ≤ most (alternatives (join j p q))
  unfolding joined_length
  joined_steps followed_by_join = summed followed_by_join refl
  joined_steps either_order = summed either_order refl
  joined_steps with_or_then = summed with_or_then refl
  joined_steps any_order = summed any_order refl
  joined_steps with = omega (arith, (join_left with p q).steps, (join_right with p q).steps)
  joined_steps or_else = omega (arith, (join_left or_else p q).steps, (join_right or_else p q).steps)

one_step : (e : Edge) (c : Boolean) → 1 ≤ most (alternatives (edge e c))
unfolding alternatives greatest_of
one_step e c = omega arith

longest_most : (p : Vector) → longest p ≤ most (alternatives p)
unfolding longest
longest_most (edge e c) = one_step e c
longest_most (join j p q) = joined_steps p q (longest_most p) (longest_most q) j
longest_most (while s p c) = let e = longest_most p in omega (arith, (while_part s p c).steps)

pub longest_steps : (p : Vector) → longest p ≤ steps_of p
unfolding steps_of
longest_steps = longest_most

pub longest_limited : (p : Vector) → over_limit (alternatives p) ≡ false → longest p ≤ 16
unfolding over_limit
longest_limited p h =
    let l : most (alternatives p) ≤ 16 =
    ltb-false 16 _ (or_left _ _ (or_right (ltb 64 (length (alternatives p))) _ h))
    in
    omega (arith, longest_most p)
