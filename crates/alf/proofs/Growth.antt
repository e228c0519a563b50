-- The number of alternatives, K and the tests grow with the expression: a part never exceeds a limit that the whole
-- keeps.
--   some_alternative              there is at least one alternative, and K is at least 1
--   length_each, tests_append, tests_overlaid, tests_conditioned     how many there are of each
--   Within, join_left, join_right, while_part     a part's three numbers are at most the whole's
--   limit_part                    so a part over a limit makes a whole over a limit
use mathlib.Core.Path.{◌≡◌, refl, ◌∙◌}
use mathlib.Core.Bool.{Bool, true, false, ◌||◌}
use mathlib.Core.List.{List, [], ◌∷◌, ◌++◌, map}
use Prim.Native.Nat.{ℕ, zero, suc, ◌+◌, ◌-◌, ◌*◌, ◌<◌, ◌≤◌}
use native.Mathlib.Nat.{suc-mul, mul_comm, le-mul_of_pos_right}
use native.Mathlib.Omega.{arith}
use lib.Dec.{ltb}
use lib.ListN.{length, replicate, length-append, length-map}
use borrow.Author.Tests.{lt-ltb, ltb-true}
use Rattle.basics.specs.Words.{greatest_of, sum_of}
use Rattle.alf.specs.Expressions.{Boolean, the, pair, Vector, edge, join, while, Side}
use Rattle.alf.specs.Expressions.{Join, followed_by_join, either_order, with_or_then, any_order, with, or_else}
use Rattle.alf.specs.Alternatives.{test, Alternative, each, padded, zipped, overlaid}
use Rattle.alf.specs.Alternatives.{conditioned}
use Rattle.alf.specs.Alternatives.{rewritten, alternatives, tests}
use Rattle.alf.specs.Alternatives.{over_limit}
use Rattle.basics.proofs.Extremes.{greatest_of_append}
use Rattle.alf.proofs.Steps.{overlaid_length, conditioned_length}

-- how many alternatives
pub length_each : (f : Alternative → Alternative → Alternative) (xs ys : List Alternative)
    → length (each f xs ys) ≡ length xs * length ys
unfolding each
length_each f [] ys = omega arith
length_each f (x ∷ xs) ys =
    length-append (map (f x) ys) (each f xs ys)
    ∙ rw (length-map ys (f x), length_each f xs ys, suc-mul) (omega arith)

-- how many tests
pub tests_append : (x y : Alternative) → tests (x ++ y) ≡ tests x + tests y
unfolding tests sum_of
tests_append [] y = omega arith
tests_append (s ∷ x) y = let e = tests_append x y in omega arith

tests_none : (k : ℕ) → tests (replicate k []) ≡ 0
unfolding tests sum_of
tests_none zero = refl
tests_none (suc k) = let e = tests_none k in omega arith

tests_zipped : (x y : Alternative) → tests (zipped x y) ≡ tests x + tests y
unfolding tests sum_of zipped
tests_zipped [] y = omega arith
tests_zipped (s ∷ x) [] = omega arith
tests_zipped (s ∷ x) (t ∷ y) = let e = tests_zipped x y in let l = length-append s t in omega arith

pub tests_overlaid : (x y : Alternative) → tests (overlaid x y) ≡ tests x + tests y
unfolding overlaid padded
tests_overlaid x y =
    let p = tests_append (replicate (length y - length x) []) x in
    let q = tests_append (replicate (length x - length y) []) y in
    let u = tests_none (length y - length x) in
    let v = tests_none (length x - length y) in
    tests_zipped (padded (length y - length x) x) (padded (length x - length y) y) ∙ omega arith

pub tests_conditioned : (c : Boolean) (x : Alternative) → tests (conditioned c x) ≡ tests x + length x
unfolding tests sum_of conditioned
tests_conditioned c [] = refl
tests_conditioned c (s ∷ x) =
    let e = tests_conditioned c x in
    let l = length-append s (test (pair (the 1) (the 1)) c ∷ []) in
    omega arith

-- the greatest of a number m of each alternative grows with the alternatives
module _ (m : Alternative → ℕ) where
  map_grows : (g : Alternative → Alternative) (xs : List Alternative) → ((x : Alternative) → m x ≤ m (g x))
      → greatest_of m xs ≤ greatest_of m (map g xs)
  unfolding greatest_of
  map_grows g [] h = omega arith
  map_grows g (x ∷ xs) h = let e = map_grows g xs h in let d = h x in omega arith

  module _ (f : Alternative → Alternative → Alternative) where
    each_left : (xs ys : List Alternative) → 0 < length ys → ((x y : Alternative) → m x ≤ m (f x y))
        → greatest_of m xs ≤ greatest_of m (each f xs ys)
    unfolding greatest_of each
    each_left [] ys l h = omega arith
    each_left (x ∷ xs) [] l h = absurd (omega arith)
    each_left (x ∷ xs) (y ∷ ys) l h =
        let e = each_left xs (y ∷ ys) l h in
        let d = h x y in
        let a = greatest_of_append m (map (f x) (y ∷ ys)) (each f xs (y ∷ ys)) in
        omega arith

    each_right : (xs ys : List Alternative) → 0 < length xs → ((x y : Alternative) → m y ≤ m (f x y))
        → greatest_of m ys ≤ greatest_of m (each f xs ys)
    unfolding each
    each_right [] ys l h = absurd (omega arith)
    each_right (x ∷ xs) ys l h =
        let e = map_grows (f x) ys (h x) in
        let a = greatest_of_append m (map (f x) ys) (each f xs ys) in
        omega arith

-- the three numbers of xs are at most those of zs
pub record Within (xs zs : List Alternative) : Type 0 where
  pub number : length xs ≤ length zs
  pub steps : greatest_of length xs ≤ greatest_of length zs
  pub most : greatest_of tests xs ≤ greatest_of tests zs

within_trans : {xs ys zs : List Alternative} → Within xs ys → Within ys zs → Within xs zs
within_trans p q =
    record {
      number = omega (arith, p.number, q.number);
      steps = omega (arith, p.steps, q.steps);
      most = omega (arith, p.most, q.most);
    }

within_left : (xs ys : List Alternative) → Within xs (xs ++ ys)
within_left xs ys =
    record {
      number = omega (arith, length-append xs ys);
      steps = omega (arith, greatest_of_append length xs ys);
      most = omega (arith, greatest_of_append tests xs ys);
    }

within_right : (xs ys : List Alternative) → Within ys (xs ++ ys)
within_right xs ys =
    record {
      number = omega (arith, length-append xs ys);
      steps = omega (arith, greatest_of_append length xs ys);
      most = omega (arith, greatest_of_append tests xs ys);
    }

-- putting two alternatives together loses no step and no test of either
pub record Keeps (f : Alternative → Alternative → Alternative) : Type 0 where
  pub steps_left : (x y : Alternative) → length x ≤ length (f x y)
  pub steps_right : (x y : Alternative) → length y ≤ length (f x y)
  pub tests_left : (x y : Alternative) → tests x ≤ tests (f x y)
  pub tests_right : (x y : Alternative) → tests y ≤ tests (f x y)

chain_keeps : Keeps ◌++◌
chain_keeps =
    record {
      steps_left = λ x y. omega (arith, length-append x y);
      steps_right = λ x y. omega (arith, length-append x y);
      tests_left = λ x y. omega (arith, tests_append x y);
      tests_right = λ x y. omega (arith, tests_append x y);
    }

overlay_keeps : Keeps overlaid
overlay_keeps =
    record {
      steps_left = λ x y. omega (arith, overlaid_length x y);
      steps_right = λ x y. omega (arith, overlaid_length x y);
      tests_left = λ x y. omega (arith, tests_overlaid x y);
      tests_right = λ x y. omega (arith, tests_overlaid x y);
    }

module _ {f : Alternative → Alternative → Alternative} (K : Keeps f) (xs ys : List Alternative) where
  left_within : 0 < length ys → Within xs (each f xs ys)
  left_within k =
      record {
        number = rw length_each (le-mul_of_pos_right (length xs) k);
        steps = each_left length f xs ys k K.steps_left;
        most = each_left tests f xs ys k K.tests_left;
      }

  right_within : 0 < length xs → Within ys (each f xs ys)
  right_within h =
      record {
        number = rw (length_each, mul_comm (length xs) (length ys)) (le-mul_of_pos_right (length ys) h);
        steps = each_right length f xs ys h K.steps_right;
        most = each_right tests f xs ys h K.tests_right;
      }

-- the left operand, and the right one, within the whole
rewritten_left : (j : Join) (xs ys : List Alternative) → 0 < length xs → 0 < length ys
    → Within xs (rewritten j xs ys)
unfolding rewritten
rewritten_left followed_by_join xs ys h k = left_within chain_keeps xs ys k
rewritten_left either_order xs ys h k = within_trans (left_within chain_keeps xs ys k) (within_left _ _)
rewritten_left with_or_then xs ys h k = within_trans (left_within overlay_keeps xs ys k) (within_left _ _)
rewritten_left any_order xs ys h k =
    within_trans (within_trans (left_within chain_keeps xs ys k) (within_left _ _)) (within_left _ _)
rewritten_left with xs ys h k = left_within overlay_keeps xs ys k
rewritten_left or_else xs ys h k = within_left xs ys

rewritten_right : (j : Join) (xs ys : List Alternative) → 0 < length xs → 0 < length ys
    → Within ys (rewritten j xs ys)
unfolding rewritten
rewritten_right followed_by_join xs ys h k = right_within chain_keeps xs ys h
rewritten_right either_order xs ys h k = within_trans (right_within chain_keeps xs ys h) (within_left _ _)
rewritten_right with_or_then xs ys h k = within_trans (right_within overlay_keeps xs ys h) (within_left _ _)
rewritten_right any_order xs ys h k =
    within_trans (within_trans (right_within chain_keeps xs ys h) (within_left _ _)) (within_left _ _)
rewritten_right with xs ys h k = right_within overlay_keeps xs ys h
rewritten_right or_else xs ys h k = within_right xs ys

conditioned_part : (c : Boolean) (xs : List Alternative) → Within xs (map (conditioned c) xs)
conditioned_part c xs =
    record {
      number = omega (arith, length-map xs (conditioned c));
      steps = map_grows length (conditioned c) xs (λ x. omega (arith, conditioned_length c x));
      most = map_grows tests (conditioned c) xs (λ x. omega (arith, tests_conditioned c x));
    }

pub some_alternative : (p : Vector) → 0 < length (alternatives p)
unfolding alternatives
some_alternative (edge e c) = omega arith
some_alternative (join j p q) =
    let e = rewritten_left j (alternatives p) (alternatives q) (some_alternative p) (some_alternative q) in
    omega (arith, e.number, some_alternative p)
some_alternative (while s p c) = omega (arith, length-map (alternatives p) (conditioned c), some_alternative p)

pub join_left : (j : Join) (p q : Vector) → Within (alternatives p) (alternatives (join j p q))
unfolding alternatives
join_left j p q = rewritten_left j _ _ (some_alternative p) (some_alternative q)

pub join_right : (j : Join) (p q : Vector) → Within (alternatives q) (alternatives (join j p q))
unfolding alternatives
join_right j p q = rewritten_right j _ _ (some_alternative p) (some_alternative q)

pub while_part : (s : Side) (p : Vector) (c : Boolean) → Within (alternatives p) (alternatives (while s p c))
unfolding alternatives
while_part s p c = conditioned_part c (alternatives p)

-- a part over a limit makes a whole over a limit
or_true : (p q : Bool) → q ≡ true → (p || q) ≡ true
or_true true q h = refl
or_true false q h = h

or_cases : (p q : Bool) {R : Type 0} → (p || q) ≡ true → (p ≡ true → R) → (q ≡ true → R) → R
or_cases true q h f g = f refl
or_cases false q h f g = g h

pub limit_part : (xs zs : List Alternative) → Within xs zs → over_limit xs ≡ true → over_limit zs ≡ true
unfolding over_limit
limit_part xs zs w h =
    or_cases _ _ h (λ e. rw (up 64 w.number e) refl)
    (λ r. or_true (ltb 64 (length zs)) _
    (or_cases _ _ r (λ e. rw (up 16 w.steps e) refl)
    (λ e. or_true (ltb 16 (greatest_of length zs)) _ (up 64 w.most e))))
  where
    up : (n : ℕ) {a b : ℕ} → a ≤ b → ltb n a ≡ true → ltb n b ≡ true
    up n {a} {b} l e = lt-ltb n b (omega (arith, ltb-true n a e))
