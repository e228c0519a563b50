-- Sums of lists, and what limit 8 says of the alternatives that lists stand for.
--   tests_are                       the tests of the alternatives are the sums of their steps
--   light_next, light_last          the alternatives from one on
--   greatest_each, each_greatest    the greatest entry
--   Lighting, lighting-..           on the way through the alternatives
--   sum_end, few_end                at the end of a list
use mathlib.Core.Path.{◌≡◌, refl, ap, ap₂, ◌∙◌}
use mathlib.Core.List.{List, [], ◌∷◌, map}
use Prim.Native.Nat.{ℕ, zero, suc, ◌+◌, ◌<◌, ◌≤◌, max}
use native.Mathlib.Nat.{zero-add}
use native.Mathlib.Omega.{arith}
use lib.Dec.{eqb}
use lib.ListN.{length, get_or, take, drop, drop_of_length-le, length-drop}
use lib.Seq.{length-take-le}
use Rattle.basics.specs.Words.{greatest_of, sum_of}
use Rattle.alf.specs.Alternatives.{Test, Alternative, tests}
use Rattle.alternatives.specs.InMemory.{cut, sum}
use Rattle.alternatives.proofs.Cuts.{cut_at, sum_next, sum_nil, part, part_last}
use Rattle.basics.specs.Deciding.{Decides}
use Rattle.basics.proofs.Deciding.{same_decided, eqb_decides}
use Rattle.listed_acceptance.specs.Lists.{Light}

-- the sum of the lengths of some pieces
sum_lengths : {A : Type 0} (n : ℕ) (ys : List (List A)) → sum_of length (take n ys) ≡ sum (take n (map length ys))
unfolding sum sum_of
sum_lengths zero ys = refl
sum_lengths (suc n) [] = refl
sum_lengths (suc n) (y ∷ ys) = ap (λ (k : ℕ). length y + k) (sum_lengths n ys)

drop_map : {A : Type 0} (n : ℕ) (ys : List (List A)) → map length (drop n ys) ≡ drop n (map length ys)
drop_map zero ys = refl
drop_map (suc n) [] = refl
drop_map (suc n) (y ∷ ys) = drop_map n ys

-- the pieces have the lengths that they are cut by
lengths_cut : {A : Type 0} (ns : List ℕ) (xs : List A) → sum ns ≤ length xs → map length (cut ns xs) ≡ ns
unfolding cut sum sum_of
lengths_cut [] xs h = refl
lengths_cut (n ∷ ns) xs h =
    ap₂ (λ (k : ℕ) (l : List ℕ). k ∷ l) (length-take-le n xs (omega arith))
    (lengths_cut ns (drop n xs) (omega (arith, length-drop n xs)))

tests_pieces : (ns : List ℕ) (ys : Alternative)
    → greatest_of tests (cut ns ys) ≡ greatest_of sum (cut ns (map length ys))
unfolding greatest_of cut tests
tests_pieces [] ys = refl
tests_pieces (n ∷ ns) ys =
    ap₂ (λ (x y : ℕ). max x y) (sum_lengths n ys)
    (tests_pieces ns (drop n ys) ∙ ap (λ (l : List ℕ). greatest_of sum (cut ns l)) (drop_map n ys))

-- how many tests the alternative with most has
pub tests_are : (steps tested : List ℕ) (all : List Test) → sum tested ≤ length all
    → greatest_of tests (cut steps (cut tested all)) ≡ greatest_of sum (cut steps tested)
tests_are steps tested all h =
    tests_pieces steps (cut tested all)
    ∙ ap (λ (l : List ℕ). greatest_of sum (cut steps l)) (lengths_cut tested all h)

-- the alternatives from one on
pub light_next : (steps tested : List ℕ) (i s : ℕ) → i < length steps
    → greatest_of sum (cut (drop i steps) (drop s tested))
    ≡ max (sum (take (get_or steps i 0) (drop s tested)))
    (greatest_of sum (cut (drop (i + 1) steps) (drop (s + get_or steps i 0) tested)))
unfolding greatest_of
light_next steps tested i s h = rw (cut_at steps tested i s h) refl

pub light_last : (steps tested : List ℕ) (i : ℕ) → length steps ≤ i
    → greatest_of sum (cut (drop i steps) tested) ≡ 0
unfolding greatest_of cut
light_last steps tested i h = rw (drop_of_length-le steps {i = i} h) refl

-- the greatest entry
pub greatest_each : (k : ℕ) (l : List ℕ) → ((i : ℕ) → i < length l → get_or l i 0 ≤ k)
    → greatest_of (λ n. n) l ≤ k
unfolding greatest_of
greatest_each k [] h = omega arith
greatest_each k (x ∷ l) h =
    let e = h zero (omega arith) in
    let f = greatest_each k l (λ i m. h (suc i) (omega arith)) in
    omega arith

pub each_greatest : (l : List ℕ) (i : ℕ) → i < length l → get_or l i 0 ≤ greatest_of (λ n. n) l
unfolding greatest_of
each_greatest [] i h = absurd (omega arith)
each_greatest (x ∷ l) zero h = omega arith
each_greatest (x ∷ l) (suc i) h = let e = each_greatest l i (omega arith) in omega arith

-- On the way through the alternatives: those from i on, whose steps start at s, decide whether all are light.
pub record Lighting (steps tested : List ℕ) (s i : ℕ) : Type 0 where
  pub within : i ≤ length steps
  pub passed : s + sum (drop i steps) ≡ sum steps
  pub forth : greatest_of sum (cut (drop i steps) (drop s tested)) ≤ 64 → Light steps tested
  pub back : Light steps tested → greatest_of sum (cut (drop i steps) (drop s tested)) ≤ 64

pub lighting_first : (steps tested : List ℕ) → Lighting steps tested 0 0
lighting_first steps tested = record { within = omega arith; passed = zero-add _; forth = λ h. h; back = λ h. h }

module _ {steps tested : List ℕ} {s i : ℕ} (l : Lighting steps tested s i) where
  module _ (h : i < length steps) where
    pub lighting_room : sum steps ≤ length tested → s + get_or steps i 0 ≤ length tested
    lighting_room e = omega (arith, l.passed, sum_next steps i h)

    pub lighting_over : (sum (take (get_or steps i 0) (drop s tested)) ≤ 64 → ⊥) → Light steps tested → ⊥
    lighting_over n k =
        let e = light_next steps tested i s h in
        let f = l.back k in
        n (omega arith)

    pub lighting_next : sum (take (get_or steps i 0) (drop s tested)) ≤ 64
        → Lighting steps tested (s + get_or steps i 0) (i + 1)
    lighting_next k =
        let e = light_next steps tested i s h in
        record {
          within = omega arith;
          passed = omega (arith, l.passed, sum_next steps i h);
          forth = λ m. l.forth (omega arith);
          back = λ m. let f = l.back m in omega arith;
        }

  pub lighting_end : length steps ≤ i → Light steps tested
  lighting_end h = l.forth (omega (arith, light_last steps (drop s tested) i h))

-- What is left of a number at the end of a list.
sum_last : (l : List ℕ) (i : ℕ) → length l ≤ i → sum (drop i l) ≡ 0
sum_last l i h = rw (drop_of_length-le l {i = i} h) sum_nil

pub sum_end : (l : List ℕ) (want left i : ℕ) → length l ≤ i → left + sum l ≡ want + sum (drop i l)
    → Decides (eqb left 0) (sum l ≡ want)
sum_end l want left i h e =
    let z = sum_last l i h in
    same_decided (left ≡ 0) (sum l ≡ want) (eqb left 0) (λ d. omega arith) (λ d. omega arith) (eqb_decides left 0)

pub few_end : (l : List ℕ) (s n left i : ℕ) → n ≤ i
    → left + sum (take n (drop s l)) ≡ 64 + sum (part l s n i)
    → sum (take n (drop s l)) ≤ 64
few_end l s n left i h e = let z = ap sum (part_last l s n i h) ∙ sum_nil in omega arith
