-- The answers of an alternative, by how it was made. Over any states `st` of the boolean expressions at the rows.
--   edge_small, step_small, steps_small   no answer is above yes
--   steps_append        `->`: the steps of one, then of the other
--   steps_overlaid      `&`: both end together
--   steps_conditioned   `P & c`: the steps, and the condition at each row
--   overlaid_length, conditioned_length, asked_one
use Rattle.std.specs.Prelude.{if◌then◌else◌}
use mathlib.Core.Path.{◌≡◌, refl, ap, ◌∙◌}
use mathlib.Core.Bool.{Bool, true, false}
use mathlib.Core.List.{[], ◌∷◌, ◌++◌}
use Prim.Native.Nat.{ℕ, zero, suc, ◌+◌, ◌-◌, ◌<◌, ◌≤◌, min, max}
use native.Mathlib.Nat.{add-zero}
use native.Mathlib.Omega.{arith}
use lib.ListN.{length, replicate, length-append, length-replicate, length-map}
use lib.Dec.{eqb}
use Rattle.basics.specs.Words.{least, least_of}
use Rattle.alf.specs.States.{X, reduce}
use Rattle.alf.specs.Expressions.{Boolean, Half, any, the, Edge, pair, changes, stays}
use Rattle.alf.specs.Windows.{is_digit, asked, digit_asked, letter_asked, edge_on, certainty, held}
use Rattle.alf.specs.Alternatives.{test, Step, Alternative, padded, zipped, overlaid, conditioned}
use Rattle.alf.specs.Alternatives.{test_at, step_at, steps_from}
use Rattle.basics.proofs.Extremes.{least_same, least_first, least_of_append, least_of_small}

pick_small : (q : Bool) (x y : ℕ) → x ≤ 2 → y ≤ 2 → (if q then x else y) ≤ 2
pick_small true x y h k = h
pick_small false x y h k = k

-- a digit 1 asked of a state is the condition's answer there
pub asked_one : (s : ℕ) → asked (the 1) s ≡ certainty s
unfolding asked digit_asked certainty reduce
asked_one zero = refl
asked_one (suc zero) = refl
asked_one (suc (suc zero)) = refl
asked_one (suc (suc (suc zero))) = refl
asked_one (suc (suc (suc (suc zero)))) = refl
asked_one (suc (suc (suc (suc (suc zero))))) = refl
asked_one (suc (suc (suc (suc (suc (suc zero)))))) = refl
asked_one (suc (suc (suc (suc (suc (suc (suc zero))))))) = refl
asked_one (suc (suc (suc (suc (suc (suc (suc (suc s)))))))) = refl

-- no literal's and no edge's answer is above yes
pub asked_small : (h : Half) (s : ℕ) → asked h s ≤ 2
unfolding asked digit_asked letter_asked
asked_small any s = omega arith
asked_small (the l) s =
    pick_small (is_digit l) _ _
    (pick_small (eqb (reduce s) l) _ _ (omega arith) (pick_small (eqb (reduce s) X) _ _ (omega arith) (omega arith)))
    (pick_small (eqb s l) _ _ (omega arith) (omega arith))

pub edge_small : (e : Edge) (x y : ℕ) → edge_on e x y ≤ 2
unfolding edge_on
edge_small (pair f t) x y = let h = asked_small f x in omega arith
edge_small changes x y = pick_small (eqb x y) _ _ (omega arith) (omega arith)
edge_small stays x y = pick_small (eqb x y) _ _ (omega arith) (omega arith)

padded_length : (k : ℕ) (x : Alternative) → length (padded k x) ≡ k + length x
unfolding padded
padded_length k x = length-append (replicate k []) x ∙ ap (λ (n : ℕ). n + length x) (length-replicate k [])

zipped_length : (x y : Alternative) → length x ≡ length y → length (zipped x y) ≡ length x
unfolding zipped
zipped_length [] [] h = refl
zipped_length [] (t ∷ y) h = absurd (omega arith)
zipped_length (s ∷ x) [] h = refl
zipped_length (s ∷ x) (t ∷ y) h = ap suc (zipped_length x y (omega arith))

pub overlaid_length : (x y : Alternative) → length (overlaid x y) ≡ max (length x) (length y)
unfolding overlaid
overlaid_length x y =
    let p = padded_length (length y - length x) x in
    let q = padded_length (length x - length y) y in
    zipped_length _ _ (omega arith) ∙ omega arith

pub conditioned_length : (c : Boolean) (x : Alternative) → length (conditioned c x) ≡ length x
unfolding conditioned
conditioned_length c x = length-map x _

min_assoc : (x y z : ℕ) → min (min x y) z ≡ min x (min y z)
min_assoc x y z = omega arith

-- a condition asked at both ends of the last step
close : (s ca cb : ℕ) → s ≤ 2 → min (min s (min ca cb)) 2 ≡ min (min s 2) (min ca (min cb 2))
close s ca cb h =
    let e : min s 2 ≡ s = omega arith in
    rw (e, ← min_assoc ca cb 2) (min_assoc s (min ca cb) 2)

-- a condition asked at both ends of a step and from its end on is asked from its start on
regroup : (s ca cb r h : ℕ) → min (min s (min ca cb)) (min r (min cb h)) ≡ min (min s r) (min ca (min cb h))
regroup s ca cb r h = apart (min s (min ca cb)) (min cb h) (omega arith)
  where
    apart : (w k : ℕ) → min w k ≡ min (min s ca) k → min w (min r k) ≡ min (min s r) (min ca k)
    apart w k e = swap w r k ∙ ap (min r) e ∙ order s ca r k
      where
        swap : (x y z : ℕ) → min x (min y z) ≡ min y (min x z)
        swap x y z = omega arith

        order : (x y z u : ℕ) → min z (min (min x y) u) ≡ min (min x z) (min y u)
        order x y z u = omega arith

module _ (st : Boolean → ℕ → ℕ) where
  pub step_small : (s : Step) (a : ℕ) → step_at st s a ≤ 2
  unfolding step_at
  step_small s a = least_of_small (test_at st a) s

  pub steps_small : (x : Alternative) (a : ℕ) → steps_from st x a ≤ 2
  unfolding steps_from
  steps_small [] a = omega arith
  steps_small (s ∷ x) a = let e = step_small s a in omega arith

  step_append : (s t : Step) (a : ℕ) → step_at st (s ++ t) a ≡ min (step_at st s a) (step_at st t a)
  unfolding step_at
  step_append s t a = least_of_append (test_at st a) s t (least_of_small (test_at st a) t)

  pub steps_append : (x y : Alternative) (a : ℕ)
      → steps_from st (x ++ y) a ≡ min (steps_from st x a) (steps_from st y (a + length x))
  unfolding steps_from
  steps_append [] y a = let e = steps_small y a in rw add-zero (omega arith)
  steps_append (s ∷ x) y a =
      let e : a + suc (length x) ≡ a + 1 + length x = omega arith in
      let i = steps_append x y (a + 1) in
      rw e (omega arith)

  steps_padded : (k : ℕ) (x : Alternative) (a : ℕ) → steps_from st (padded k x) a ≡ steps_from st x (a + k)
  unfolding padded steps_from step_at least_of
  steps_padded zero x a = rw add-zero refl
  steps_padded (suc k) x a =
      let e : a + suc k ≡ a + 1 + k = omega arith in
      let i = steps_padded k x (a + 1) in
      let u = steps_small x (a + 1 + k) in
      rw e (omega arith)

  steps_zipped : (x y : Alternative) (a : ℕ) → length x ≡ length y
      → steps_from st (zipped x y) a ≡ min (steps_from st x a) (steps_from st y a)
  unfolding zipped steps_from
  steps_zipped [] [] a h = omega arith
  steps_zipped [] (t ∷ y) a h = absurd (omega arith)
  steps_zipped (s ∷ x) [] a h = absurd (omega arith)
  steps_zipped (s ∷ x) (t ∷ y) a h =
      let i = steps_zipped x y (a + 1) (omega arith) in
      let e = step_append s t a in
      omega arith

  pub steps_overlaid : (x y : Alternative) (a : ℕ)
      → steps_from st (overlaid x y) a
      ≡ min (steps_from st x (a + (length y - length x))) (steps_from st y (a + (length x - length y)))
  unfolding overlaid
  steps_overlaid x y a =
      let p = padded_length (length y - length x) x in
      let q = padded_length (length x - length y) y in
      steps_zipped _ _ a (omega arith) ∙ rw (steps_padded, steps_padded) refl

  -- the condition's least answer over n rows from a
  held_for : Boolean → ℕ → ℕ → ℕ
  held_for c n a = least n (λ i. certainty (st c (a + i)))

  held_for_none : (c : Boolean) (a : ℕ) → held_for c 0 a ≡ 2
  unfolding held_for least
  held_for_none c a = refl

  held_for_first : (c : Boolean) (n a : ℕ) → held_for c (suc n) a ≡ min (certainty (st c a)) (held_for c n (a + 1))
  unfolding held_for
  held_for_first c n a =
      let z : a + 0 ≡ a = omega arith in
      let e = least_first n (λ i. certainty (st c (a + i))) in
      let s = least_same n (λ i. certainty (st c (a + suc i))) (λ i. certainty (st c (a + 1 + i)))
      (λ i l. ap (λ (r : ℕ). certainty (st c r)) (shift i)) in
      let w : certainty (st c (a + 0)) ≡ certainty (st c a) = rw z refl in
      omega arith
    where
      shift : (i : ℕ) → a + suc i ≡ a + 1 + i
      shift i = omega arith

  step_conditioned : (c : Boolean) (s : Step) (a : ℕ)
      → step_at st (s ++ (test (pair (the 1) (the 1)) c ∷ [])) a
      ≡ min (step_at st s a) (min (certainty (st c a)) (certainty (st c (a + 1))))
  unfolding step_at least_of test_at edge_on
  step_conditioned c s a =
      let e = step_append s (test (pair (the 1) (the 1)) c ∷ []) a in
      let p = asked_one (st c a) in
      let q = asked_one (st c (a + 1)) in
      let u = step_small s a in
      omega arith

  conditioned_steps : (c : Boolean) (s : Step) (x : Alternative) (a : ℕ)
      → steps_from st (conditioned c (s ∷ x)) a
      ≡ min (steps_from st (s ∷ x) a) (held_for c (suc (suc (length x))) a)
  unfolding steps_from conditioned
  conditioned_steps c s [] a =
      let e = step_conditioned c s a in
      let f = held_for_first c 1 a in
      let g = held_for_first c 0 (a + 1) in
      rw (e, f, g, held_for_none c (a + 1 + 1)) (close (step_at st s a) _ _ (step_small s a))
  conditioned_steps c s (t ∷ x) a =
      let i = conditioned_steps c t x (a + 1) in
      let e = step_conditioned c s a in
      let f = held_for_first c (suc (suc (length x))) a in
      let g = held_for_first c (suc (length x)) (a + 1) in
      rw (e, i, f, g) (regroup (step_at st s a) _ _ _ _)

  pub steps_conditioned : (c : Boolean) (x : Alternative) (a : ℕ) → 0 < length x
      → steps_from st (conditioned c x) a ≡ min (steps_from st x a) (held (st c) a (a + length x))
  unfolding held held_for
  steps_conditioned c [] a h = absurd (omega arith)
  steps_conditioned c (s ∷ x) a h =
      let e : a + suc (length x) + 1 - a ≡ suc (suc (length x)) = omega arith in
      rw e (conditioned_steps c s x a)
