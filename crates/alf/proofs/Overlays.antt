-- `&` of two vectors on windows, alternative by alternative: it lifts (Lifting.antt) with empty steps before the
-- shorter.
-- Main name: overlay_lifts.
use mathlib.Core.Path.{◌≡◌, refl, sym, ◌∙◌}
use mathlib.Core.Logic.{◌⊎◌, inl, inr}
use Prim.Native.Nat.{ℕ, ◌+◌, ◌-◌, ◌<◌, ◌≤◌, min, max}
use native.Mathlib.Nat.{add-zero}
use native.Mathlib.Omega.{arith}
use lib.ListN.{length}
use Rattle.basics.specs.Words.{greatest}
use Rattle.alf.specs.Expressions.{Boolean}
use Rattle.alf.specs.Windows.{Window, either, together}
use Rattle.alf.specs.Alternatives.{Alternative, overlaid, steps_from}
use Rattle.basics.proofs.Bools.{equal?, below?}
use Rattle.basics.proofs.Extremes.{min_max_left, greatest_same, greatest_zero, greatest_one, greatest_max}
use Rattle.alf.proofs.Steps.{steps_overlaid, overlaid_length}
use Rattle.alf.proofs.Lifting.{win, win_on, win_off, Lifts}

-- the two ways in which one of P, P' and Q may lie over each other
spread : (p p' q r r' s : ℕ)
    → max (min (max p p') q) (min (max r r') s) ≡ max (max (min p q) (min r s)) (max (min p' q) (min r' s))
spread p p' q r r' s =
    ap₂' (min_max_left p p' q) (min_max_left r r' s) ∙ swap (min p q) (min p' q) (min r s) (min r' s)
  where
    ap₂' : {x y z w : ℕ} → x ≡ y → z ≡ w → max x z ≡ max y w
    ap₂' e f = rw (e, f) refl

    swap : (x y z w : ℕ) → max (max x y) (max z w) ≡ max (max x z) (max y w)
    swap x y z w = omega arith

turn : (x y z w : ℕ) → max (min x y) (min z w) ≡ max (min w z) (min y x)
turn x y z w = omega arith

-- `&` is the same with its sides changed
overlay_turn : (P Q : Window) (a b : ℕ) → together P Q a b ≡ together Q P a b
unfolding together
overlay_turn P Q a b = greatest_same (b + 1 - a) _ _ (λ i l. turn (P a b) (Q (a + i) b) (P (a + i) b) (Q a b))

overlay_left : (P P' Q : Window) (a b : ℕ)
    → together (either P P') Q a b ≡ max (together P Q a b) (together P' Q a b)
unfolding together either
overlay_left P P' Q a b =
    greatest_same (b + 1 - a) _ _
    (λ i l. spread (P a b) (P' a b) (Q (a + i) b) (P (a + i) b) (P' (a + i) b) (Q a b))
    ∙ greatest_max (b + 1 - a) _ _

overlay_right : (P Q Q' : Window) (a b : ℕ)
    → together P (either Q Q') a b ≡ max (together P Q a b) (together P Q' a b)
overlay_right P Q Q' a b =
    overlay_turn P (either Q Q') a b
    ∙ overlay_left Q Q' P a b
    ∙ rw (overlay_turn Q P, overlay_turn Q' P) refl

overlay_same : (P P' Q Q' : Window) → ((a b : ℕ) → P a b ≡ P' a b)
    → ((a b : ℕ) → Q a b ≡ Q' a b)
    → (a b : ℕ) → together P Q a b ≡ together P' Q' a b
unfolding together
overlay_same P P' Q Q' p q a b =
    greatest_same (b + 1 - a) _ _ (λ i l. rw (p a b, q (a + i) b, p (a + i) b, q a b) refl)

overlay_no_left : (Q : Window) (a b : ℕ) → together (λ c d. 0) Q a b ≡ 0
unfolding together
overlay_no_left Q a b = greatest_zero (b + 1 - a) _ (λ i l. omega arith)

overlay_no_right : (P : Window) (a b : ℕ) → together P (λ c d. 0) a b ≡ 0
overlay_no_right P a b = overlay_turn P (λ c d. 0) a b ∙ overlay_no_left P a b

-- min is no where one of the two is
min_left : (u v : ℕ) → u ≡ 0 → min u v ≡ 0
min_left u v e = omega arith

min_right : (u v : ℕ) → v ≡ 0 → min u v ≡ 0
min_right u v e = omega arith

module _ (st : Boolean → ℕ → ℕ) (x y : Alternative) (a b : ℕ) where
  -- x from a and y from a + i, both to b: no unless their lengths fit
  over_off : (i : ℕ)
      → (b ≡ a + max (length x) (length y) → i ≡ length x - length y → length y ≤ length x → ⊥)
      → min (win st x a b) (win st y (a + i) b) ≡ 0
  over_off i n = go (equal? b (a + length x)) (equal? b (a + i + length y))
    where
      go : (b ≡ a + length x) ⊎ (b ≡ a + length x → ⊥)
          → (b ≡ a + i + length y) ⊎ (b ≡ a + i + length y → ⊥)
          → min (win st x a b) (win st y (a + i) b) ≡ 0
      go (inl e) (inl f) = absurd (n (omega arith) (omega arith) (omega arith))
      go (inl e) (inr f) = min_right _ _ (win_off st y (a + i) b f)
      go (inr e) f = min_left _ _ (win_off st x a b e)

  over_on : b ≡ a + length x → length y ≤ length x
      → min (win st x a b) (win st y (a + (length x - length y)) b) ≡ steps_from st (overlaid x y) a
  over_on e l =
      let d : length y - length x ≡ 0 = omega arith in
      let p = win_on st x a b e in
      let q = win_on st y (a + (length x - length y)) b (omega arith) in
      rw (steps_overlaid st x y a, d, add-zero a, p, q) refl

-- the same with x and y in each other's place
over_off_turned : (st : Boolean → ℕ → ℕ) (x y : Alternative) (a b i : ℕ)
    → (b ≡ a + max (length y) (length x) → i ≡ length y - length x → length x ≤ length y → ⊥)
    → min (win st x (a + i) b) (win st y a b) ≡ 0
over_off_turned st x y a b i n = comm _ _ ∙ over_off st y x a b i n
  where
    comm : (u v : ℕ) → min u v ≡ min v u
    comm u v = omega arith

module _ (st : Boolean → ℕ → ℕ) (x y : Alternative) (a b : ℕ) (l : length y ≤ length x) where
  over : ℕ → ℕ
  over i = max (min (win st x a b) (win st y (a + i) b)) (min (win st x (a + i) b) (win st y a b))

  over_other : (i : ℕ) → (i ≡ length x - length y → ⊥) → over i ≡ 0
  unfolding over
  over_other i n =
      let p = over_off st x y a b i (λ e f k. n f) in
      let q = over_off_turned st x y a b i (λ e f k. n (omega arith)) in
      rw (p, q) refl

  over_none : (b ≡ a + length x → ⊥) → (i : ℕ) → over i ≡ 0
  unfolding over
  over_none n i =
      let p = over_off st x y a b i (λ e f k. n (omega arith)) in
      let q = over_off_turned st x y a b i (λ e f k. n (omega arith)) in
      rw (p, q) refl

  over_there : b ≡ a + length x → over (length x - length y) ≡ steps_from st (overlaid x y) a
  unfolding over
  over_there e = rw (over_on st x y a b e l) (go (equal? (length x) (length y)))
    where
      v : ℕ
      v = steps_from st (overlaid x y) a

      second : ℕ
      second = min (win st x (a + (length x - length y)) b) (win st y a b)

      go : (length x ≡ length y) ⊎ (length x ≡ length y → ⊥) → max v second ≡ v
      go (inl f) =
          let z : length x - length y ≡ 0 = omega arith in
          let s : second ≡ v = rw (← over_on st x y a b e l, z, add-zero a) refl in
          rw s (omega arith)
      go (inr n) =
          let s : second ≡ 0 = over_off_turned st x y a b (length x - length y) (λ d f k. n (omega arith)) in
          rw s (omega arith)

  overlay_long : together (win st x) (win st y) a b ≡ win st (overlaid x y) a b
  unfolding together over
  overlay_long = go (equal? b (a + length x))
    where
      go : (b ≡ a + length x) ⊎ (b ≡ a + length x → ⊥)
          → greatest (b + 1 - a) over ≡ win st (overlaid x y) a b
      go (inl e) =
          greatest_one (b + 1 - a) (length x - length y) over (omega arith) (λ i m n. over_other i n)
          ∙ over_there e
          ∙ sym (win_on st (overlaid x y) a b (omega (arith, overlaid_length x y)))
      go (inr n) =
          greatest_zero (b + 1 - a) over (λ i m. over_none n i)
          ∙ sym (win_off st (overlaid x y) a b (λ d. n (omega (arith, overlaid_length x y))))

-- overlaid either way round, two alternatives answer the same
win_turn : (st : Boolean → ℕ → ℕ) (x y : Alternative) (a b : ℕ)
    → win st (overlaid x y) a b ≡ win st (overlaid y x) a b
win_turn st x y a b = go (equal? b (a + max (length x) (length y)))
  where
    p : length (overlaid x y) ≡ max (length x) (length y)
    p = overlaid_length x y

    q : length (overlaid y x) ≡ max (length y) (length x)
    q = overlaid_length y x

    comm : (u v : ℕ) → min u v ≡ min v u
    comm u v = omega arith

    go : (b ≡ a + max (length x) (length y)) ⊎ (b ≡ a + max (length x) (length y) → ⊥)
        → win st (overlaid x y) a b ≡ win st (overlaid y x) a b
    go (inl e) =
        win_on st (overlaid x y) a b (omega (arith, p))
        ∙ steps_overlaid st x y a
        ∙ comm _ _
        ∙ sym (steps_overlaid st y x a)
        ∙ sym (win_on st (overlaid y x) a b (omega (arith, q)))
    go (inr n) =
        win_off st (overlaid x y) a b (λ d. n (omega (arith, p)))
        ∙ sym (win_off st (overlaid y x) a b (λ d. n (omega (arith, q))))

overlay_one : (st : Boolean → ℕ → ℕ) (x y : Alternative) (a b : ℕ)
    → together (win st x) (win st y) a b ≡ win st (overlaid x y) a b
overlay_one st x y a b = go (below? (length x) (length y))
  where
    go : (length x < length y) ⊎ (length y ≤ length x)
        → together (win st x) (win st y) a b ≡ win st (overlaid x y) a b
    go (inl l) =
        overlay_turn (win st x) (win st y) a b ∙ overlay_long st y x a b (omega arith) ∙ win_turn st y x a b
    go (inr l) = overlay_long st x y a b l

pub overlay_lifts : (st : Boolean → ℕ → ℕ) → Lifts st together overlaid
overlay_lifts st =
    record {
      same = overlay_same;
      left = overlay_left;
      right = overlay_right;
      no_left = overlay_no_left;
      no_right = overlay_no_right;
      one = λ x y a b h k. overlay_one st x y a b;
    }
