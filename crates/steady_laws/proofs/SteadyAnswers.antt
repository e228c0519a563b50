-- Document 02, [2]: what filling does to answers: `?-` is asked besides, so no answer rises (SteadyPins.antt).
--   filled_alternative           the answer of each alternative, at a row
--   filled_best, filled_answer   the answer of the expression, at a row and on a window
--   filled_no, filled_yes        as document 01 numbers them: a no stays no, and a yes was yes
--   filled_tries, tries_bound, filled_tries_bound     no fewer alternatives are tried, and no more than there are
use Rattle.std.specs.Prelude.{if◌then◌else◌}
use mathlib.Core.Path.{◌≡◌, refl}
use mathlib.Core.Bool.{Bool, true, false}
use mathlib.Core.List.{List, [], ◌∷◌, map}
use mathlib.Core.Logic.{◌⊎◌, inl, inr}
use Prim.Native.Nat.{ℕ, zero, suc, ◌+◌, ◌-◌, ◌<◌, ◌≤◌}
use native.Mathlib.Omega.{arith}
use lib.Dec.{eqb, leb}
use lib.ListN.{length, length-map, get_or}
use borrow.Author.Tests.{eq-eqb, ne_eqb}
use Rattle.basics.specs.Words.{greatest_of, least_of}
use Rattle.alf.specs.Expressions.{Boolean, Vector}
use Rattle.alf.specs.Windows.{YES, answer, best, numbered, row_answer}
use Rattle.alf.specs.Alternatives.{Step, Alternative, alternatives, step_at, steps_from, on_window, at_row, best_of}
use Rattle.alf.specs.Alternatives.{tried, tries, number_of_alternatives}
use Rattle.alf.specs.Steady.{filled}
use Rattle.basics.proofs.Bools.{below?}
use Rattle.alf.proofs.WindowsAreAlternatives.{window_alternatives}
use Rattle.alf.proofs.RowsAreAlternatives.{row_alternatives, row_small}
use Rattle.steady_laws.proofs.SteadyPins.{Fills, done, keep, add, none, more, FillsEach, FillsAll, both_length}
use Rattle.steady_laws.proofs.SteadyPins.{filled_fills}
use Rattle.steady_laws.proofs.SteadyLimits.{filled_number}

-- a lesser answer, numbered
no_falls : (r s : ℕ) → r ≤ s → numbered s ≡ 0 → numbered r ≡ 0
unfolding numbered
no_falls zero s l h = refl
no_falls (suc r) zero l h = absurd (omega arith)
no_falls (suc r) (suc zero) l h = absurd (omega arith)
no_falls (suc r) (suc (suc s)) l h = absurd (omega arith)

yes_rises : (r s : ℕ) → r ≤ s → numbered r ≡ 1 → numbered s ≡ 1
unfolding numbered
yes_rises zero s l h = absurd (omega arith)
yes_rises (suc zero) s l h = absurd (omega arith)
yes_rises (suc (suc r)) zero l h = absurd (omega arith)
yes_rises (suc (suc r)) (suc zero) l h = absurd (omega arith)
yes_rises (suc (suc r)) (suc (suc s)) l h = refl

-- no more are tried than there are
tried_bound : (rs : List ℕ) → tried rs ≤ length rs
unfolding tried
tried_bound [] = omega arith
tried_bound (r ∷ rs) = go (eqb r YES) (tried_bound rs)
  where
    go : (q : Bool) → tried rs ≤ length rs → (if q then 1 else 1 + tried rs) ≤ suc (length rs)
    go true h = omega arith
    go false h = omega arith

-- no answer rises
module _ (st : Boolean → ℕ → ℕ) where
  step_falls : {s t : Step} (a : ℕ) → Fills s t → step_at st t a ≤ step_at st s a
  unfolding step_at least_of
  step_falls a done = omega arith
  step_falls a (keep f) = let e = step_falls a f in omega arith
  step_falls a (add f) = let e = step_falls a f in omega arith

  steps_fall : {x y : Alternative} (a : ℕ) → FillsEach x y → steps_from st y a ≤ steps_from st x a
  unfolding steps_from
  steps_fall a none = omega arith
  steps_fall a (more r s) = let e = step_falls a r in let d = steps_fall (a + 1) s in omega arith

  pub row_falls : (i : ℕ) {x y : Alternative} → FillsEach x y → at_row st i y ≤ at_row st i x
  unfolding at_row
  row_falls i {x} {y} s = rw (← both_length s) (go (leb (length x) i))
    where
      go : (q : Bool)
          → (if q then steps_from st y (i - length x) else 0) ≤ (if q then steps_from st x (i - length x) else 0)
      go true = steps_fall (i - length x) s
      go false = omega arith

  best_falls : (i : ℕ) {xs ys : List Alternative} → FillsAll xs ys → best_of st ys i ≤ best_of st xs i
  unfolding best_of greatest_of
  best_falls i none = omega arith
  best_falls i (more r s) = let e = row_falls i r in let d = best_falls i s in omega arith

  -- alternative k, at a row
  one_falls : (i : ℕ) {xs ys : List Alternative} → FillsAll xs ys → (k : ℕ)
      → at_row st i (get_or ys k []) ≤ at_row st i (get_or xs k [])
  one_falls i none k = omega arith
  one_falls i (more r s) zero = row_falls i r
  one_falls i (more r s) (suc k) = one_falls i s k

  pub filled_alternative : (p : Vector) (i k : ℕ)
      → at_row st i (get_or (alternatives (filled p)) k []) ≤ at_row st i (get_or (alternatives p) k [])
  filled_alternative p i k = one_falls i (filled_fills p) k

  -- the expression, at a row
  pub filled_best : (p : Vector) (i : ℕ) → best st (filled p) i ≤ best st p i
  filled_best p i =
      rw (row_alternatives st (filled p) i, row_alternatives st p i) (best_falls i (filled_fills p))

  -- the expression, on a window
  window_falls : (a b : ℕ) {x y : Alternative} → FillsEach x y → on_window st a b y ≤ on_window st a b x
  unfolding on_window
  window_falls a b {x} {y} s = rw (← both_length s) (go (eqb b (a + length x)))
    where
      go : (q : Bool) → (if q then steps_from st y a else 0) ≤ (if q then steps_from st x a else 0)
      go true = steps_fall a s
      go false = omega arith

  windows_fall : (a b : ℕ) {xs ys : List Alternative} → FillsAll xs ys
      → greatest_of (on_window st a b) ys ≤ greatest_of (on_window st a b) xs
  unfolding greatest_of
  windows_fall a b none = omega arith
  windows_fall a b (more r s) = let e = window_falls a b r in let d = windows_fall a b s in omega arith

  pub filled_answer : (p : Vector) (a b : ℕ) → answer st (filled p) a b ≤ answer st p a b
  filled_answer p a b =
      rw (window_alternatives st (filled p) a b, window_alternatives st p a b) (windows_fall a b (filled_fills p))

  -- as document 01 numbers answers: a no stays no, and a yes was yes
  pub filled_no : (p : Vector) (i : ℕ) → row_answer st p i ≡ 0 → row_answer st (filled p) i ≡ 0
  unfolding row_answer
  filled_no p zero h = h
  filled_no p (suc i) h = no_falls (best st (filled p) (suc i)) (best st p (suc i)) (filled_best p (suc i)) h

  pub filled_yes : (p : Vector) (i : ℕ) → row_answer st (filled p) i ≡ 1 → row_answer st p i ≡ 1
  unfolding row_answer
  filled_yes p zero h = h
  filled_yes p (suc i) h = yes_rises (best st (filled p) (suc i)) (best st p (suc i)) (filled_best p (suc i)) h

  tried_rises : (i : ℕ) {xs ys : List Alternative} → FillsAll xs ys
      → tried (map (at_row st i) xs) ≤ tried (map (at_row st i) ys)
  unfolding tried
  tried_rises i none = omega arith
  tried_rises i (more {x = x} {y = y} {xs = xs} {ys = ys} r s) =
      go (below? (at_row st i x) 2) (below? (at_row st i y) 2) (tried_rises i s)
    where
      go : (at_row st i x < 2) ⊎ (2 ≤ at_row st i x) → (at_row st i y < 2) ⊎ (2 ≤ at_row st i y)
          → tried (map (at_row st i) xs) ≤ tried (map (at_row st i) ys)
          → (if eqb (at_row st i x) 2 then 1 else 1 + tried (map (at_row st i) xs))
          ≤ (if eqb (at_row st i y) 2 then 1 else 1 + tried (map (at_row st i) ys))
      go (inl l) (inl m) d =
          rw (ne_eqb (at_row st i x) 2 (λ e. omega arith), ne_eqb (at_row st i y) 2 (λ e. omega arith)) (omega arith)
      go (inl l) (inr m) d = absurd (omega (arith, row_falls i r))
      go (inr l) (inl m) d =
          rw (eq-eqb (at_row st i x) 2 (omega (arith, row_small st i x)), ne_eqb (at_row st i y) 2 (λ e. omega arith))
          (omega arith)
      go (inr l) (inr m) d =
          rw (
            eq-eqb (at_row st i x) 2 (omega (arith, row_small st i x)),
            eq-eqb (at_row st i y) 2 (omega (arith, row_small st i y)),
          )
          (omega arith)

  pub filled_tries : (p : Vector) (i : ℕ) → tries st (alternatives p) i ≤ tries st (alternatives (filled p)) i
  unfolding tries
  filled_tries p zero = omega arith
  filled_tries p (suc i) = tried_rises (suc i) (filled_fills p)

  -- and no more than there are
  pub tries_bound : (xs : List Alternative) (i : ℕ) → tries st xs i ≤ length xs
  unfolding tries
  tries_bound xs zero = omega arith
  tries_bound xs (suc i) =
      let e = tried_bound (map (at_row st (suc i)) xs) in
      let l = length-map xs (at_row st (suc i)) in
      omega arith

  pub filled_tries_bound : (p : Vector) (i : ℕ) → tries st (alternatives (filled p)) i ≤ number_of_alternatives p
  unfolding number_of_alternatives
  filled_tries_bound p i =
      let e = tries_bound (alternatives (filled p)) i in
      let n = filled_number p in
      omega arith
