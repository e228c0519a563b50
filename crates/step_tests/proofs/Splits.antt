-- The steps of an alternative that is put together of two.
-- Main names: behind_empty, behind_own; split_left, split_right, split_left_first, split_right_first, split_together;
-- get_d_conditioned.
use Prim.Native.Nat.{ℕ, zero, suc, ◌+◌, ◌-◌, ◌<◌, ◌≤◌}
use native.Mathlib.Omega.{arith}
use mathlib.Core.Path.{◌≡◌, refl, ap, sym, ◌∙◌}
use mathlib.Core.List.{[], ◌∷◌, ◌++◌, append-nil}
use lib.ListN.{length, get_or, get_or-eq_default}
use Rattle.alf.specs.Expressions.{Boolean, the, pair}
use Rattle.alf.specs.Alternatives.{test, Alternative, padded, zipped, overlaid, conditioned}
use Rattle.alternatives.specs.declared.picking.How.TheVariants.{Left, Right, LeftFirst, RightFirst, Together}
use Rattle.alternatives.specs.Picks.{put}
use Rattle.basics.proofs.Entries.{get_d_map}
use Rattle.step_tests.specs.Steps.{Behind, Split}

-- a step that there is not
none : (x : Alternative) (n : ℕ) → length x ≡ n → get_or x n [] ≡ []
none x n e = get_or-eq_default x [] (omega arith)

-- a step among the empty ones, and one behind them
padded_empty : (k : ℕ) (x : Alternative) (j : ℕ) → j < k → get_or (padded k x) j [] ≡ []
unfolding padded
padded_empty zero x j l = absurd (omega arith)
padded_empty (suc k) x zero l = refl
padded_empty (suc k) x (suc j) l = padded_empty k x j (omega arith)

padded_own : (k : ℕ) (x : Alternative) (i : ℕ) → get_or (padded k x) (k + i) [] ≡ get_or x i []
unfolding padded
padded_own zero x i = let e : 0 + i ≡ i = omega arith in ap (λ (n : ℕ). get_or x n []) e
padded_own (suc k) x i =
    let e : suc k + i ≡ suc (k + i) = omega arith in
    ap (λ (n : ℕ). get_or (padded (suc k) x) n []) e ∙ padded_own k x i

pub behind_empty : (k n j : ℕ) → j < k → Behind k n j n
behind_empty k n j l = record { is = λ x e. none x n e ∙ sym (padded_empty k x j l) }

pub behind_own : (k n j : ℕ) → k ≤ j → Behind k n j (j - k)
behind_own k n j l =
    let e : k + (j - k) ≡ j = omega arith in
    record { is = λ x d. sym (ap (λ (i : ℕ). get_or (padded k x) i []) (sym e) ∙ padded_own k x (j - k)) }

-- one after the other, and both at the same time
append_step : (x y : Alternative) (j : ℕ) → get_or (x ++ y) j [] ≡ get_or x j [] ++ get_or (padded (length x) y) j []
unfolding padded
append_step [] y j = refl
append_step (s ∷ x) y zero = sym (append-nil s)
append_step (s ∷ x) y (suc j) = append_step x y j

append_step_back : (x y : Alternative) (j : ℕ)
    → get_or (y ++ x) j [] ≡ get_or (padded (length y) x) j [] ++ get_or y j []
unfolding padded
append_step_back x [] j = sym (append-nil (get_or x j []))
append_step_back x (s ∷ y) zero = refl
append_step_back x (s ∷ y) (suc j) = append_step_back x y j

zipped_step : (x y : Alternative) (j : ℕ) → get_or (zipped x y) j [] ≡ get_or x j [] ++ get_or y j []
unfolding zipped
zipped_step [] y j = refl
zipped_step (s ∷ x) [] j = sym (append-nil (get_or (s ∷ x) j []))
zipped_step (s ∷ x) (t ∷ y) zero = refl
zipped_step (s ∷ x) (t ∷ y) (suc j) = zipped_step x y j

module _ (n m j : ℕ) where
  pub split_left : Split Left n m j j m
  unfolding put
  split_left = record { is = λ x y e d. rw (none y m d) (sym (append-nil (get_or x j []))) }

  pub split_right : Split Right n m j n j
  unfolding put
  split_right = record { is = λ x y e d. rw (none x n e) refl }

  pub split_left_first : {r : ℕ} → Behind n m j r → Split LeftFirst n m j j r
  unfolding put
  split_left_first b = record { is = λ x y e d. rw (b.is y d, ← e) (append_step x y j) }

  pub split_right_first : {l : ℕ} → Behind m n j l → Split RightFirst n m j l j
  unfolding put
  split_right_first b = record { is = λ x y e d. rw (b.is x e, ← d) (append_step_back x y j) }

  pub split_together : {l r : ℕ} → Behind (m - n) n j l → Behind (n - m) m j r → Split Together n m j l r
  unfolding put overlaid
  split_together b c =
      record { is = λ x y e d. rw (b.is x e, c.is y d, ← e, ← d) (zipped_step (padded _ x) (padded _ y) j) }

-- a condition's test comes last
pub get_d_conditioned : (c : Boolean) (x : Alternative) (j : ℕ) → j < length x
    → get_or (conditioned c x) j [] ≡ get_or x j [] ++ (test (pair (the 1) (the 1)) c ∷ [])
unfolding conditioned
get_d_conditioned c x j l = get_d_map _ x j [] [] l
