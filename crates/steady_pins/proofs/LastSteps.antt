-- Tests behind those of an alternative's last step: what `& ?- c` makes of an alternative.
--   lastly                                   an alternative with some tests behind those of its last step
--   lastly_length, lastly_tests, lastly_step how many steps and tests it has, and each of its steps
--   last_of, last_on, last_off                the tests that step j of n gets
--   lastly_none, lastly_twice                no tests, and tests behind others
--   overlaid_lastly, each_lastly             `&` with one step is such an alternative
use Rattle.std.specs.Prelude.{if◌then◌else◌}
use Prim.Native.Nat.{ℕ, zero, suc, ◌+◌, ◌-◌, ◌<◌}
use native.Mathlib.Omega.{arith}
use mathlib.Core.Path.{◌≡◌, refl, ap, sym, ◌∙◌}
use mathlib.Core.Logic.{◌⊎◌, inl, inr}
use mathlib.Core.List.{List, [], ◌∷◌, ◌++◌, map, append-nil, append_assoc}
use lib.Dec.{eqb}
use lib.ListN.{length, get_or, length-append}
use borrow.Author.Tests.{eq-eqb, ne_eqb}
use Rattle.basics.specs.Words.{sum_of}
use Rattle.basics.proofs.Bools.{equal?}
use Rattle.basics.proofs.AllEntries.{none, more}
use Rattle.alf.specs.Alternatives.{Step, Alternative, each, padded, zipped, overlaid, tests}
use Rattle.alf.proofs.Lifting.{Steps}

unfoldable pub lastly : Step → Alternative → Alternative
lastly u [] = []
lastly u (s ∷ []) = (s ++ u) ∷ []
lastly u (s ∷ t ∷ x) = s ∷ lastly u (t ∷ x)

pub lastly_length : (u : Step) (x : Alternative) → length (lastly u x) ≡ length x
unfolding lastly
lastly_length u [] = refl
lastly_length u (s ∷ []) = refl
lastly_length u (s ∷ t ∷ x) = ap suc (lastly_length u (t ∷ x))

pub lastly_tests : (u : Step) (x : Alternative) → 0 < length x → tests (lastly u x) ≡ tests x + length u
unfolding lastly tests sum_of
lastly_tests u [] l = absurd (omega arith)
lastly_tests u (s ∷ []) l = let e = length-append s u in omega arith
lastly_tests u (s ∷ t ∷ x) l = let e = lastly_tests u (t ∷ x) (omega arith) in omega arith

-- the tests behind those of step j of n
unfoldable pub last_of : Step → ℕ → ℕ → Step
last_of u n j = if eqb (j + 1) n then u else []

pub last_on : (u : Step) (n j : ℕ) → j + 1 ≡ n → last_of u n j ≡ u
unfolding last_of
last_on u n j e = rw (eq-eqb (j + 1) n e) refl

pub last_off : (u : Step) (n j : ℕ) → (j + 1 ≡ n → ⊥) → last_of u n j ≡ []
unfolding last_of
last_off u n j f = rw (ne_eqb (j + 1) n f) refl

last_shift : (u : Step) (n j : ℕ) → last_of u n j ≡ last_of u (suc n) (suc j)
last_shift u n j = go (equal? (j + 1) n)
  where
    go : (j + 1 ≡ n) ⊎ (j + 1 ≡ n → ⊥) → last_of u n j ≡ last_of u (suc n) (suc j)
    go (inl e) = last_on u n j e ∙ sym (last_on u (suc n) (suc j) (omega arith))
    go (inr f) = last_off u n j f ∙ sym (last_off u (suc n) (suc j) (λ e. f (omega arith)))

pub lastly_step : (u : Step) (x : Alternative) (j : ℕ)
    → get_or (lastly u x) j [] ≡ get_or x j [] ++ last_of u (length x) j
unfolding lastly
lastly_step u [] j = sym (last_off u 0 j (λ e. omega arith))
lastly_step u (s ∷ []) zero = rw (last_on u 1 0 refl) refl
lastly_step u (s ∷ []) (suc j) = sym (last_off u 1 (suc j) (λ e. omega arith))
lastly_step u (s ∷ t ∷ x) zero =
    rw (last_off u (suc (suc (length x))) 0 (λ e. omega arith)) (sym (append-nil s))
lastly_step u (s ∷ t ∷ x) (suc j) =
    lastly_step u (t ∷ x) j ∙ ap (◌++◌ (get_or (t ∷ x) j [])) (last_shift u (suc (length x)) j)

pub lastly_none : (x : Alternative) → lastly [] x ≡ x
unfolding lastly
lastly_none [] = refl
lastly_none (s ∷ []) = rw (append-nil s) refl
lastly_none (s ∷ t ∷ x) = ap (◌∷◌ s) (lastly_none (t ∷ x))

pub lastly_twice : (u v : Step) (x : Alternative) → lastly v (lastly u x) ≡ lastly (u ++ v) x
unfolding lastly
lastly_twice u v [] = refl
lastly_twice u v (s ∷ []) = rw (append_assoc s u v) refl
lastly_twice u v (s ∷ t ∷ []) = ap (◌∷◌ s) (lastly_twice u v (t ∷ []))
lastly_twice u v (s ∷ t ∷ w ∷ x) = ap (◌∷◌ s) (lastly_twice u v (t ∷ w ∷ x))

-- `&` with one step: empty steps before it
zipped_lastly : (u s : Step) (x : Alternative)
    → zipped (s ∷ x) (padded (length x) (u ∷ [])) ≡ lastly u (s ∷ x)
unfolding zipped padded lastly
zipped_lastly u s [] = refl
zipped_lastly u s (t ∷ x) = rw (append-nil s, zipped_lastly u t x) refl

padded_zero : (x : Alternative) → padded 0 x ≡ x
unfolding padded
padded_zero x = refl

pub overlaid_lastly : (u : Step) (x : Alternative) → 0 < length x → overlaid x (u ∷ []) ≡ lastly u x
unfolding overlaid
overlaid_lastly u [] l = absurd (omega arith)
overlaid_lastly u (s ∷ x) l =
    let e : 1 - suc (length x) ≡ 0 = omega arith in
    let d : suc (length x) - 1 ≡ length x = omega arith in
    rw (e, d, padded_zero (s ∷ x)) (zipped_lastly u s x)

pub each_lastly : (u : Step) {xs : List Alternative} → Steps xs
    → each overlaid xs ((u ∷ []) ∷ []) ≡ map (lastly u) xs
unfolding each
each_lastly u none = refl
each_lastly u (more {x = x} h s) = rw (overlaid_lastly u x h, each_lastly u s) refl
