-- Laws of a call's order that is put together of two: refused by the first, or by the second once the first is passed.
--   refused_first, refused_then, refused_either    refused, from the parts and to the parts
--   plainly, by_first, by_then                     the same of a refusal that tells no bytes
--   passed_both, passed_left, passed_right         passed, likewise
--   fixed_both                                     each row fixes its place
--   Sole, sole_both, sole_fixed                    an order refuses with one number at one place
--   none_first                                     what is so nowhere first is so nowhere
--   Is                                             an outcome that is this refusal
use Rattle.std.specs.Prelude.{Err}
use mathlib.Core.Path.{◌≡◌, refl}
use mathlib.Core.List.{[], ◌∷◌, ◌++◌}
use mathlib.Core.Logic.{◌⊎◌, inl, inr, ⊎_elim}
use Prim.Native.Nat.{ℕ, zero, suc, ◌<◌}
use native.Mathlib.Omega.{arith}
use Rattle.basics.specs.Refusing.{Outcome}
use Rattle.basics.specs.Refusing.{refusal}
use Rattle.basics.specs.declared.Refusal.{Refusal}
use Rattle.alf.specs.Refusals.{Order, RefusedWith, RefusedBy, Passed, First}
use Rattle.alf.proofs.Outcomes.{AllFixed, refused_passed, refused_unique}

pub refused_first : (o o' : Order) (n p : ℕ) → RefusedWith o n p → RefusedWith (o ++ o') n p
unfolding RefusedWith
refused_first [] o' n p r = absurd r
refused_first (c ∷ o) o' n p (inl r) = inl r
refused_first (c ∷ o) o' n p (inr r) = inr (r.0, refused_first o o' n p r.1)

pub refused_then : (o o' : Order) (n p : ℕ) → Passed o → RefusedWith o' n p → RefusedWith (o ++ o') n p
unfolding RefusedWith Passed
refused_then [] o' n p h r = r
refused_then (c ∷ o) o' n p h r = inr (h.0, refused_then o o' n p h.1 r)

pub plainly : (o : Order) (n p : ℕ) → RefusedWith o n p → RefusedBy o (refusal n p)
plainly o n p h = record { by = h; bare = refl }

pub by_first : (o o' : Order) {r : Refusal} → RefusedBy o r → RefusedBy (o ++ o') r
by_first o o' h = record { by = refused_first o o' _ _ h.by; bare = h.bare }

pub by_then : (o o' : Order) {r : Refusal} → Passed o → RefusedBy o' r → RefusedBy (o ++ o') r
by_then o o' g h = record { by = refused_then o o' _ _ g h.by; bare = h.bare }

pub passed_both : (o o' : Order) → Passed o → Passed o' → Passed (o ++ o')
unfolding Passed
passed_both [] o' h k = k
passed_both (c ∷ o) o' h k = (h.0, passed_both o o' h.1 k)

pub fixed_both : (o o' : Order) → AllFixed o → AllFixed o' → AllFixed (o ++ o')
fixed_both [] o' h k = k
fixed_both (c ∷ o) o' h k = (h.0, fixed_both o o' h.1 k)

pub passed_left : (o o' : Order) → Passed (o ++ o') → Passed o
unfolding Passed
passed_left [] o' h = tt
passed_left (c ∷ o) o' h = (h.0, passed_left o o' h.1)

pub passed_right : (o o' : Order) → Passed (o ++ o') → Passed o'
unfolding Passed
passed_right [] o' h = h
passed_right (c ∷ o) o' h = passed_right o o' h.1

pub refused_either : (o o' : Order) (n p : ℕ) → RefusedWith (o ++ o') n p
    → RefusedWith o n p ⊎ (Passed o × RefusedWith o' n p)
unfolding RefusedWith Passed
refused_either [] o' n p r = inr (tt, r)
refused_either (c ∷ o) o' n p (inl r) = inl (inl r)
refused_either (c ∷ o) o' n p (inr (m, r)) =
    ⊎_elim (λ a. inl (inr (m, a))) (λ b. inr ((m, b.0), b.1)) (refused_either o o' n p r)

abbrev pub Sole : Order → Type 0
Sole o = (n m p q : ℕ) → RefusedWith o n p → RefusedWith o m q → (n ≡ m) × (p ≡ q)

pub sole_both : (o o' : Order) → Sole o → Sole o' → Sole (o ++ o')
sole_both o o' f g n m p q a b = go (refused_either o o' n p a) (refused_either o o' m q b)
  where
    go : RefusedWith o n p ⊎ (Passed o × RefusedWith o' n p)
        → RefusedWith o m q ⊎ (Passed o × RefusedWith o' m q)
        → (n ≡ m) × (p ≡ q)
    go (inl x) (inl y) = f n m p q x y
    go (inl x) (inr y) = absurd (refused_passed o n p y.0 x)
    go (inr x) (inl y) = absurd (refused_passed o m q x.0 y)
    go (inr x) (inr y) = g n m p q x.1 y.1

pub sole_fixed : (o : Order) → AllFixed o → Sole o
sole_fixed o f n m p q a b = refused_unique o f a b

none_below : (so : ℕ → Type 0) → ((p : ℕ) → First so p → ⊥) → (n k : ℕ) → k < n → so k → ⊥
none_below so f zero k h s = omega arith
none_below so f (suc n) k h s = f k (record { given = s; before = λ i l t. none_below so f n i (omega arith) t })

pub none_first : (so : ℕ → Type 0) → ((p : ℕ) → First so p → ⊥) → (k : ℕ) → so k → ⊥
none_first so f k s = none_below so f (suc k) k (omega arith) s

-- an outcome that is this refusal
abbrev pub Is : Outcome → ℕ → ℕ → Type 0
Is r number p = r ≡ Err (refusal number p)
