-- The places of a step's plain names over others, name by name.
--   over_here, over_none, over_twice        a place over another: a place; none; two, one over the other
--   own_length                              as many as there are
--   own_over                                each of them: the step's own, or else the other
--   own_listed                              all of them
use Prim.Native.Nat.{ℕ, ◌-◌, ◌<◌}
use native.Mathlib.Omega.{arith}
use native.Mathlib.Nat.{zero-add}
use mathlib.Core.Path.{◌≡◌, refl, ap, sym, ◌∙◌}
use mathlib.Core.List.{List}
use mathlib.Core.Logic.{◌⊎◌, inl, inr}
use lib.ListN.{length, get_or, set, replicate, length-set}
use lib.Seq.{get_or-set_same, get_or-set_other, ext_get_or}
use borrow.Author.Tests.{eq-eqb, ne_eqb}
use Rattle.basics.specs.Words.{listed}
use Rattle.basics.proofs.Bools.{equal?}
use Rattle.basics.proofs.Listed.{listed_at, listed_length}
use Rattle.alf.specs.Expressions.{Boolean, name, literal, negated, binary, choice}
use Rattle.alf.specs.Expressions.{Vector, edge, join, while}
use Rattle.steady_pins.specs.Finding.{named, own}
use Rattle.steady_pins.specs.Walking.{over}
use Rattle.steady_pins.proofs.Placed.{Placed, on_edge, on_join, behind, ahead}
use Rattle.steady_pins.proofs.BesideLike.{zeros}

pub over_here : (place other : ℕ) → (place ≡ 0 → ⊥) → over place other ≡ place
unfolding over
over_here place other d = rw (ne_eqb place 0 d) refl

pub over_none : (place other : ℕ) → place ≡ 0 → over place other ≡ other
unfolding over
over_none place other e = rw (eq-eqb place 0 e) refl

pub over_twice : (x y z : ℕ) → over x (over y z) ≡ over (over x y) z
over_twice x y z = go (equal? x 0)
  where
    go : (x ≡ 0) ⊎ (x ≡ 0 → ⊥) → over x (over y z) ≡ over (over x y) z
    go (inl e) = over_none x (over y z) e ∙ ap (λ (w : ℕ). over w z) (sym (over_none x y e))
    go (inr d) =
        over_here x (over y z) d ∙ sym (over_here x z d) ∙ ap (λ (w : ℕ). over w z) (sym (over_here x y d))

named_length : (place : ℕ) (c : Boolean) (l : List ℕ) → length (named place c l) ≡ length l
unfolding named
named_length place (name n) l = length-set l n place
named_length place (literal s) l = refl
named_length place (negated a) l = refl
named_length place (binary o a b) l = refl
named_length place (choice c a b) l = refl

pub own_length : (end : ℕ) (p : Vector) (l : List ℕ) → length (own end p l) ≡ length l
unfolding own
own_length end (edge e c) l = named_length (end - 1) c l
own_length end (join j p q) l = own_length _ p _ ∙ own_length (end - 1) q l
own_length end (while s p c) l = refl

module _ (n : ℕ) (u : n < 32) where
  -- nothing over a place
  bare : (l : List ℕ) → get_or l n 0 ≡ over (get_or (replicate 32 0) n 0) (get_or l n 0)
  bare l = sym (over_none _ (get_or l n 0) (zeros n 32))

  named_over : (place : ℕ) (c : Boolean) (l : List ℕ) → 0 < place → length l ≡ 32
      → get_or (named place c l) n 0 ≡ over (get_or (named place c (replicate 32 0)) n 0) (get_or l n 0)
  unfolding named
  named_over place (name k) l h w = go (equal? n k)
    where
      go : (n ≡ k) ⊎ (n ≡ k → ⊥)
          → get_or (set l k place) n 0 ≡ over (get_or (set (replicate 32 0) k place) n 0) (get_or l n 0)
      go (inl e) =
          rw (← e, get_or-set_same l n place 0 (omega arith), get_or-set_same (replicate 32 0) n place 0 u)
          (sym (over_here place (get_or l n 0) (λ d. omega arith)))
      go (inr d) =
          rw (get_or-set_other l k n place 0 d, get_or-set_other (replicate 32 0) k n place 0 d) (bare l)
  named_over place (literal s) l h w = bare l
  named_over place (negated a) l h w = bare l
  named_over place (binary o a b) l h w = bare l
  named_over place (choice c a b) l h w = bare l

  pub own_over : {end : ℕ} {p : Vector} → Placed (λ i c. 0 < i) end p → (l : List ℕ) → length l ≡ 32
      → get_or (own end p l) n 0 ≡ over (get_or (own end p (replicate 32 0)) n 0) (get_or l n 0)
  unfolding own
  own_over {end} (on_edge {c = c} r h) l w = named_over (end - 1) c l r w
  own_over {end} (on_join {p = p} {q = q} a b h) l w =
      own_over a (own (end - 1) q l) (own_length (end - 1) q l ∙ w)
      ∙ ap (over _) (own_over b l w)
      ∙ over_twice _ _ _
      ∙ ap (λ (x : ℕ). over x (get_or l n 0))
      (sym (own_over a (own (end - 1) q (replicate 32 0)) (own_length (end - 1) q (replicate 32 0))))
  own_over (behind a r h) l w = bare l
  own_over (ahead a r h) l w = bare l

pub own_listed : {end : ℕ} {p : Vector} → Placed (λ i c. 0 < i) end p → (l : List ℕ) → length l ≡ 32
    → listed 0 32 (λ n. over (get_or (own end p (replicate 32 0)) n 0) (get_or l n 0)) ≡ own end p l
own_listed {end} {p} h l w =
    ext_get_or 0 (listed 0 32 each) (own end p l) (listed_length 0 32 each ∙ sym w ∙ sym (own_length end p l))
    (λ n u. at n (omega (arith, listed_length 0 32 each)))
  where
    each : ℕ → ℕ
    each n = over (get_or (own end p (replicate 32 0)) n 0) (get_or l n 0)

    at : (n : ℕ) → n < 32 → get_or (listed 0 32 each) n 0 ≡ get_or (own end p l) n 0
    at n u = listed_at 0 32 n each 0 u ∙ ap each (zero-add n) ∙ sym (own_over n u h l w)
