-- The outcome of a call is unique: any two outcomes that `Comes` allows coincide, whatever the call's order of checks,
-- where each of its rows fixes its place.
--   at_fixed, first_fixed, first_of_fixed   the three kinds of rows fix their places
--   refused_unique    one number and one place
--   refused_passed    nothing is refused and passed
--   refused_by_unique   one refusal
--   refused_among     its number is one of the order's
--   comes_unique      one outcome
use Rattle.std.specs.Prelude.{Err, Ok}
use mathlib.Core.Path.{◌≡◌, refl, sym, ap, ◌∙◌}
use mathlib.Core.List.{[], ◌∷◌}
use mathlib.Core.Bool.{true}
use lib.Dec.{eqb}
use borrow.Author.Tests.{eq-eqb}
use mathlib.Core.Logic.{◌⊎◌, inl, inr}
use Prim.Native.Nat.{ℕ, ◌<◌, ◌≤◌}
use native.Mathlib.Omega.{arith}
use Rattle.basics.specs.Refusing.{Outcome}
use Rattle.basics.specs.declared.Refusal.{Refusal}
use Rattle.alf.specs.States.{among}
use Rattle.alf.specs.Refusals.{Row, At, First, FirstOf, Order, numbers_of, RefusedWith, RefusedBy, Passed}
use Rattle.alf.specs.Refusals.{Comes}
use Rattle.basics.proofs.Refusals.{refusal_same}
use Rattle.basics.proofs.Bools.{below?, or_yes}

-- a row holds at one place at most
abbrev pub Fixed : Row → Type 0
Fixed row = (p q : ℕ) → row p → row q → p ≡ q

abbrev pub AllFixed : Order → Type 0
AllFixed [] = Unit {0}
AllFixed (c ∷ cs) = Fixed c.row × AllFixed cs

pub at_fixed : (place : ℕ) (so : Type 0) → Fixed (At place so)
at_fixed place so p q a b = a.there ∙ sym b.there

pub first_fixed : (so : ℕ → Type 0) → Fixed (First so)
first_fixed so p q a b = go (below? p q) (below? q p)
  where
    go : (p < q) ⊎ (q ≤ p) → (q < p) ⊎ (p ≤ q) → p ≡ q
    go (inl l) m = absurd (b.before p l a.given)
    go (inr l) (inl m) = absurd (a.before q m b.given)
    go (inr l) (inr m) = omega arith

pub first_of_fixed : (so : ℕ → Type 0) (place : ℕ → ℕ) → Fixed (FirstOf so place)
first_of_fixed so place p q a b =
    a.there ∙ ap place (first_fixed so a.which b.which a.first b.first) ∙ sym b.there

pub refused_passed : (o : Order) (n p : ℕ) → Passed o → RefusedWith o n p → ⊥
unfolding Passed RefusedWith
refused_passed [] n p a r = r
refused_passed (c ∷ cs) n p a (inl r) = a.0 p r.1
refused_passed (c ∷ cs) n p a (inr r) = refused_passed cs n p a.1 r.1

pub refused_unique :
    (o : Order) → AllFixed o → {n m p q : ℕ} → RefusedWith o n p → RefusedWith o m q →
    (n ≡ m) × (p ≡ q)
unfolding RefusedWith
refused_unique [] f r s = absurd r
refused_unique (c ∷ cs) f {n} {m} {p} {q} (inl r) (inl s) = (r.0 ∙ sym s.0, f.0 p q r.1 s.1)
refused_unique (c ∷ cs) f {n} {m} {p} {q} (inl r) (inr s) = absurd (s.0 p r.1)
refused_unique (c ∷ cs) f {n} {m} {p} {q} (inr r) (inl s) = absurd (r.0 q s.1)
refused_unique (c ∷ cs) f (inr r) (inr s) = refused_unique cs f.1 r.1 s.1

pub refused_by_unique : (o : Order) → AllFixed o → {r s : Refusal} → RefusedBy o r → RefusedBy o s → r ≡ s
refused_by_unique o f x y = refusal_same (refused_unique o f x.by y.by) (x.bare ∙ sym y.bare)

-- the number of a refusal is one of its order's
pub refused_among : (o : Order) (n p : ℕ) → RefusedWith o n p → among n (numbers_of o) ≡ true
unfolding RefusedWith numbers_of among
refused_among [] n p h = absurd h
refused_among (c ∷ cs) n p (inl h) = rw (eq-eqb n c.number h.0) refl
refused_among (c ∷ cs) n p (inr h) = rw (refused_among cs n p h.1) (or_yes (eqb n c.number))

pub comes_unique :
    (o : Order) (made : ℕ → Type 0) →
    AllFixed o →
    ((j k : ℕ) → made j → made k → j ≡ k) →
    (a b : Outcome) →
    Comes o made a →
    Comes o made b →
    a ≡ b
unfolding Comes
comes_unique o made f one (Ok j) (Ok k) x y = ap Ok (one j k x.1 y.1)
comes_unique o made f one (Ok j) (Err s) x y = absurd (refused_passed o _ _ x.0 y.by)
comes_unique o made f one (Err r) (Ok k) x y = absurd (refused_passed o _ _ y.0 x.by)
comes_unique o made f one (Err r) (Err s) x y =
    ap Err (refused_by_unique o f x y)
