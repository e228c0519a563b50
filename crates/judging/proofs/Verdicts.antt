-- Verdicts: what a verdict by two tests says of what they decide, and what a call makes of a verdict.
--   judged_as                  by what the tests decide, instead of the tests
--   lists_as                   by lists that are good in the same cases
--   judged_good, judged_not    a good verdict: nothing is refused, and the facts; a refusal is handed on
--   judged_stop, judged_go     two verdicts, one after the other: their orders are appended
--   judged_facts               the facts told in other words
use Rattle.std.specs.Prelude.{Err, Ok}
use mathlib.Core.Path.{◌≡◌, refl}
use mathlib.Core.Bool.{Bool, true}
use mathlib.Core.List.{◌++◌}
use mathlib.Core.Logic.{inl, inr}
use Prim.Native.Nat.{ℕ}
use Rattle.basics.specs.declared.Refusal.{Refusal}
use Rattle.alf.specs.Refusals.{At, Order, RefusedWith, RefusedBy, Passed}
use Rattle.basics.specs.Deciding.{Decides}
use Rattle.alf.proofs.Orders.{by_first, by_then, passed_both}
use Rattle.judging.specs.Orders.{Verdict}
use Rattle.judging.specs.Orders.{order, Judged, passes, refuses, Judges}
use Rattle.basics.proofs.Stable.{true_stable}
use Rattle.basics.proofs.Deciding.{told, tells}

passed : {o : Order} {facts : Type 0} → Judged o facts (Ok tt) → Passed o × facts
passed (passes p f) = (p, f)

refused : {o : Order} {facts : Type 0} {r : Refusal} → Judged o facts (Err r)
    → RefusedBy o r
refused (refuses h) = h

module _ {o : Order} {facts : Type 0} {v : Verdict} (j : Judged o facts v) where
  pub judged_good : v ≡ (Ok tt) → Passed o × facts
  judged_good e = passed (rw e at j)

  pub judged_not : {r : Refusal} → v ≡ Err r → RefusedBy o r
  judged_not e = refused (rw e at j)

-- tests of P and Q
module _ (fits good : Bool) (P Q : Type 0) (p : Decides fits P) (q : P → Decides good Q) where
  fit : ((k : ℕ) → At 0 (fits ≡ true → ⊥) k → ⊥) → P
  fit n = told fits p (true_stable fits (λ h. n 0 (record { given = h; there = refl })))

  well : P → ((k : ℕ) → At 0 (good ≡ true → ⊥) k → ⊥) → Q
  well x n = told good (q x) (true_stable good (λ h. n 0 (record { given = h; there = refl })))

  refused_as : (rest : Order) (n k : ℕ) → RefusedWith (order (fits ≡ true) (good ≡ true) rest) n k
      → RefusedWith (order P Q rest) n k
  unfolding RefusedWith
  refused_as rest i j (inl (e, a)) = inl (e, record { given = λ x. a.given (tells fits p x); there = a.there })
  refused_as rest i j (inr (n, inl (e, a))) =
      let x = fit n in
      inr (λ k c. c.given x, inl (e, record { given = λ y. a.given (tells good (q x) y); there = a.there }))
  refused_as rest i j (inr (n, inr (m, s))) =
      let x = fit n in
      let y = well x m in
      inr (λ k c. c.given x, inr (λ k c. c.given y, s))

  pub judged_as : (rest : Order) {F : Type 0} {v : Verdict} → Judges fits good rest F v
      → Judged (order P Q rest) (P × Q × F) v
  unfolding Passed
  judged_as rest (passes (a, (b, rests)) (f, g, facts)) =
      let x = told fits p f in
      let y = told good (q x) g in
      passes (λ k c. c.given x, (λ k c. c.given y, rests)) (x, y, facts)
  judged_as rest (refuses h) = refuses (record { by = refused_as rest _ _ h.by; bare = h.bare })

-- lists that are good in the same cases
module _ {P P' : Type 0} (f : P → P') (g : P' → P) where
  lists_refused : (Q : Type 0) (rest : Order) (n k : ℕ) → RefusedWith (order P Q rest) n k
      → RefusedWith (order P' Q rest) n k
  unfolding RefusedWith
  lists_refused Q rest i j (inl (e, a)) = inl (e, record { given = λ x. a.given (g x); there = a.there })
  lists_refused Q rest i j (inr (n, h)) =
      inr (λ k c. n k (record { given = λ x. c.given (f x); there = c.there }), h)

  pub lists_as : {Q F : Type 0} {rest : Order} {v : Verdict} → Judged (order P Q rest) (P × Q × F) v
      → Judged (order P' Q rest) (P' × Q × F) v
  unfolding Passed
  lists_as (passes (n, h) (x, y, z)) =
      passes (λ k c. n k (record { given = λ x. c.given (f x); there = c.there }), h) (f x, y, z)
  lists_as (refuses h) = refuses (record { by = lists_refused _ _ _ _ h.by; bare = h.bare })

-- two verdicts, one after the other: their orders are appended. The first refusal is handed on; behind a good verdict
-- comes the next.
pub judged_stop : {o : Order} (o' : Order) {F G : Type 0} {v : Verdict} {r : Refusal} → Judged o F v → v ≡ Err r
    → Judged (o ++ o') (F × G) (Err r)
judged_stop {o} o' j e = refuses (by_first o o' (judged_not j e))

next : (o : Order) {o' : Order} {F G : Type 0} {w : Verdict} → Passed o × F → Judged o' G w → Judged (o ++ o') (F × G) w
next o {o'} (p, f) (passes q g) = passes (passed_both o o' p q) (f, g)
next o {o'} (p, f) (refuses h) = refuses (by_then o o' p h)

pub judged_go : {o o' : Order} {F G : Type 0} {v w : Verdict} → Judged o F v → v ≡ (Ok tt) → Judged o' G w
    → Judged (o ++ o') (F × G) w
judged_go {o} j e k = next o (judged_good j e) k

-- the facts told in other words
pub judged_facts : {o : Order} {F G : Type 0} {v : Verdict} → (F → G) → Judged o F v → Judged o G v
judged_facts f (passes p x) = passes p (f x)
judged_facts f (refuses h) = refuses h
