-- What `blank` comes to, case by case, and that it is one thing.
--   lists_good, lists_bad              what the test of the lists says
--   blank_18, blank_15, blank_done     refused with 18, with 15; done
--   blank_unique                       any two results, and the memory at exit, coincide
use Rattle.std.specs.Prelude.{Err, Ok}
use Prim.Native.Nat.{ℕ}
use mathlib.Core.Path.{◌≡◌, refl, sym, ◌∙◌}
use mathlib.Core.Bool.{true}
use mathlib.Core.Logic.{inl, inr}
use mathlib.Core.List.{List}
use lib.Dec.{eqb}
use lib.ListN.{length}
use borrow.Author.Tests.{eq-eqb, eqb-true}
use Rattle.basics.specs.Refusing.{refusal}
use Rattle.basics.specs.declared.Refusal.{Refusal}
use Rattle.basics.specs.Refusing.{Outcome}
use Rattle.basics.specs.Memory.{after}
use Rattle.basics.proofs.Memory.{after_unique}
use Rattle.alf.specs.Refusals.{RefusedWith, Passed, Comes}
use Rattle.alf.proofs.Outcomes.{at_fixed, first_fixed, comes_unique}
use Rattle.states.specs.FirstBadCode.{Codes}
use Rattle.judging.specs.Orders.{Verdict}
use Rattle.judging.specs.Orders.{Rows, codes, Judged}
use Rattle.judging.proofs.Verdicts.{judged_good, judged_not}
use Rattle.blank_calls.specs.Blanking.{blank_order, Blanks, RowsAsked, BlanksRows}

-- lists that fit, with the length of the table as a test
module _ (k n states kept : ℕ) where
  pub lists_good : (eqb kept k ≡ true) × Rows k n states → (kept ≡ k) × Rows k n states
  lists_good (e, r) = (eqb-true kept k e, r)

  pub lists_bad : ((eqb kept k ≡ true) × Rows k n states → ⊥) → (kept ≡ k) × Rows k n states → ⊥
  lists_bad h (e, r) = h (eq-eqb kept k e, r)

module _ {k n : ℕ} {states kept : List ℕ} where
  pub blank_18 : {r : Outcome} → ((length kept ≡ k) × Rows k n (length states) → ⊥)
      → r ≡ Err (refusal 18 0) → Blanks k n states kept states r
  unfolding Comes RefusedWith after
  blank_18 h e =
      rw e
      (record { comes = record { by = inl (refl, record { given = h; there = refl }); bare = refl }; memory = refl })

  module _ (f : (length kept ≡ k) × Rows k n (length states)) where
    pub rows_asked : RowsAsked n states kept
    rows_asked = record { all = rw f.0 f.1.all }

    module _ {v : Verdict} (j : Judged (codes states) (Codes states) v) where
      pub blank_15 : {r : Refusal} → v ≡ Err r → Blanks k n states kept states (Err r)
      unfolding Comes RefusedWith after
      blank_15 e =
          let h = judged_not j e in
          record { comes = record { by = inr (λ p a. a.given f, h.by); bare = h.bare }; memory = refl }

      pub blank_done : {states' : List ℕ} → v ≡ (Ok tt) → BlanksRows n states kept states'
          → Blanks k n states kept states' (Ok n)
      unfolding Comes Passed after
      blank_done e b =
          record {
            comes = ((λ p a. a.given f, (judged_good j e).0), refl);
            memory = rw f.0 at b.is;
          }

pub blank_unique : {k n : ℕ} {states kept x y : List ℕ} {r s : Outcome} → Blanks k n states kept x r
    → Blanks k n states kept y s
    → (r ≡ s) × (x ≡ y)
blank_unique {k} {n} {states} {kept} {r = r} {s = s} a b =
    let e = comes_unique (blank_order k n states kept) (λ m. m ≡ n) (at_fixed _ _, (first_fixed _, tt))
    (λ i j g h. g ∙ sym h) r s a.comes b.comes in
    (e, after_unique _ states e a.memory b.memory)
