-- What the call comes to that says whether alternatives handed in are accepted, case by case, and that it is one thing.
--   fits_18, fits_10, fits_counted    its three returns
--   listed_fits_unique                any two results that the contract allows coincide
use Rattle.std.specs.Prelude.{Err, Ok}
use Prim.Native.Nat.{ℕ}
use mathlib.Core.Path.{◌≡◌, refl, sym, ◌∙◌}
use mathlib.Core.Logic.{inl, inr}
use mathlib.Core.List.{List}
use lib.ListN.{length}
use Rattle.basics.specs.Refusing.{refusal}
use Rattle.basics.specs.Refusing.{Outcome}
use Rattle.alf.specs.Refusals.{NameCount, RefusedWith, Passed, Comes}
use Rattle.alf.proofs.Outcomes.{at_fixed, comes_unique}
use Rattle.listed_acceptance.specs.Lists.{AcceptedAlternatives}
use Rattle.listed_acceptance.specs.Fitting.{fits_order, ListedFits}

module _ {names : ℕ} {tree steps tests edges operands : List ℕ} where
  pub fits_18 : {r : Outcome} → (NameCount names → ⊥) → r ≡ Err (refusal 18 0)
      → ListedFits names tree steps tests edges operands r
  unfolding Comes RefusedWith
  fits_18 h e = rw e (record { comes = record { by = inl (refl, record { given = h; there = refl }); bare = refl } })

  pub fits_10 : {r : Outcome} → NameCount names → (AcceptedAlternatives names tree steps tests edges operands → ⊥)
      → r ≡ Err (refusal 10 0)
      → ListedFits names tree steps tests edges operands r
  unfolding Comes RefusedWith
  fits_10 n h e =
      rw e
      (record {
        comes = record { by = inr (λ p a. a.given n, inl (refl, record { given = h; there = refl })); bare = refl };
      })

  pub fits_counted : NameCount names → AcceptedAlternatives names tree steps tests edges operands
      → ListedFits names tree steps tests edges operands (Ok (length steps))
  unfolding Comes Passed
  fits_counted n h = record { comes = ((λ p a. a.given n, (λ p a. a.given h, tt)), refl) }

  pub listed_fits_unique : {r s : Outcome} → ListedFits names tree steps tests edges operands r
      → ListedFits names tree steps tests edges operands s
      → r ≡ s
  listed_fits_unique {r} {s} x y =
      comes_unique (fits_order names tree steps tests edges operands) _ (at_fixed _ _, (at_fixed _ _, tt))
      (λ j k p q. p ∙ sym q) r s x.comes y.comes
