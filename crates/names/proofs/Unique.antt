-- The outcome of the check of a list of names is unique. Main name: names_unique.
use mathlib.Core.Path.{◌≡◌, sym, ◌∙◌}
use mathlib.Core.List.{List}
use Prim.Native.Nat.{ℕ, ◌/◌}
use lib.ListN.{length}
use Rattle.basics.specs.Refusing.{Outcome}
use Rattle.alf.specs.Refusals.{Comes}
use Rattle.alf.proofs.Outcomes.{AllFixed, at_fixed, first_fixed, comes_unique}
use Rattle.names.specs.Check.{names_order}

pub names_fixed : (names : List ℕ) → AllFixed (names_order names)
names_fixed names = (at_fixed _ _, (first_fixed _, tt))

pub names_unique :
    (names : List ℕ) (a b : Outcome) →
    Comes (names_order names) (λ k. k ≡ length names / 32) a →
    Comes (names_order names) (λ k. k ≡ length names / 32) b →
    a ≡ b
names_unique names = comes_unique (names_order names) _ (names_fixed names) (λ j k x y. x ∙ sym y)
