-- Any two results that the contract of a correction allows coincide: corrects_unique.
use mathlib.Core.Path.{◌≡◌, sym, ◌∙◌}
use mathlib.Core.List.{List}
use Prim.Native.Nat.{ℕ}
use Rattle.alf.specs.declared.Rules.{Rules}
use Rattle.alf.specs.Alternatives.{Alternative}
use Rattle.correction.specs.Corrections.{Corrects}

pub corrects_unique : {ρ : Rules} {names : ℕ} {xs : List Alternative} {n r : ℕ} {states answers new s a t b : List ℕ}
    → Corrects ρ names xs n r states answers new s a
    → Corrects ρ names xs n r states answers new t b → (s ≡ t) × (a ≡ b)
corrects_unique c k = (c.stored ∙ sym k.stored, c.rewritten ∙ sym k.rewritten)
