-- Lent memory after a call follows from the outcome. Main name: after_unique.
use mathlib.Core.Path.{◌≡◌, sym, ap, ◌∙◌}
use mathlib.Core.List.{List}
use Prim.Native.Nat.{ℕ}
use Rattle.basics.specs.Refusing.{Outcome}
use Rattle.basics.specs.Memory.{after}

pub after_unique : (made before : List ℕ) {now now' : List ℕ} {a b : Outcome} → a ≡ b → now ≡ after made before a
    → now' ≡ after made before b → now ≡ now'
after_unique made before e x y = x ∙ ap (after made before) e ∙ sym y
