-- What two results that are handed on have in common is what the call's contract says of both.
--   from_both      whatever two allowed results give
--   hands_unique   where they coincide, C is told one thing
--
use mathlib.Core.Path.{◌≡◌, ap, sym, ◌∙◌}
use Rattle.telling.specs.Handing.{Hands}

module _ {A B : Type 0} {p q : A → Type 0} {tell : A → B} {r s : B} where
  pub from_both : {X : Type 0} → ((a b : A) → p a → q b → X) → Hands p tell r → Hands q tell s → X
  from_both f x y = f x.result y.result x.is_allowed y.is_allowed

  pub hands_unique : ((a b : A) → p a → q b → a ≡ b) → Hands p tell r → Hands q tell s → r ≡ s
  hands_unique u x y =
      x.is_told ∙ ap tell (u x.result y.result x.is_allowed y.is_allowed) ∙ sym y.is_told
