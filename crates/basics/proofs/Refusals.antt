-- A refusal is its number, its place and its extent.
--   refusal_same
use mathlib.Core.Path.{◌≡◌}
use Rattle.basics.specs.declared.Refusal.{Refusal}

pub refusal_same : {r s : Refusal} → (r.number ≡ s.number) × (r.place ≡ s.place) → r.extent ≡ s.extent
    → r ≡ s
refusal_same e f = λ i. record { number = e.0 i; place = e.1 i; extent = f i }
