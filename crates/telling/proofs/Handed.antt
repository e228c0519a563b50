-- What a function that hands on has: the call's promise and what it tells of it. Main name: handed.
use mathlib.Core.Path.{◌≡◌}
use Rattle.telling.specs.Handing.{Hands}

pub handed : {A B : Type 0} {allowed : A → Type 0} {tell : A → B} {r : B} (a : A) → allowed a → r ≡ tell a
    → Hands allowed tell r
handed a p e = record { result = a; is_allowed = p; is_told = e }
