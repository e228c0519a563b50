-- The bytes of names. Main name: starts_goes_on, a byte that starts a name may stand further on in it too.
use Prim.Native.Nat.{ℕ}
use mathlib.Core.Path.{◌≡◌}
use mathlib.Core.Bool.{true}
use Rattle.alf.specs.Names.{starts_name, goes_on_name}

pub starts_goes_on : (b : ℕ) → starts_name b ≡ true → goes_on_name b ≡ true
unfolding goes_on_name
starts_goes_on b h = rw h
