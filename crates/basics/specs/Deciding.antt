-- What it means that a test is exact.
--   Decides      the test says exactly whether something is so
use Rattle.std.specs.Prelude.{Bool, true, false}

unfoldable pub Decides : Bool → Type 0 → Type 0
Decides true so = so
Decides false so = so → ⊥
