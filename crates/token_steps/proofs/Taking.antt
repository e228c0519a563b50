-- One token step is right: `step_of` gives the token taken, or the place where none is.
-- Main name: right.
use mathlib.Core.Path.{◌≡◌, refl}
use mathlib.Core.Bool.{Bool, true, false}
use mathlib.Core.List.{List, ◌∷◌}
use Prim.Native.Nat.{ℕ}
use lib.Dec.{eqb}
use borrow.Author.Tests.{eqb-true}
use Rattle.alf.specs.Names.{starts_name}
use Rattle.token_steps.specs.Steps.{step_of}
use Rattle.token_steps.proofs.Right.{Right}
use Rattle.token_steps.proofs.RightName.{right_name}
use Rattle.token_steps.proofs.RightBased.{right_based}
use Rattle.token_steps.proofs.RightPlain.{right_plain}

pub right : (b : ℕ) (bs : List ℕ) → Right (b ∷ bs) (step_of (b ∷ bs))
unfolding step_of
right b bs = go (starts_name b) (eqb b 39) refl refl
  where
    go : (x y : Bool) → starts_name b ≡ x → eqb b 39 ≡ y → Right (b ∷ bs) (step_of (b ∷ bs))
    go true y h k = rw h (right_name b bs h)
    go false true h k = rw (h, k) (right_based (b ∷ bs) (eqb-true b 39 k))
    go false false h k = rw (h, k) (right_plain (b ∷ bs) h k)
