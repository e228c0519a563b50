-- `code_of` meets its contract.
use native.Mathlib.Omega.{arith}
use mathlib.Core.Path.{refl}
use mathlib.Core.List.{List, [], ◌∷◌}
use Prim.Native.Nat.{ℕ}
use Rattle.alf.specs.States.{among}
use Rattle.basics.specs.Text.{bytes}
use Rattle.basics.proofs.ByteMatches.{ranged, keyed}
use Rattle.state_letters.specs.Letters.{state_of}
use Rattle.state_letters.proofs.code_of.Goals as goal

abbrev single : List (List ℕ)
single =
    (48 ∷ []) ∷
    (49 ∷ []) ∷
    (88 ∷ 120 ∷ []) ∷
    (72 ∷ 104 ∷ []) ∷
    (76 ∷ 108 ∷ []) ∷
    (87 ∷ 119 ∷ []) ∷
    (90 ∷ 122 ∷ []) ∷
    (85 ∷ 117 ∷ []) ∷
    []

pub returns-in-48 : goal.returns-in-48
unfolding state_of among bytes
returns-in-48 c = keyed state_of 0 (48 ∷ []) _ refl c.in-48.is

pub returns-in-49 : goal.returns-in-49
unfolding state_of among bytes
returns-in-49 c = keyed state_of 1 (49 ∷ []) _ refl c.in-49.is

pub returns-in-88 : goal.returns-in-88
unfolding state_of among bytes
returns-in-88 c = keyed state_of 2 (88 ∷ 120 ∷ []) _ refl c.in-88.is

pub returns-in-72 : goal.returns-in-72
unfolding state_of among bytes
returns-in-72 c = keyed state_of 3 (72 ∷ 104 ∷ []) _ refl c.in-72.is

pub returns-in-76 : goal.returns-in-76
unfolding state_of among bytes
returns-in-76 c = keyed state_of 4 (76 ∷ 108 ∷ []) _ refl c.in-76.is

pub returns-in-87 : goal.returns-in-87
unfolding state_of among bytes
returns-in-87 c = keyed state_of 5 (87 ∷ 119 ∷ []) _ refl c.in-87.is

pub returns-in-90 : goal.returns-in-90
unfolding state_of among bytes
returns-in-90 c = keyed state_of 6 (90 ∷ 122 ∷ []) _ refl c.in-90.is

pub returns-in-85 : goal.returns-in-85
unfolding state_of among bytes
returns-in-85 c = keyed state_of 7 (85 ∷ 117 ∷ []) _ refl c.in-85.is

pub returns-in_default : goal.returns-in_default
unfolding state_of among bytes
returns-in_default c =
    ranged state_of 8 0 256 single refl _ c.in_default.in_default-own.rest (omega arith) (omega arith)
