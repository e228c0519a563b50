-- The letters of the states, 0 1 X H L W Z U, in either case, and their codes.
--   state_of    the code of a letter's state
use Rattle.std.specs.Prelude.{ℕ, if◌then◌else◌}
use Rattle.alf.specs.States.{among, X, H, L, W, Z, U}
use Rattle.basics.specs.Text.{bytes}

-- the code of a letter's state; 8 where the byte is no state's letter
unfoldable pub state_of : ℕ → ℕ
state_of b =
    if among b (bytes "0") then 0
    else if among b (bytes "1") then 1
    else if among b (bytes "Xx") then X
    else if among b (bytes "Hh") then H
    else if among b (bytes "Ll") then L
    else if among b (bytes "Ww") then W
    else if among b (bytes "Zz") then Z
    else if among b (bytes "Uu") then U
    else 8
