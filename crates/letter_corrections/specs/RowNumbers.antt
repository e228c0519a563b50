-- The row number that a person writes: decimal digits, of which the number is at most 65,535; else 65,536, which is no
-- row's. `reading 0 ds` is the number that the digits ds are, read from the left: each is added
-- to ten times what stands before it. gone_on is one step of it, and stays at 65,536.
--   row_number    the number
--   gone_on       one digit more
use Rattle.std.specs.Prelude.{ℕ, ◌+◌, ◌-◌, ◌*◌, min, List, [], ◌∷◌, if◌then◌else◌}
use Rattle.basics.specs.Words.{all}
use Rattle.alf.specs.Names.{is_decimal}
use Rattle.figures.specs.Numbers.{reading}

-- 65,536 where there is no byte, where one is no digit, and where the number is larger
unfoldable pub row_number : List ℕ → ℕ
row_number [] = 65536
row_number (b ∷ bs) = if all is_decimal (b ∷ bs) then min (reading 0 (b ∷ bs)) 65536 else 65536

-- a number and one byte more
unfoldable pub gone_on : ℕ → ℕ → ℕ
gone_on n b = if is_decimal b then min (n * 10 + (b - 48)) 65536 else 65536
