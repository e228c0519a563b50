-- A number as text: its decimal digits, the most significant first, and no more of them than it needs.
--   digits     so many of a number
--   width      how many it needs (width_up_to: counted up to a bound)
--   decimal    as many as it needs
--   reading    the number that digits are
-- That these digits are the number, if it is below 10^21, and that the first is no needless 0, is a law.
use Rattle.std.specs.Prelude.{ℕ, zero, suc, ◌+◌, ◌-◌, ◌*◌, ◌/◌, ◌%◌, List, [], ◌∷◌, ◌++◌, ltb, if◌then◌else◌}

-- the last k digits of a number; 48 is `0`
unfoldable pub digits : ℕ → ℕ → List ℕ
digits zero n = []
digits (suc k) n = digits k (n / 10) ++ ((48 + n % 10) ∷ [])

-- how many digits a number needs: one below ten, else one more than its tenth part. Every number here is below 2^64 and
-- needs no more than 20, so that is how far is counted.
unfoldable pub width_up_to : ℕ → ℕ → ℕ
width_up_to zero n = 1
width_up_to (suc k) n = if ltb n 10 then 1 else suc (width_up_to k (n / 10))

unfoldable pub width : ℕ → ℕ
width n = width_up_to 20 n

unfoldable pub decimal : ℕ → List ℕ
decimal n = digits (width n) n

-- the number that digits are, read from the left: each is added to ten times what stands before it
unfoldable pub reading : ℕ → List ℕ → ℕ
reading before [] = before
reading before (d ∷ ds) = reading (before * 10 + (d - 48)) ds
