-- A test in memory is the number of its edge and the end of its operand in the bytes of a tree. So the alternatives
-- that are written are those of document 01, of the same expression with each boolean operand named by the place where
-- it ends (`by_places name` of steady_pins/specs/Pinned).
--   place_of, edge_of, end_of, numbers, ends    the two numbers of a test, and of the tests of a step
use Rattle.std.specs.Prelude.{ℕ, List, map}
use Rattle.alf.specs.Expressions.{Boolean, name, literal, negated, binary, choice}
use Rattle.alf.specs.Bytes.{edge_number}
use Rattle.alf.specs.Alternatives.{Test, test, Step}

-- the two numbers of a test, and of the tests of a step
unfoldable pub place_of : Boolean → ℕ
place_of (name i) = i
place_of (literal s) = 0
place_of (negated a) = 0
place_of (binary o a b) = 0
place_of (choice c a b) = 0

unfoldable pub edge_of : Test → ℕ
edge_of (test e c) = edge_number e

unfoldable pub end_of : Test → ℕ
end_of (test e c) = place_of c

abbrev pub numbers : Step → List ℕ
numbers = map edge_of

abbrev pub ends : Step → List ℕ
ends = map end_of
