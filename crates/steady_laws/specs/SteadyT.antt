-- Document 02, [2], on table T: cases 2 and 3 become others with steady pins on, and the other ten stay.
--   rules_of                      rules from their two choices
--   read_as                       the expression of a case, as it is read under some rules
--   steady_cases, cases_under      the cases with steady pins on; the cases under some rules
-- That a case holds is said in alf/specs/TableT.antt.
use Rattle.std.specs.Prelude.{Bool, List, [], ◌∷◌, ◌++◌, take, drop, if◌then◌else◌}
use Rattle.basics.specs.Text.{bytes}
use Rattle.alf.specs.declared.Rules.{Rules}
use Rattle.alf.specs.Expressions.{while, on_right}
use Rattle.alf.specs.TableT.{C, pulse, Case, answers, values, correction, cases}
use Rattle.alf.specs.Steady.{meant}

abbrev pub rules_of : Bool → Bool → Rules
rules_of equal steady = record { equal_branches = equal; steady_pins = steady }

unfoldable pub read_as : Rules → Case → Case
read_as ρ (answers text p ns) = answers text (meant ρ p) ns
read_as ρ (values text c vs) = values text c vs
read_as ρ (correction text p r new ns es) = correction text (meant ρ p) r new ns es

-- "Case 2 becomes 3 0 1 0 0 0 and case 3 becomes 3 0 2 0 0 0; the other ten stay"
unfoldable pub steady_cases : List Case
steady_cases =
    take 1 cases
    ++ (answers (bytes "01 A -> 10 B") pulse (3 ∷ 0 ∷ 1 ∷ 0 ∷ 0 ∷ 0 ∷ [])
    ∷ answers (bytes "( 01 A -> 10 B ) & C") (while on_right pulse C) (3 ∷ 0 ∷ 2 ∷ 0 ∷ 0 ∷ 0 ∷ [])
    ∷ drop 3 cases)

unfoldable pub cases_under : Rules → List Case
cases_under ρ = if ρ.steady_pins then steady_cases else cases
