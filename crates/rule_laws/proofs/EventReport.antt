-- 000's event report under any rules, computed: the times that 000 states.
--   times_10a, times_11b     258; 573 and 915
use mathlib.Core.Path.{◌≡◌, refl}
use mathlib.Core.Bool.{Bool, true, false}
use mathlib.Core.List.{List, [], ◌∷◌}
use Rattle.basics.specs.Words.{greatest, least, listed, all}
use Rattle.alf.specs.declared.Rules.{Rules}
use Rattle.alf.specs.States.{reduce}
use Rattle.alf.specs.Values.{value, recorded_or, state}
use Rattle.alf.specs.Windows.{asked, digit_asked, letter_asked, edge_on, followed_by, either, together, certainty}
use Rattle.alf.specs.Windows.{held, joined, answer, best, numbered, row_answer}
use Rattle.alf.specs.Alternatives.{is_name}
use Rattle.alf.specs.Steady.{is_then, is_with, is_step_lem, is_changing, moves, has_edge_on, some_of, operands, row, run}
use Rattle.alf.specs.Steady.{is_steady, kept, steadied, filled_in, meant}
use Rattle.rule_laws.specs.EventReport.{rows, times_there, sequence_10a, sequence_11b, yes_times, times_of}

abbrev rules_with : Bool → Bool → Rules
rules_with e s = record { equal_branches = e; steady_pins = s }

-- both, for the two choices
abbrev Stated : Bool → Bool → Type 0
Stated e s =
    (times_of (rules_with e s) sequence_10a ≡ 258 ∷ [])
    × (times_of (rules_with e s) sequence_11b ≡ 573 ∷ 915 ∷ [])

stated : (e s : Bool) → Stated e s
unfolding
    greatest least listed reduce value recorded_or state asked digit_asked letter_asked edge_on followed_by either together
    certainty held joined answer best numbered row_answer is_then is_with is_step_lem is_changing moves has_edge_on some_of operands
    row run is_steady kept steadied filled_in meant all is_name rows times_there sequence_10a sequence_11b yes_times
stated true true = (refl, refl)
stated true false = (refl, refl)
stated false true = (refl, refl)
stated false false = (refl, refl)

pub times_10a : (ρ : Rules) → times_of ρ sequence_10a ≡ 258 ∷ []
times_10a ρ = (stated ρ.equal_branches ρ.steady_pins).0

pub times_11b : (ρ : Rules) → times_of ρ sequence_11b ≡ 573 ∷ 915 ∷ []
times_11b ρ = (stated ρ.equal_branches ρ.steady_pins).1
