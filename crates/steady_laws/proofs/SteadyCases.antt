-- Document 02, [2], on table T, computed: cases 1 to 12 as they are read under any rules.
--   cases_plain, cases_steady    with steady pins off, and on; whatever the choice of equal branches is
--   cases_under_lem                  under any rules
use mathlib.Core.Path.{◌≡◌, refl}
use mathlib.Core.Bool.{Bool, true, false}
use mathlib.Core.List.{map}
use Rattle.basics.specs.Words.{greatest, least, listed, greatest_of, least_of, all, same}
use Rattle.alf.specs.declared.Rules.{Rules}
use Rattle.alf.specs.States.{reduce, rank, ranked, not_of_lem, and_of, or_of, xor_of, xnor_of, table, among, matches}
use Rattle.alf.specs.States.{in_cells, in_lines, relations, at_least, at_most}
use Rattle.alf.specs.Values.{operate, unresolved, chosen, value, recorded_or, state}
use Rattle.alf.specs.Windows.{asked, digit_asked, letter_asked, edge_on, followed_by, either, together, certainty}
use Rattle.alf.specs.Windows.{held, joined, answer, best, numbered, row_answer}
use Rattle.alf.specs.Alternatives.{each, padded, zipped, overlaid, conditioned, rewritten, alternatives, steps_of}
use Rattle.alf.specs.Alternatives.{is_name}
use Rattle.alf.specs.Traces.{corrected, last_rewritten}
use Rattle.alf.specs.TableT.{states, cases, holds, all_hold}
use Rattle.alf.specs.Steady.{is_then, is_with, is_step_lem, is_changing, moves, has_edge_on, some_of, operands, row, run}
use Rattle.alf.specs.Steady.{is_steady, kept, steadied, filled_in, meant}
use Rattle.steady_laws.specs.SteadyT.{rules_of, read_as, steady_cases, cases_under}

pub cases_plain : (e : Bool) → all_hold (rules_of e false) (map (read_as (rules_of e false)) cases) ≡ true
unfolding
    greatest least listed greatest_of least_of reduce rank ranked not_of_lem and_of or_of xor_of xnor_of table among matches
    in_cells in_lines relations at_least at_most operate unresolved chosen value recorded_or state asked digit_asked
    letter_asked edge_on followed_by either together certainty held joined answer best numbered row_answer each padded
    zipped overlaid conditioned rewritten alternatives steps_of corrected last_rewritten states cases same holds all_hold
    meant read_as
cases_plain e = refl

-- By cases of the choice: with a variable among them, computing the filled expressions takes too many steps.
pub cases_steady : (e : Bool) → all_hold (rules_of e true) (map (read_as (rules_of e true)) steady_cases) ≡ true
unfolding
    greatest least listed greatest_of least_of reduce rank ranked not_of_lem and_of or_of xor_of xnor_of table among matches
    in_cells in_lines relations at_least at_most operate unresolved chosen value recorded_or state asked digit_asked
    letter_asked edge_on followed_by either together certainty held joined answer best numbered row_answer each padded
    zipped overlaid conditioned rewritten alternatives steps_of corrected last_rewritten states cases same holds all_hold
    is_then is_with is_step_lem is_changing moves has_edge_on some_of operands row run is_steady kept steadied filled_in meant all
    is_name read_as steady_cases
cases_steady true = refl
cases_steady false = refl

pub cases_under_lem : (ρ : Rules) → all_hold ρ (map (read_as ρ) (cases_under ρ)) ≡ true
cases_under_lem ρ = go ρ.equal_branches ρ.steady_pins
  where
    go : (e s : Bool) → all_hold (rules_of e s) (map (read_as (rules_of e s)) (cases_under (rules_of e s))) ≡ true
    go e true = unfold cases_under in cases_steady e
    go e false = unfold cases_under in cases_plain e
