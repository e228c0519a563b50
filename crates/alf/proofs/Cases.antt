-- Table T: cases 1 to 12 as a single statement over the table of them, computed.
-- Main name: cases_hold.
use mathlib.Core.Path.{◌≡◌, refl}
use mathlib.Core.Bool.{true}
use Rattle.basics.specs.Words.{greatest, least, listed, greatest_of, least_of, same}
use Rattle.alf.specs.declared.Rules.{Rules}
use Rattle.alf.specs.States.{reduce, rank, ranked, not_of_lem, and_of, or_of, xor_of, xnor_of, table, among, matches}
use Rattle.alf.specs.States.{in_cells, in_lines, relations, at_least, at_most}
use Rattle.alf.specs.Values.{operate, unresolved, chosen, value, recorded_or, state}
use Rattle.alf.specs.Windows.{asked, digit_asked, letter_asked, edge_on, followed_by, either, together, certainty}
use Rattle.alf.specs.Windows.{held, joined}
use Rattle.alf.specs.Windows.{answer, best, numbered, row_answer}
use Rattle.alf.specs.Alternatives.{each, padded, zipped, overlaid, conditioned, rewritten}
use Rattle.alf.specs.Alternatives.{alternatives, steps_of}
use Rattle.alf.specs.Traces.{corrected, last_rewritten}
use Rattle.alf.specs.TableT.{states, cases, holds, all_hold}

pub cases_hold : (ρ : Rules) → all_hold ρ cases ≡ true
unfolding
    greatest least listed greatest_of least_of reduce rank ranked not_of_lem and_of or_of xor_of xnor_of table among matches
    in_cells in_lines relations at_least at_most operate unresolved chosen value recorded_or state asked digit_asked
    letter_asked edge_on followed_by either together certainty held joined answer best numbered row_answer each padded
    zipped overlaid conditioned rewritten alternatives steps_of corrected last_rewritten states cases same holds all_hold
cases_hold ρ = refl
