-- On table T, computed from the expression on, byte for byte: the first alternative in order that answers yes tells
-- where the match of row 2 began, and not the longest.
--   fall_first      `10 B | 01 A -> 10 B`: at time 10
--   pulse_first     `01 A -> 10 B | 10 B`: at time 0
use mathlib.Core.Path.{◌≡◌, refl}
use Rattle.basics.specs.Words.{greatest, least_of, count, listed}
use Rattle.basics.specs.Text.{bytes, joined}
use Rattle.alf.specs.declared.Rules.{Rules}
use Rattle.alf.specs.TableT as T
use Rattle.alf.specs.States.{reduce}
use Rattle.alf.specs.Expressions.{edge, join, or_else}
use Rattle.alf.specs.Values.{value, recorded_or, state}
use Rattle.alf.specs.Windows as windows
use Rattle.alf.specs.Windows.{asked, digit_asked, letter_asked, edge_on, followed_by, either, certainty, answer, best}
use Rattle.alf.specs.Windows.{numbered, row_answer}
use Rattle.alf.specs.Alternatives.{each, rewritten, alternatives, test_at, step_at, steps_from, at_row}
use Rattle.alf.specs.Beginnings.{began_in, began}
use Rattle.figures.specs.Numbers.{digits, width_up_to, width, decimal}
use Rattle.listing.specs.Listing.{word, last_line}
use Rattle.began_lines.specs.BeganListing.{began_word, began_line, began_lines, began_listing}
use Rattle.began_listings.specs.BeganTexts.{pattern_began}

pub fall_first : (ρ : Rules) →
    pattern_began ρ T.names T.times T.states (join or_else (edge T.fall T.B) T.pulse)
    ≡ bytes
    "time answer began\n0 none -\n10 no -\n20 yes 10\n35 no -\n40 no -\n55 unknown -\nyes 1 no 3 unknown 1\n"
unfolding
    pattern_began began_listing began_lines began_line began_word word last_line bytes joined decimal width width_up_to digits
    count listed T.times T.states greatest least_of reduce value recorded_or state asked digit_asked letter_asked edge_on
    windows.joined followed_by either certainty answer best numbered row_answer each rewritten alternatives test_at step_at
    steps_from at_row began_in began
fall_first ρ = refl

pub pulse_first : (ρ : Rules) →
    pattern_began ρ T.names T.times T.states (join or_else T.pulse (edge T.fall T.B))
    ≡ bytes
    "time answer began\n0 none -\n10 no -\n20 yes 0\n35 no -\n40 no -\n55 unknown -\nyes 1 no 3 unknown 1\n"
unfolding
    pattern_began began_listing began_lines began_line began_word word last_line bytes joined decimal width width_up_to digits
    count listed T.times T.states greatest least_of reduce value recorded_or state asked digit_asked letter_asked edge_on
    windows.joined followed_by either certainty answer best numbered row_answer each rewritten alternatives test_at step_at
    steps_from at_row began_in began
pulse_first ρ = refl
