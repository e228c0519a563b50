-- Case 1 on table T (`01 A`), computed from the expression on, byte for byte: its listing as document 01 prints it, and
-- its line of the table.
use mathlib.Core.Path.{◌≡◌, refl}
use Rattle.alf.specs.declared.Rules.{Rules}
use Rattle.alf.specs.TableT as T
use Rattle.basics.specs.Words.{greatest, count, listed}
use Rattle.alf.specs.States.{reduce}
use Rattle.alf.specs.Expressions.{edge}
use Rattle.alf.specs.Values.{value, recorded_or, state}
use Rattle.alf.specs.Windows.{asked, digit_asked, letter_asked, edge_on, certainty, answer, best, numbered, row_answer}
use Rattle.alf.specs.Traces.{total}
use Rattle.basics.specs.Text.{bytes, joined}
use Rattle.figures.specs.Numbers.{digits, width_up_to, width, decimal}
use Rattle.figures.specs.Share.{millionths, with_point, share}
use Rattle.listing.specs.Listing.{word, word_of, line, lines, how_many, last_line, listing}
use Rattle.table_lines.specs.Table.{plain, ended, columns, pattern_line}
use Rattle.tree_listings.specs.TreeTexts.{pattern_listing, totals_line}

pub case_1 : (ρ : Rules) →
    pattern_listing ρ T.names T.times T.states (edge T.rise T.A)
    ≡ bytes "time answer\n0 none\n10 yes\n20 no\n35 no\n40 unknown\n55 no\nyes 1 no 3 unknown 1\n"
unfolding
    pattern_listing listing lines line word_of word how_many last_line bytes joined decimal width width_up_to digits count
    T.times T.states greatest listed reduce value recorded_or state asked digit_asked letter_asked edge_on certainty answer
    best numbered row_answer
case_1 ρ = refl

pub case_1_line : (ρ : Rules) →
    totals_line ρ T.names T.rows T.states (bytes "01 A") (edge T.rise T.A) ≡ bytes "1\t0.200000\t1\t3\t01 A\n"
unfolding
    totals_line pattern_line columns ended plain share with_point millionths bytes joined decimal width width_up_to digits
    total count T.states greatest reduce value recorded_or state asked digit_asked letter_asked edge_on certainty answer
    best numbered row_answer
case_1_line ρ = refl
