-- Document 01's "Readings that look right", each computed or refuted on its example.
--   not_dropped        dropping contradictory alternatives: `01 A & 10 A` on rows X, X is contradictory, and unknown
--   not_left_aligned   aligning `&` at the left: case 11 has an answer at row 2
--   not_last_row_only  testing a condition only at the last row: `( 01 A -> 10 B ) & A` is no at row 2
--   u_equals_u         `U == U` gives X, not 1
--   not_only_row_r     stopping a correction at row r: in case 12 the answer at row 4 changes too
use mathlib.Core.Path.{◌≡◌, refl}
use mathlib.Core.Bool.{true}
use mathlib.Core.List.{[], ◌∷◌}
use Rattle.basics.specs.Words.{greatest, least, some, all}
use Rattle.alf.specs.declared.Rules.{Rules}
use Rattle.alf.specs.States.{X, U, reduce, table, among, matches, in_cells, in_lines, relations}
use Rattle.alf.specs.Expressions.{edge, join, while, with, on_right, Vector}
use Rattle.alf.specs.Values.{value, recorded_or, state, state_at}
use Rattle.alf.specs.Windows.{asked, digit_asked, letter_asked, edge_on, followed_by, together, certainty}
use Rattle.alf.specs.Windows.{held}
use Rattle.alf.specs.Windows.{joined, answer, best, numbered, row_answer}
use Rattle.alf.specs.Alternatives.{test, Alternative, padded, zipped, overlaid, is_name, halves, literals_at}
use Rattle.alf.specs.Alternatives.{possible, contradictory, each, rewritten, alternatives}
use Rattle.alf.specs.Traces.{corrected}
use Rattle.alf.specs.TableT.{names, states, A, C, rise, fall, pulse}

abbrev pub both : Vector
both = join with (edge rise A) (edge fall A)

abbrev pub both_one : Alternative
both_one = (test rise A ∷ test fall A ∷ []) ∷ []

pub not_dropped_alternative : alternatives both ≡ both_one ∷ []
unfolding alternatives rewritten each overlaid padded zipped
not_dropped_alternative = refl

pub not_dropped_contradictory : contradictory 1 both_one ≡ true
unfolding contradictory possible literals_at halves is_name some all asked digit_asked letter_asked reduce
not_dropped_contradictory = refl

pub not_dropped : (ρ : Rules) → row_answer (state_at ρ 1 (X ∷ X ∷ [])) both 1 ≡ 2
unfolding row_answer numbered best answer joined together greatest value recorded_or state edge_on asked digit_asked
    letter_asked reduce
not_dropped ρ = refl

pub not_left_aligned : (ρ : Rules) → row_answer (state_at ρ names states) (join with (edge fall C) pulse) 2 ≡ 2
unfolding states row_answer numbered best answer joined together followed_by greatest value recorded_or state edge_on
    asked digit_asked letter_asked reduce
not_left_aligned ρ = refl

pub not_last_row_only : (ρ : Rules) → row_answer (state_at ρ names states) (while on_right pulse A) 2 ≡ 0
unfolding states row_answer numbered best answer joined followed_by greatest least held certainty value recorded_or state
    edge_on asked digit_asked letter_asked reduce
not_last_row_only ρ = refl

pub u_equals_u : (relations U U).equal ≡ X
unfolding relations table in_lines in_cells among matches
u_equals_u = refl

pub not_only_row_r : (ρ : Rules)
    → row_answer (state_at ρ names (corrected names states 3 (0 ∷ 0 ∷ 1 ∷ []))) (edge rise A) 4 ≡ 1
unfolding states corrected row_answer numbered best answer greatest value recorded_or state edge_on asked digit_asked
    letter_asked reduce
not_only_row_r ρ = refl

pub not_only_row_r_before : (ρ : Rules) → row_answer (state_at ρ names states) (edge rise A) 4 ≡ 2
unfolding states row_answer numbered best answer greatest value recorded_or state edge_on asked digit_asked letter_asked
    reduce
not_only_row_r_before ρ = refl
