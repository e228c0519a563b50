-- Document 02, [2]: the examples of specs/Examples.antt, computed.
--   fillings_hold                the filled expressions, written out
--   readings_hold                the answers on short traces, as written and filled, under either rule for ternaries
--   ladder_eight, ladder_nine    "8 counts the added tests": 8 steps on 8 names pass, and 9 on 9 are over the limit
--   lone-..                      expressions with no run of two or more steps, and one with such a run
use mathlib.Core.Path.{◌≡◌, refl}
use mathlib.Core.Bool.{Bool, true, false}
use mathlib.Core.List.{map}
use Rattle.basics.specs.Words.{greatest, least, listed, greatest_of, sum_of, all, same}
use Rattle.alf.specs.States.{reduce}
use Rattle.alf.specs.Expressions.{join, while, on_right, either_order}
use Rattle.alf.specs.Values.{value, recorded_or, state}
use Rattle.alf.specs.Windows.{asked, digit_asked, letter_asked, edge_on, followed_by, either, together, certainty}
use Rattle.alf.specs.Windows.{held, joined, answer, best, numbered, row_answer}
use Rattle.alf.specs.Alternatives.{is_name, each, padded, zipped, overlaid, rewritten, alternatives, tests, tests_of}
use Rattle.alf.specs.Alternatives.{over_limit}
use Rattle.alf.specs.TableT.{A, B, C, pulse}
use Rattle.alf.specs.Steady.{is_then, is_with, is_step_lem, is_changing, moves, has_edge_on, some_of, operands, row, run}
use Rattle.alf.specs.Steady.{is_steady, kept, steadied, filled_in, filled, meant}
use Rattle.steady_laws.specs.Lone.{spaced, lone}
use Rattle.steady_laws.specs.Examples.{◌then◌, rises, falls, written_of, filled_of, fillings}
use Rattle.steady_laws.specs.Examples.{reads, all_read, readings, ladder}

pub fillings_hold : map (λ f. filled (written_of f)) fillings ≡ map filled_of fillings
unfolding
    is_then is_with is_step_lem is_changing moves has_edge_on some_of operands row run is_steady kept steadied filled_in all is_name
    written_of filled_of fillings
fillings_hold = refl

pub readings_hold : (e : Bool) → all_read e readings ≡ true
unfolding
    greatest least listed reduce value recorded_or state asked digit_asked letter_asked edge_on followed_by either together
    certainty held joined answer best numbered row_answer same is_then is_with is_step_lem is_changing moves has_edge_on some_of
    operands row run is_steady kept steadied filled_in meant all is_name reads all_read readings
readings_hold true = refl
readings_hold false = refl

pub ladder_eight : (tests_of (filled (ladder 7)) ≡ 64) × (over_limit (alternatives (filled (ladder 7))) ≡ false)
unfolding
    is_then is_with is_step_lem is_changing moves has_edge_on some_of operands row run is_steady kept steadied filled_in all is_name
    ladder tests_of tests sum_of greatest_of over_limit alternatives rewritten each overlaid padded zipped
ladder_eight = (refl, refl)

pub ladder_nine : (over_limit (alternatives (filled (ladder 8))) ≡ true) × (over_limit (alternatives (ladder 8)) ≡ false)
unfolding
    is_then is_with is_step_lem is_changing moves has_edge_on some_of operands row run is_steady kept steadied filled_in all is_name
    ladder tests_of tests sum_of greatest_of over_limit alternatives rewritten each overlaid padded zipped
ladder_nine = (refl, refl)

-- 01 A -> 10 B & C; 01 A <-> 10 B; but not 01 A -> 10 B
pub lone_condition : lone (rises A then while on_right (falls B) C) ≡ true
unfolding lone spaced is_step_lem operands is_then
lone_condition = refl

pub lone_compact : lone (join either_order (rises A) (falls B)) ≡ true
unfolding lone spaced is_step_lem operands is_then
lone_compact = refl

pub lone_not : lone pulse ≡ false
unfolding lone spaced is_step_lem operands is_then
lone_not = refl
