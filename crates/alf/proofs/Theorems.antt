-- The statements about document 01's definitions that the project stands for, by name, so that none can go missing.
-- docs/THEOREMS.md says what each is for.

-- windows, rows and alternatives
pub use Rattle.alf.proofs.WindowsAreAlternatives.{window_alternatives, every_has_steps}
pub use Rattle.alf.proofs.RowsAreAlternatives.{row_alternatives, same_answer, empty_window, best_small}
-- the last K+1 rows, and a correction elsewhere
pub use Rattle.alf.proofs.Nearness.{answers_near, tries_near}
pub use Rattle.alf.proofs.TraceNearness.{rows_near, rows_near_tries, steps_pos, steps_within}
pub use Rattle.alf.proofs.TraceNearness.{corrected_row, corrected_other, correction_elsewhere}
-- values and states, and the enum's numbers
pub use Rattle.alf.proofs.Values.{value_settled, state_negated, state_binary, state_choice}
pub use Rattle.alf.proofs.Answers.{number_same}
-- tries
pub use Rattle.alf.proofs.Tries.{tried_first, tried_all, tries_zero}
-- two cuts
pub use Rattle.alf.proofs.Cuts.{cut_min, cut_max, cut_greatest, cut_least, cut_followed, cut_either}
pub use Rattle.alf.proofs.Cuts.{cut_together}
pub use Rattle.alf.proofs.Cuts.{cut_held, cut_row, two_cuts}
-- contradictory alternatives
pub use Rattle.alf.proofs.Contradictions.{contradictory_not_yes, contradictory_row_not_yes}
pub use Rattle.alf.proofs.Readings.{not_dropped, not_dropped_alternative, not_dropped_contradictory}
-- limits
pub use Rattle.alf.proofs.Growth.{some_alternative, join_left, join_right, while_part, limit_part}
-- bytes of an expression
pub use Rattle.alf.proofs.Encoding.{decode_bytes}
pub use Rattle.alf.proofs.Decoding.{bytes_decode, decode_over, decode_unique, same_bytes}
pub use Rattle.alf.proofs.FewNames.{decodes_encoded, encoded_decodes}
-- totals and changes
pub use Rattle.alf.proofs.Totals.{totals_sum}
pub use Rattle.alf.proofs.Masks.{mask_bit, mask_below, mask_only, mask_ones, changes_ones, changes_first}
-- outcomes
pub use Rattle.alf.proofs.Outcomes.{at_fixed, first_fixed, first_of_fixed, refused_passed, refused_unique}
pub use Rattle.alf.proofs.Outcomes.{comes_unique, refused_by_unique, refused_among}
-- table T and the readings that look right
pub use Rattle.alf.proofs.Cases.{cases_hold}
pub use Rattle.alf.proofs.Readings.{not_left_aligned, not_last_row_only, u_equals_u, not_only_row_r}
