-- What is shut out, and by which theorem. Document 01, "What a reader may rely on": "Shut out by name: refusing
-- everything (the table says 'exactly when'); one answer for all rows (demand 2 with T); a correction that changes
-- nothing (demand 3, whose list may be junk); a queue right at its first event only (demand 2, every row); an invented
-- number of tries or total (tied above to order and to the answers)." Each is said of the contracts, so of every
-- program that meets them; and Attached says that these contracts are those of the functions.
--
-- refusing everything, a good input among it
--     `no_refusal` of each call (Refusing..); on T, under its name (EveryText, EveryCall, EveryList, EveryJob,
--     EveryAlternatives, EveryTreeText)
-- accepting what a row of the table shuts out
--     `no_acceptance` of each call (Refusing..)
-- another number, another place, another order
--     `no_other` of each call (Refusing..)
-- at the edges: 33 names, 65,536 rows, row n, code 8, 4,097 bytes
--     `names_33`, `rows_65536`, `row_n`, `code_8`, .. (Accepting)
-- a refusal that has written something
--     `no_other` (Refusing..); `wrote_and_refused`, .. (Writing)
-- one answer, one value for all rows
--     `one_answer_for_all`, `one_match_for_all`, `one_number_for_all`, `one_value_for_all` (Answering)
-- unknown given as no
--     `unknown_as_no`, `unknown_as_no_matched`, `unknown_as_no_listed` (Answering)
-- the rule of steady pins dropped where it is on, or had where it is off: cases 2 and 3
--     `rule_dropped`, `rule_dropped_under`, `rule_dropped_counted`, `rule_forced`, `rule_forced_under` (SteadyRule)
--   a time with another answer than yes, or another time than the first yes' start (document 02, [12]):
--     `time_without_yes`, `time_elsewhere`, `mirror_start` (Beginning), `longest_start` (LongestStart)
--     `time_not_above`, `queue_not_rising`, `push_not_above` (Accepting): times that do not rise are refused
-- a kept pin overwritten, another pin told of; a pin that a text names forgotten, one that it does not name kept
-- (document 02, [11])
--     `kept_pin_overwritten`, `other_pin_told`, `T_overwritten`, `pin_forgotten`, `pin_invented`; `blank`, `keep_text`,
--     `T_not_refused`, `blank_attached`, `keep_text_attached` (Blanked)
-- a time cut to 32 bits; `RL` for 2^32 - 1
--     `long_listing`, `long_file` (LongTimes)
-- row 0 answered, tried, changed
--     `row_0_answered`, `row_0_tried`, `row_0_changed` (Answering)
-- a report of contradictory alternatives turned round
--     `flag_turned` (Answering)
-- an invented number of tries
--     `one_number_of_tries`, `tries_unlike` (Counting)
-- an invented total; nothing counted; unknown counted as no
--     `invented_total`, `totals_nothing`, `unknown_counted_as_no` (Counting)
-- one total for all patterns; another total of a text
--     `one_total_for_all`, `invented_total_of_text` (EveryJob)
-- the sums of another table
--     `other_sums` (EveryJob)
-- a listing of other answers, a line of other totals, than those of the tree
--     `other_listing`, `other_line` (EveryTreeText); `no_other_listing`, `no_other_totals_line` (NothingElse)
-- a text refused that is a trace, what `show` prints of T among it; a refused text of which something was written;
-- another trace than the text's
--     `make_trace`, `made_on_T`, `made_and_refused`, `wrote_and_refused`, `no_other_trace`, `make_trace_attached`
--     (MadeTraces)
-- an activity listing refused on T, or with another text
--     `activity`, `activity_on_T`, `no_other_activity`, `activity_attached` (Activity)
-- a part of it refused on T or in a block of the program, or with another text
--     `activity_part`, `part_on_T`, `blocks_shown`, `no_other_part`, `part_attached` (Activity)
-- a line of the table for a pattern that is counted otherwise, or for a good one that is said to be refused
--     `counted_in_line`, `table_line` (RefusingJobs)
-- a queue right at its first event only; one that keeps nothing
--     `first_event_only`, `stands_still`, `keeps_nothing` (Counting); `listed_stands_still` (NothingElse)
-- a correction that changes nothing
--     `changes_nothing`, `changes_nothing_on_T` (ChangingNothing); by letters, `letters_change_nothing` (EveryJob)
-- one that stops at row r, or anywhere before min(r+K, n-1)
--     `stops_at_row_r` (ChangingNothing), `stops_at_row_3`, `leaves_junk` (Correcting)
-- one that writes elsewhere, or stores nothing
--     `writes_elsewhere`, `stores_nothing` (Correcting)
-- a text with a pair of brackets more
--     `brackets_more` (Writing), `brackets_more_on_T` (EveryText)
-- a file read with its rows swapped, or any other state or time
--     `rows_swapped`, `other_state`, `other_time` (Writing)
-- any other result, text, file or list than the one defined
--     `no_other_answer`, `no_other_text`, .. (NothingElse)
-- a contract that is not the function's own, or that asks something
--     each call under its name (Attached, AttachedLists, AttachedJobs), each function for C (AttachedForC,
--     AttachedListsForC)
pub mod Reasons
pub mod Refusing
pub mod RefusingRows
pub mod RefusingUpdates
pub mod RefusingLists
pub mod RefusingTexts
pub mod RefusingTreeTexts
pub mod RefusingJobs
pub mod RefusingBegan
pub mod RefusingAlternatives
pub mod OnT
pub mod EveryText
pub mod EveryCall
pub mod EveryList
pub mod EveryTreeText
pub mod EveryJob
pub mod EveryAlternatives
pub mod Accepting
pub mod Answering
pub mod SteadyRule
pub mod Beginning
pub mod LongestStart
pub mod Counting
pub mod Correcting
pub mod ChangingNothing
pub mod Writing
pub mod NothingElse
pub mod Attached
pub mod AttachedLists
pub mod AttachedJobs
pub mod AttachedForC
pub mod AttachedListsForC
pub mod Activity
pub mod LongTimes
pub mod MadeTraces
pub mod Blanked
