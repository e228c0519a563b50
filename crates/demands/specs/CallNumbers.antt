-- Document 01, "Numbers for refused work", the sentences behind the table: the numbers of each public call, in their
-- order.
--   names_numbers, .., line_numbers   the numbers of a call's order
--   row_by_row, record_numbers         13 and 15 row by row; the numbers of a record of a file, by its mark
--   said_numbers, making_numbers      of a text that is read as a trace, word by word; all of its numbers
use Rattle.std.specs.Prelude.{ℕ, zero, suc, List, [], ◌∷◌, ◌++◌}
use Rattle.trace_format.specs.declared.Mark.{Mark}
use Rattle.trace_format.specs.declared.Mark.TheVariants as mark

-- "Text: 18 and 12 for the name list, then 1 to 8. Writing: 18, 12, 10, 1, 9."
abbrev pub names_numbers : List ℕ
names_numbers = 18 ∷ 12 ∷ []

abbrev pub text_numbers : List ℕ
text_numbers = 18 ∷ 12 ∷ 1 ∷ 2 ∷ 3 ∷ 4 ∷ 5 ∷ 6 ∷ 7 ∷ 8 ∷ []

abbrev pub writing_numbers : List ℕ
writing_numbers = 18 ∷ 12 ∷ 10 ∷ 1 ∷ 9 ∷ []

-- "Trace read: record by record; mark (cut short it is 14), then 14, then contents in file order; 9 last, for the first
-- short one of names, times, states."
unfoldable pub record_numbers : Mark → List ℕ
record_numbers mark.Name = 14 ∷ 11 ∷ 14 ∷ 12 ∷ []
record_numbers (mark.Row w) = 14 ∷ 11 ∷ 14 ∷ 13 ∷ 15 ∷ []
record_numbers mark.End = 14 ∷ 11 ∷ 14 ∷ 16 ∷ 17 ∷ []
record_numbers mark.Other = 14 ∷ 11 ∷ 14 ∷ []

abbrev pub room_numbers : List ℕ
room_numbers = 9 ∷ 9 ∷ 9 ∷ []

abbrev pub file_numbers : List ℕ
file_numbers = 11 ∷ 12 ∷ 13 ∷ 14 ∷ 15 ∷ 16 ∷ 17 ∷ 9 ∷ []

-- "Trace writing: 18, 12, then 13 and 15 row by row, 9."
unfoldable pub row_by_row : ℕ → List ℕ
row_by_row zero = []
row_by_row (suc n) = 13 ∷ 15 ∷ row_by_row n

abbrev pub trace_numbers : ℕ → List ℕ
trace_numbers n = 18 ∷ 12 ∷ (row_by_row n ++ (9 ∷ []))

-- a part of the activity listing: 19 before its rows
abbrev pub part_numbers : ℕ → List ℕ
part_numbers n = 18 ∷ 12 ∷ 19 ∷ (row_by_row n ++ (9 ∷ []))

-- "Totals, matching, rewriting, queue, correction, changes of a row: 18, 10, 15 (trace, then new row), 19; for
-- rewriting 9 last, first short output."
abbrev pub rows_numbers : List ℕ
rows_numbers = 18 ∷ 10 ∷ 15 ∷ []

-- with times (document 02, [12]): "13 .. after 15"
abbrev pub timed_numbers : List ℕ
timed_numbers = 18 ∷ 10 ∷ 15 ∷ 13 ∷ []

abbrev pub timed_row_numbers : List ℕ
timed_row_numbers = 18 ∷ 10 ∷ 15 ∷ 13 ∷ 19 ∷ []

abbrev pub row_numbers : List ℕ
row_numbers = 18 ∷ 10 ∷ 15 ∷ 19 ∷ []

abbrev pub correction_numbers : List ℕ
correction_numbers = 18 ∷ 10 ∷ 15 ∷ 15 ∷ 19 ∷ []

abbrev pub changes_numbers : List ℕ
changes_numbers = 18 ∷ 15 ∷ 19 ∷ []

abbrev pub rewriting_numbers : List ℕ
rewriting_numbers = 18 ∷ 10 ∷ 9 ∷ 9 ∷ 9 ∷ 9 ∷ []

abbrev pub flag_numbers : List ℕ
flag_numbers = 18 ∷ 10 ∷ 9 ∷ []

-- the listing and a pattern's line of the table, by a tree; whether lists are accepted; any other line of the table
abbrev pub text_numbers_of_tree : List ℕ
text_numbers_of_tree = 18 ∷ 10 ∷ 15 ∷ 9 ∷ []

abbrev pub fits_numbers : List ℕ
fits_numbers = 18 ∷ 10 ∷ []

abbrev pub line_numbers : List ℕ
line_numbers = 9 ∷ []

-- A trace from a text, word by word: the head; row by row the time, the states and what follows them; 14 where there is
-- no row. A text without a head is 14. Then 9 as for a trace file.
unfoldable pub name_by_name : ℕ → List ℕ
name_by_name zero = []
name_by_name (suc i) = name_by_name i ++ (11 ∷ 12 ∷ [])

abbrev pub head_numbers : ℕ → List ℕ
head_numbers k = 11 ∷ (name_by_name k ++ (14 ∷ []))

unfoldable pub state_by_state : ℕ → List ℕ
state_by_state zero = []
state_by_state (suc i) = state_by_state i ++ (14 ∷ 15 ∷ [])

unfoldable pub line_by_line : ℕ → ℕ → List ℕ
line_by_line k zero = []
line_by_line k (suc r) = line_by_line k r ++ (11 ∷ 11 ∷ 13 ∷ (state_by_state k ++ (11 ∷ [])))

-- of k names and n rows
abbrev pub said_numbers : ℕ → ℕ → List ℕ
said_numbers k n = head_numbers k ++ (line_by_line k n ++ (14 ∷ []))

abbrev pub making_numbers : List ℕ
making_numbers = 11 ∷ 12 ∷ 13 ∷ 14 ∷ 15 ∷ 9 ∷ []
