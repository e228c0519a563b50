-- The activity listing: a trace as a table, and for each row "the set of changed variables, bit i for name i, and how
-- many they are; row 0 has none" (document 01, "Trace file").
-- A head line, then a line for each row: its time, a letter for each state, how many names changed, and which. Every
-- line ends in LF. Of table T:
--     time A B C changed
--     0 0 1 1 0
--     10 1 1 1 1 A
--   head_line                      the head
--   activity_text                  the whole
--   opening, part_text             a part of it: the lines of some rows, and before row 0 the head
--   activity_order, ListsActivity          the refusals of the call, and what it comes to
--   PartOf, some_order, part_order, ListsPart    the same of the call for a part
-- The rows' lines are defined in row_lines. The whole text of T is computed as an example. That the parts together are
-- the whole is in proofs/Parts.
use Rattle.std.specs.Prelude.{ℕ, ◌-◌, ◌<◌, ◌≤◌, ◌≡◌, true, List, [], ◌∷◌, ◌++◌, eqb, length, if◌then◌else◌}
use Rattle.basics.specs.Refusing.{Outcome}
use Rattle.basics.specs.Memory.{after, front}
use Rattle.alf.specs.Names.{names_in}
use Rattle.alf.specs.Refusals.{Order, check, At, Comes}
use Rattle.trace_writer.specs.Writing.{lent_order, rows_order, lists_order}
use Rattle.basics.specs.Text.{bytes, joined}
use Rattle.figures.specs.Delivering.{line_order}
use Rattle.row_lines.specs.Lines.{members, row_lines}

-- all k names
unfoldable pub head_line : List ℕ → ℕ → List ℕ
head_line names k = joined (bytes "time" ∷ members names k (λ i. true) ∷ bytes " changed\n" ∷ [])

unfoldable pub activity_text : List ℕ → List ℕ → List ℕ → ℕ → List ℕ
activity_text names times states n =
    head_line names (names_in names) ++ row_lines names (names_in names) times states 0 n

-- the head stands before row 0
unfoldable pub opening : List ℕ → ℕ → ℕ → List ℕ
opening names k first = if eqb first 0 then head_line names k else []

unfoldable pub part_text : List ℕ → ℕ → List ℕ → List ℕ → ℕ → ℕ → List ℕ
part_text names k times states first many = opening names k first ++ row_lines names k times states first many

-- as for writing a trace: 18, 12, then 13 and 15 row by row, 9
abbrev pub activity_order : List ℕ → List ℕ → List ℕ → ℕ → ℕ → Order
activity_order names times states n room =
    lists_order names times states n ++ line_order (activity_text names times states n) room

pub record ListsActivity (names times states : List ℕ) (n : ℕ) (out out' : List ℕ) (r : Outcome) : Type 0 where
  pub outcome :
      Comes (activity_order names times states n (length out))
      (λ k. k ≡ length (activity_text names times states n)) r
  pub memory : out' ≡ after (front (activity_text names times states n) out) out r

-- The rows from one on and up to, not including, another: rows of the trace, one at least.
pub record PartOf (n from to : ℕ) : Type 0 where
  pub some : from < to
  pub within : to ≤ n

-- 19 where these are no such rows; then 13 and 15 of these rows, row by row, 9
abbrev pub some_order : List ℕ → ℕ → List ℕ → List ℕ → ℕ → ℕ → ℕ → ℕ → Order
some_order names k times states n from to room =
    check 19 (At 0 (PartOf n from to → ⊥))
    ∷ (rows_order k times states from (to - from)
    ++ line_order (part_text names k times states from (to - from)) room)

-- 18 and 12 before that
abbrev pub part_order : List ℕ → List ℕ → List ℕ → ℕ → ℕ → ℕ → ℕ → Order
part_order names times states n from to room =
    lent_order names times states n ++ some_order names (names_in names) times states n from to room

pub record ListsPart (names times states : List ℕ) (n from to : ℕ) (out out' : List ℕ) (r : Outcome) : Type 0 where
  pub outcome :
      Comes (part_order names times states n from to (length out))
      (λ k. k ≡ length (part_text names (names_in names) times states from (to - from))) r
  pub memory :
      out' ≡ after (front (part_text names (names_in names) times states from (to - from)) out) out r
