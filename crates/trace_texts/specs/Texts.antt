-- A trace as a text: which text is which trace, and which text is refused with which number.
-- The first line that says something is the head: the word `time`, then the names; they end at the last word `changed`,
-- or at the line's end. Each other is a row: its time in decimal digits, then a letter for each name. Where the head
-- has `changed`, what follows on a row's line is passed over. This is what the activity listing has. Of table T:
--     time A B C changed
--     0 0 1 1 0
--     10 1 1 1 1 A
--   is_changed, tells, named              where the names end
--   none, name_words, wide                the names of a head, and whether what follows them is passed over
--   time_bound, is_time, time_of_lem, code_of    a time, a state's letter
--   names_made, times_made, states_made     the trace that a text is
--   NewName, name_order, names_order, head_order                      what is asked of the head
--   states_order, row_order, rows_order, text_order                    of the rows; of a text
-- The numbers are those of document 01 for a trace file; docs/DECISIONS.md says why each is given where it is.
use Rattle.std.specs.Prelude.{ℕ, zero, suc, ◌+◌, ◌-◌, ◌<◌, ◌≤◌, ◌≡◌, Bool, true, false, ◌&&◌, ◌||◌, not, List, [], ◌∷◌, ◌++◌, map, ltb, length, get_or, drop, if◌then◌else◌}
use Rattle.basics.specs.Text.{bytes, joined}
use Rattle.basics.specs.Words.{all, same, listed}
use Rattle.alf.specs.Names.{is_decimal, is_name, slot_of}
use Rattle.alf.specs.Refusals.{Order, check, At}
use Rattle.figures.specs.Numbers.{reading}
use Rattle.state_letters.specs.Letters.{state_of}
use Rattle.trace_texts.specs.Words.{Word, Line, word, line, lines_of}

-- The names end at the last word `changed`.
unfoldable pub is_changed : List ℕ → Bool
is_changed w = same w (bytes "changed")

unfoldable pub tells : List Word → Bool
tells [] = false
tells (w ∷ ws) = is_changed w.bytes || tells ws

unfoldable pub named : List Word → List Word
named [] = []
named (w ∷ ws) = if is_changed w.bytes && not (tells ws) then [] else w ∷ named ws

-- no word: it has no bytes
abbrev pub none : Word
none = word 0 []

abbrev pub name_words : Line → List Word
name_words head = named (drop 1 head.words)

abbrev pub wide : Line → Bool
wide head = tells (drop 1 head.words)

-- a time is below 2^64, as in a trace file
abbrev pub time_bound : ℕ
time_bound = 18446744073709551616

unfoldable pub is_time : List ℕ → Bool
is_time ds = ltb 0 (length ds) && (all is_decimal ds && ltb (reading 0 ds) time_bound)

abbrev pub time_of_lem : Line → ℕ
time_of_lem row = reading 0 (get_or row.words 0 none).bytes

-- the code of a state's letter, 8 where a word is none
unfoldable pub code_of : List ℕ → ℕ
code_of [] = 8
code_of (b ∷ []) = state_of b
code_of (b ∷ c ∷ bs) = 8

-- word i of a row's states
abbrev pub state_word : Line → ℕ → Word
state_word row i = get_or row.words (i + 1) none

-- The trace: names in slots, times, states row by row.
unfoldable pub names_made : Line → List ℕ
names_made head = joined (map (λ (w : Word). slot_of w.bytes) (name_words head))

unfoldable pub times_made : List Line → List ℕ
times_made rows = map time_of_lem rows

unfoldable pub states_made : ℕ → List Line → List ℕ
states_made k rows = joined (map (λ (row : Line). listed 0 k (λ i. code_of (state_word row i).bytes)) rows)

-- a name, and no earlier one
pub record NewName (names : List Word) (i : ℕ) : Type 0 where
  pub name : is_name (get_or names i none).bytes ≡ true
  pub new : (j : ℕ) → j < i → (get_or names j none).bytes ≡ (get_or names i none).bytes → ⊥

-- 11 for a 33rd name, 12 for what is no name or stands there already; at its byte
abbrev pub name_order : List Word → ℕ → Order
name_order names i =
    check 11 (At (get_or names i none).at (32 ≤ i)) ∷ check 12 (At (get_or names i none).at (NewName names i → ⊥)) ∷ []

unfoldable pub names_order : List Word → ℕ → Order
names_order names zero = []
names_order names (suc i) = names_order names i ++ name_order names i

-- the head: 11 where it does not start with `time`; its names; 14 at its end where there is none
unfoldable pub head_order : Line → Order
head_order head =
    check 11 (At (get_or head.words 0 none).at (same (get_or head.words 0 none).bytes (bytes "time") ≡ false))
    ∷ (names_order (name_words head) (length (name_words head))
    ++ (check 14 (At head.end (length (name_words head) ≡ 0)) ∷ []))

-- the states of a row: 14 at the line's end where one is missing, 15 where a word is no state's letter
unfoldable pub states_order : Line → ℕ → Order
states_order row zero = []
states_order row (suc i) =
    states_order row i
    ++ (check 14 (At row.end (length row.words ≤ i + 1))
    ∷ check 15 (At (state_word row i).at (7 < code_of (state_word row i).bytes)) ∷ [])

-- row r of some: 11 for a 65,536th row and for a line that starts with no time, 13 for a time not above the last row's,
-- its states, 11 for a word behind them where the head has no `changed`
unfoldable pub row_order : ℕ → Bool → List Line → ℕ → Order
row_order k passed rows r =
    let row = get_or rows r (line [] 0) in
    check 11 (At (get_or row.words 0 none).at (65535 ≤ r))
    ∷ check 11 (At (get_or row.words 0 none).at (is_time (get_or row.words 0 none).bytes ≡ false))
    ∷ check 13
    (At (get_or row.words 0 none).at ((0 < r) × (time_of_lem row ≤ time_of_lem (get_or rows (r - 1) (line [] 0)))))
    ∷ (states_order row k
    ++ (check 11 (At (state_word row k).at ((passed ≡ false) × (k + 1 < length row.words))) ∷ []))

unfoldable pub rows_order : ℕ → Bool → List Line → ℕ → Order
rows_order k passed rows zero = []
rows_order k passed rows (suc r) = rows_order k passed rows r ++ row_order k passed rows r

-- 14 at the text's end where there is no head, or no row
unfoldable pub said_order : ℕ → List Line → Order
said_order size [] = check 14 (At size (Unit {0})) ∷ []
said_order size (head ∷ rows) =
    head_order head
    ++ (rows_order (length (name_words head)) (wide head) rows (length rows)
    ++ (check 14 (At size (length rows ≡ 0)) ∷ []))

unfoldable pub text_order : List ℕ → Order
text_order text = said_order (length text) (lines_of text)
