-- The numbers of a text that is read as a trace.
--   said_numbers_lem    of a text with a head, in their order
--   making_known    no other than those of `making_numbers` is in the call's order
use Prim.Native.Nat.{ℕ, zero, suc}
use mathlib.Core.Path.{◌≡◌, refl, ap, ◌∙◌}
use mathlib.Core.Bool.{Bool, true}
use mathlib.Core.List.{List, [], ◌∷◌, ◌++◌}
use lib.ListN.{length}
use Rattle.basics.specs.Words.{all}
use Rattle.alf.specs.States.{among}
use Rattle.alf.specs.Refusals.{Row, Order, check, numbers_of}
use Rattle.trace_reader.specs.Reading.{room_order}
use Rattle.trace_texts.specs.Words.{Word, Line, lines_of}
use Rattle.trace_texts.specs.Texts.{name_words, wide, names_order, head_order, states_order, row_order, rows_order}
use Rattle.trace_texts.specs.Texts.{said_order, text_order}
use Rattle.text_reading.specs.Reading.{name_count, row_count, read_order}
use Rattle.demands.specs.CallNumbers.{name_by_name, head_numbers, state_by_state, line_by_line, said_numbers}
use Rattle.demands.specs.CallNumbers.{making_numbers}
use Rattle.demands.proofs.NumberLists.{all_both, numbers_both}

-- in their order
names_numbers_lem : (names : List Word) (i : ℕ) → numbers_of (names_order names i) ≡ name_by_name i
unfolding numbers_of names_order name_by_name
names_numbers_lem names zero = refl
names_numbers_lem names (suc i) =
    numbers_both (names_order names i) _ ∙ ap (λ ns. ns ++ (11 ∷ 12 ∷ [])) (names_numbers_lem names i)

head_numbers_lem : (head : Line) → numbers_of (head_order head) ≡ head_numbers (length (name_words head))
unfolding numbers_of head_order
head_numbers_lem head =
    ap (λ ns. 11 ∷ ns)
    (numbers_both (names_order (name_words head) (length (name_words head))) _
    ∙ ap (λ ns. ns ++ (14 ∷ [])) (names_numbers_lem (name_words head) (length (name_words head))))

states_numbers : (row : Line) (i : ℕ) → numbers_of (states_order row i) ≡ state_by_state i
unfolding numbers_of states_order state_by_state
states_numbers row zero = refl
states_numbers row (suc i) =
    numbers_both (states_order row i) _ ∙ ap (λ ns. ns ++ (14 ∷ 15 ∷ [])) (states_numbers row i)

row_numbers_lem : (k : ℕ) (passed : Bool) (rows : List Line) (r : ℕ)
    → numbers_of (row_order k passed rows r) ≡ 11 ∷ 11 ∷ 13 ∷ (state_by_state k ++ (11 ∷ []))
unfolding numbers_of row_order
row_numbers_lem k passed rows r =
    ap (λ ns. 11 ∷ 11 ∷ 13 ∷ ns)
    (numbers_both (states_order _ k) _ ∙ ap (λ ns. ns ++ (11 ∷ [])) (states_numbers _ k))

rows_numbers_lem : (k : ℕ) (passed : Bool) (rows : List Line) (n : ℕ)
    → numbers_of (rows_order k passed rows n) ≡ line_by_line k n
unfolding numbers_of rows_order line_by_line
rows_numbers_lem k passed rows zero = refl
rows_numbers_lem k passed rows (suc n) =
    numbers_both (rows_order k passed rows n) (row_order k passed rows n)
    ∙ ap (λ ns. ns ++ numbers_of (row_order k passed rows n)) (rows_numbers_lem k passed rows n)
    ∙ ap (λ ns. line_by_line k n ++ ns) (row_numbers_lem k passed rows n)

joined_numbers : (o o' : Order) {a b : List ℕ} → numbers_of o ≡ a → numbers_of o' ≡ b → numbers_of (o ++ o') ≡ a ++ b
joined_numbers o o' e f = numbers_both o o' ∙ rw (e, f) refl

alone : (n : ℕ) (row : Row) → numbers_of (check n row ∷ []) ≡ n ∷ []
unfolding numbers_of
alone n row = refl

pub said_numbers_lem : (size : ℕ) (head : Line) (rows : List Line)
    → numbers_of (said_order size (head ∷ rows)) ≡ said_numbers (length (name_words head)) (length rows)
unfolding said_order
said_numbers_lem size head rows =
    let k = length (name_words head) in
    joined_numbers (head_order head) _ (head_numbers_lem head)
    (joined_numbers (rows_order k (wide head) rows (length rows)) _ (rows_numbers_lem k (wide head) rows (length rows))
    (alone 14 _))

-- no others
abbrev known : ℕ → Bool
known n = among n making_numbers

names_known : (i : ℕ) → all known (name_by_name i) ≡ true
unfolding all among name_by_name
names_known zero = refl
names_known (suc i) = all_both known (name_by_name i) _ (names_known i) refl

states_known : (i : ℕ) → all known (state_by_state i) ≡ true
unfolding all among state_by_state
states_known zero = refl
states_known (suc i) = all_both known (state_by_state i) _ (states_known i) refl

row_known : (k : ℕ) → all known (11 ∷ 11 ∷ 13 ∷ (state_by_state k ++ (11 ∷ []))) ≡ true
unfolding all among
row_known k = all_both known (state_by_state k) _ (states_known k) refl

lines_known : (k n : ℕ) → all known (line_by_line k n) ≡ true
unfolding all line_by_line
lines_known k zero = refl
lines_known k (suc n) = all_both known (line_by_line k n) _ (lines_known k n) (row_known k)

said_known : (size : ℕ) (ls : List Line) → all known (numbers_of (said_order size ls)) ≡ true
unfolding all among numbers_of said_order
said_known size [] = refl
said_known size (head ∷ rows) =
    let k = length (name_words head) in
    ap (all known) (said_numbers_lem size head rows)
    ∙ all_both known (head_numbers k) _ (all_both known (name_by_name k) _ (names_known k) refl)
    (all_both known (line_by_line k (length rows)) _ (lines_known k (length rows)) refl)

pub making_known : (text names times states : List ℕ) → all known (numbers_of (read_order text names times states)) ≡ true
unfolding all among numbers_of text_order
making_known text names times states =
    ap (all known) (numbers_both (text_order text) (room_order names times states (name_count text) (row_count text)))
    ∙ all_both known (numbers_of (text_order text)) _ (said_known (length text) (lines_of text)) refl
