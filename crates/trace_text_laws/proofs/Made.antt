-- What a text is read as is a trace: where nothing is refused, names, times and states are those of a trace.
-- Main name: made_trace.
use Prim.Native.Nat.{ℕ, zero, suc, ◌-◌, ◌*◌, ◌^◌, ◌<◌, ◌≤◌}
use native.Mathlib.Omega.{arith}
use native.Mathlib.Nat.{zero-add}
use mathlib.Core.Path.{◌≡◌, refl, sym, ap, ◌∙◌}
use mathlib.Core.Logic.{◌⊎◌, inl, inr}
use mathlib.Core.List.{List, [], ◌∷◌, map}
use lib.ListN.{length, get_or, length-map, get_or-map}
use Rattle.basics.specs.Words.{All, listed}
use Rattle.basics.proofs.Bools.{below?}
use Rattle.basics.proofs.Stable.{le_stable, lt_stable}
use Rattle.basics.proofs.Listed.{listed_length, listed_at}
use Rattle.alf.specs.Names.{names_in, name_at, slot, slot_of, until_zero}
use Rattle.alf.specs.Refusals.{Passed}
use Rattle.alf.proofs.Orders.{passed_left, passed_right}
use Rattle.figures.specs.Numbers.{reading}
use Rattle.trace_format.specs.Format.{Trace}
use Rattle.record_copies.proofs.Copying.{slot_length}
use Rattle.trace_reader.proofs.NameSlots.{until_name}
use Rattle.trace_texts.specs.Words.{Word, Line, line}
use Rattle.trace_texts.specs.Texts.{none, name_words, wide, time_of_lem, code_of, state_word, NewName}
use Rattle.trace_texts.specs.Texts.{names_made, times_made, states_made, names_order, head_order}
use Rattle.trace_texts.specs.Texts.{row_order, rows_order, said_order}
use Rattle.text_copies.proofs.CopiedRows.{times_long}
use Rattle.text_copies.proofs.Lengths.{names_long, states_long}
use Rattle.trace_texts.proofs.Parts.{joined_part, all_map, map_all, all_at, all_parts, all_by}
use Rattle.trace_texts.proofs.PassedParts.{one_name, one_row, row_few, row_time_lem, row_later, row_states, time_small}

past : (l : List ℕ) (i : ℕ) → length l ≤ i → get_or l i 0 ≡ 0
past [] i h = refl
past (x ∷ l) zero h = absurd (omega arith)
past (x ∷ l) (suc i) h = past l i (omega arith)

zero_of : (m : ℕ) → (1 ≤ m → ⊥) → m ≡ 0
zero_of zero n = refl
zero_of (suc m) n = absurd (n (omega arith))

module _ (size : ℕ) (head : Line) (rows : List Line) (p : Passed (said_order size (head ∷ rows))) where
  in_head : Passed (head_order head)
  unfolding said_order
  in_head = passed_left (head_order head) _ p

  in_rows : Passed (rows_order (length (name_words head)) (wide head) rows (length rows))
  unfolding said_order
  in_rows =
      passed_left (rows_order (length (name_words head)) (wide head) rows (length rows)) _
      (passed_right (head_order head) _ p)

  some_rows : 1 ≤ length rows
  unfolding said_order Passed
  some_rows =
      let last =
      passed_right (rows_order (length (name_words head)) (wide head) rows (length rows)) _
      (passed_right (head_order head) _ p) in
      le_stable 1 (length rows) (λ n. last.0 size (record { given = zero_of (length rows) n; there = refl }))

  row_passed : (r : ℕ) → r < length rows → Passed (row_order (length (name_words head)) (wide head) rows r)
  row_passed r h = one_row (length (name_words head)) (wide head) rows (length rows) r in_rows h

  -- the names
  in_names : Passed (names_order (name_words head) (length (name_words head)))
  unfolding head_order Passed
  in_names = passed_left (names_order (name_words head) (length (name_words head))) _ in_head.1

  some_names_lem : 1 ≤ length (name_words head)
  unfolding head_order Passed
  some_names_lem =
      let last = passed_right (names_order (name_words head) (length (name_words head))) _ in_head.1 in
      le_stable 1 _ (λ n. last.0 head.end (record { given = zero_of (length (name_words head)) n; there = refl }))

  name_passed : (i : ℕ) → i < length (name_words head) → (32 ≤ i → ⊥) × NewName (name_words head) i
  name_passed i h = one_name (name_words head) (length (name_words head)) i in_names h

  few_names : length (name_words head) ≤ 32
  few_names = le_stable _ 32 (λ n. (name_passed 32 (lt_stable 32 _ (λ f. n (omega arith)))).0 (omega arith))

  few_rows : length rows ≤ 65535
  few_rows =
      le_stable _ 65535
      (λ n.
      let l : 65535 < length rows = lt_stable 65535 _ (λ f. n (omega arith)) in
      omega (arith, row_few (length (name_words head)) (wide head) rows 65535 (row_passed 65535 l)))

  abbrev slots : List (List ℕ)
  slots = map (λ (w : Word). slot_of w.bytes) (name_words head)

  slots_even : All (λ l. length l ≡ 32) slots
  slots_even = all_map (λ (w : Word). slot_of w.bytes) (name_words head) (λ w. slot_length w.bytes)

  names_length : length (names_made head) ≡ length (name_words head) * 32
  names_length = names_long head

  slot_is : (i : ℕ) → i < length (name_words head)
      → slot (names_made head) i ≡ slot_of (get_or (name_words head) i none).bytes
  unfolding slot names_made slot_of
  slot_is i h =
      joined_part 32 slots_even i (omega (arith, length-map (name_words head) (λ (w : Word). slot_of w.bytes)))
      ∙ entry (name_words head) i h
    where
      entry : (ws : List Word) (i : ℕ) → i < length ws
          → get_or (map (λ (w : Word). slot_of w.bytes) ws) i [] ≡ slot_of (get_or ws i none).bytes
      entry [] i h = absurd (omega arith)
      entry (w ∷ ws) zero h = refl
      entry (w ∷ ws) (suc i) h = entry ws i (omega arith)

  name_is : (i : ℕ) → i < length (name_words head) → name_at (names_made head) i ≡ (get_or (name_words head) i none).bytes
  name_is i h = ap until_zero (slot_is i h) ∙ until_name _ (name_passed i h).1.name

  times_are : (r : ℕ) → get_or (times_made rows) r 0 ≡ time_of_lem (get_or rows r (line [] 0))
  unfolding times_made reading
  times_are r = get_or-map time_of_lem rows r (line [] 0)

  abbrev codes_at : Line → List ℕ
  codes_at row = listed 0 (length (name_words head)) (λ i. code_of (state_word row i).bytes)

  states_length : length (states_made (length (name_words head)) rows) ≡ length rows * length (name_words head)
  states_length = states_long (length (name_words head)) rows

  codes_small : (r : ℕ) → r < length rows → All (λ c. c ≤ 7) (codes_at (get_or rows r (line [] 0)))
  codes_small r h =
      let k = length (name_words head) in
      let row = get_or rows r (line [] 0) in
      all_by 0 (codes_at row)
      (λ i l.
      let m : i < k = omega (arith, l, listed_length 0 k (λ i. code_of (state_word row i).bytes)) in
      omega (
        arith,
        listed_at 0 k i (λ i. code_of (state_word row i).bytes) 0 m,
        ap (λ (j : ℕ). code_of (state_word row j).bytes) (zero-add i),
        row_states k (wide head) rows r (row_passed r h) i m,
      ))

  states_small : All (λ c. c ≤ 7) (states_made (length (name_words head)) rows)
  unfolding states_made
  states_small = all_parts (map_all codes_at (all_by (line [] 0) rows codes_small))

  times_length : length (times_made rows) ≡ length rows
  times_length = times_long rows

  time_word : (r : ℕ) → get_or (times_made rows) r 0 < 2 ^ 64
  time_word r = go (below? r (length rows))
    where
      go : (r < length rows) ⊎ (length rows ≤ r) → get_or (times_made rows) r 0 < 2 ^ 64
      go (inl h) =
          omega (
            arith,
            times_are r,
            time_small _ (row_time_lem (length (name_words head)) (wide head) rows r (row_passed r h)),
          )
      go (inr h) = omega (arith, past (times_made rows) r (omega (arith, h, times_length)))

  -- where nothing is refused, what is read is a trace
  pub made_trace : Trace (names_made head) (times_made rows) (states_made (length (name_words head)) rows) (length rows)
  made_trace =
      let k = length (name_words head) in
      let counted : names_in (names_made head) ≡ k = omega (arith, names_length) in
      record {
        slots =
            record {
              whole = omega (arith, names_length);
              some = omega (arith, counted, some_names_lem);
              few = omega (arith, counted, few_names);
            };
        good = λ i h.
            let l : i < k = omega (arith, h, counted) in
            record {
              named = rw (name_is i l) (name_passed i l).1.name;
              filled = slot_is i l ∙ ap slot_of (sym (name_is i l));
              new = λ j m e.
                  (name_passed i l).1.new j m (sym (name_is j (omega arith)) ∙ e ∙ name_is i l);
            };
        lists =
            record {
              some = some_rows;
              few = few_rows;
              times_all = times_length;
              states_all = states_length ∙ ap (λ (m : ℕ). length rows * m) (sym counted);
            };
        rising = λ r h.
            let e : suc r - 1 ≡ r = omega arith in
            let l = row_later k (wide head) rows (suc r) (row_passed (suc r) h) (omega arith) in
            omega (arith, times_are r, times_are (suc r), rw e at l);
        codes = λ i h. all_at 0 states_small i h;
        words = time_word;
      }
