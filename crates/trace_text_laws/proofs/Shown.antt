-- Lines that say what the activity listing of a trace says are read as the trace.
--   said_passes                             nothing of them is refused
--   said_names, said_times, said_states     names, times and states are those of the trace
use Prim.Native.Nat.{ℕ, zero, suc, ◌+◌, ◌-◌, ◌*◌, ◌<◌, ◌≤◌}
use native.Mathlib.Omega.{arith}
use native.Mathlib.Nat.{zero-add, add-zero}
use native.Mathlib.Numerals.{add-one}
use mathlib.Core.Path.{◌≡◌, refl, sym, ap, ◌∙◌}
use mathlib.Core.Bool.{true}
use mathlib.Core.List.{List, [], ◌∷◌, ◌++◌, map, map-map}
use lib.ListN.{length, get_or, take, drop, length-map, length-append, get_or-map, get_or-append}
use lib.Seq.{ext_get_or}
use Rattle.basics.specs.Words.{same, listed}
use Rattle.basics.specs.Text.{bytes, joined}
use Rattle.basics.proofs.Bools.{never}
use Rattle.basics.proofs.Listed.{listed_length, listed_at}
use Rattle.alf.specs.Names.{names_in, name_at, slot, slot_of}
use Rattle.alf.specs.Refusals.{Passed}
use Rattle.alf.specs.Traces.{changed, change_count}
use Rattle.alf.specs.Values.{row_of}
use Rattle.alf.proofs.Orders.{passed_both}
use Rattle.figures.specs.Numbers.{reading, decimal}
use Rattle.figures.proofs.Digits.{decimal_read}
use Rattle.listing.specs.Listing.{letter}
use Rattle.trace_format.specs.Format.{Trace}
use Rattle.trace_format.proofs.RowByRow.{room_for}
use Rattle.trace_texts.specs.Words.{Word, Line, line}
use Rattle.trace_texts.specs.Texts.{none, name_words, wide, is_time, time_of_lem, code_of, state_word, NewName}
use Rattle.trace_texts.specs.Texts.{names_made, times_made, states_made, names_order, head_order, states_order}
use Rattle.trace_texts.specs.Texts.{row_order, rows_order, said_order}
use Rattle.trace_texts.proofs.Splitting.{said_by}
use Rattle.trace_text_laws.proofs.ShownLines.{picked, head_words, state_words, row_words}
use Rattle.trace_text_laws.proofs.ShownLines.{code_small}
use Rattle.trace_text_laws.proofs.Said.{bytes_of, bytes_at, tells_last, named_before, letter_code}
use Rattle.trace_text_laws.proofs.Chunks.{map_listed, listed_same, listed_part, chunks_whole}
use Rattle.trace_text_laws.proofs.Said.{bytes_behind, decimal_time}

-- Lines that say what the listing says.
module _ {names times states : List ℕ} {n : ℕ} (t : Trace names times states n) (head : Line) (rows : List Line)
    (said_head : said_by head ≡ head_words names (names_in names))
    (said_rows : map said_by rows ≡ listed 0 n (λ r. row_words names (names_in names) states (get_or times r 0) r)) where
  behind_time : bytes_of (drop 1 head.words) ≡ listed 0 (names_in names) (name_at names) ++ (bytes "changed" ∷ [])
  unfolding head_words
  behind_time = bytes_behind head.words ∙ ap (drop 1) said_head

  names_are : bytes_of (name_words head) ≡ listed 0 (names_in names) (name_at names)
  names_are = named_before (listed 0 (names_in names) (name_at names)) (drop 1 head.words) behind_time

  is_wide : wide head ≡ true
  is_wide = tells_last (listed 0 (names_in names) (name_at names)) (drop 1 head.words) behind_time

  names_count : length (name_words head) ≡ names_in names
  names_count =
      sym (length-map (name_words head) (λ (w : Word). w.bytes))
      ∙ ap length names_are
      ∙ listed_length 0 (names_in names) (name_at names)

  name_at_lem : (i : ℕ) → i < names_in names → (get_or (name_words head) i none).bytes ≡ name_at names i
  name_at_lem i h =
      bytes_at (name_words head) i
      ∙ ap (λ (l : List (List ℕ)). get_or l i []) names_are
      ∙ listed_at 0 (names_in names) i (name_at names) [] h
      ∙ ap (name_at names) (zero-add i)

  new_name : (i : ℕ) → i < names_in names → NewName (name_words head) i
  new_name i h =
      record {
        name = rw (name_at_lem i h) (t.good i h).named;
        new = λ j l e. (t.good i h).new j l (sym (name_at_lem j (omega arith)) ∙ e ∙ name_at_lem i h);
      }

  names_pass : (i : ℕ) → i ≤ names_in names → Passed (names_order (name_words head) i)
  unfolding names_order Passed
  names_pass zero h = tt
  names_pass (suc i) h =
      passed_both (names_order (name_words head) i) _ (names_pass i (omega arith))
      ((λ p a. omega (arith, a.given, t.slots.few)), ((λ p a. a.given (new_name i (omega arith))), tt))

  first_word : (get_or head.words 0 none).bytes ≡ bytes "time"
  unfolding head_words
  first_word = bytes_at head.words 0 ∙ ap (λ (l : List (List ℕ)). get_or l 0 []) said_head

  time_first : same (bytes "time") (bytes "time") ≡ true
  unfolding same bytes
  time_first = refl

  head_pass : Passed (head_order head)
  unfolding head_order Passed
  head_pass = (
    (λ p a. never (sym a.given ∙ ap (λ (w : List ℕ). same w (bytes "time")) first_word ∙ time_first)),
    passed_both (names_order (name_words head) (length (name_words head))) _
        (names_pass (length (name_words head)) (omega (arith, names_count)))
        ((λ p a. omega (arith, a.given, names_count, t.slots.some)), tt),
  )

  abbrev row_at : ℕ → Line
  row_at r = get_or rows r (line [] 0)

  row_said : (r : ℕ) → r < n → said_by (row_at r) ≡ row_words names (names_in names) states (get_or times r 0) r
  row_said r h =
      sym (get_or-map said_by rows r (line [] 0))
      ∙ ap (λ (l : List (List (List ℕ))). get_or l r []) said_rows
      ∙ listed_at 0 n r (λ r. row_words names (names_in names) states (get_or times r 0) r) [] h
      ∙ ap (λ (i : ℕ). row_words names (names_in names) states (get_or times i 0) i) (zero-add r)

  time_word : (r : ℕ) → r < n → (get_or (row_at r).words 0 none).bytes ≡ decimal (get_or times r 0)
  unfolding row_words
  time_word r h = bytes_at (row_at r).words 0 ∙ ap (λ (l : List (List ℕ)). get_or l 0 []) (row_said r h)

  time_read : (r : ℕ) → r < n → time_of_lem (row_at r) ≡ get_or times r 0
  time_read r h = ap (reading 0) (time_word r h) ∙ decimal_read (get_or times r 0) (omega (arith, t.words r))

  states_count : (r : ℕ) → length (state_words (names_in names) states r) ≡ names_in names
  unfolding state_words
  states_count r = listed_length 0 (names_in names) (λ i. letter (row_of (names_in names) states r i) ∷ [])

  state_word_lem : (r i : ℕ) → r < n → i < names_in names
      → (state_word (row_at r) i).bytes ≡ letter (row_of (names_in names) states r i) ∷ []
  unfolding row_words state_words
  state_word_lem r i h l =
      bytes_at (row_at r).words (i + 1)
      ∙ ap (λ (l : List (List ℕ)). get_or l (i + 1) []) (row_said r h)
      ∙ ap
      (λ (j : ℕ). get_or (row_words names (names_in names) states (get_or times r 0) r) j [])
      (add-one i)
      ∙ get_or-append (state_words (names_in names) states r) _ [] i (omega (arith, states_count r))
      ∙ listed_at 0 (names_in names) i (λ i. letter (row_of (names_in names) states r i) ∷ []) [] l
      ∙ ap (λ (j : ℕ). letter (row_of (names_in names) states r j) ∷ []) (zero-add i)

  state_read : (r i : ℕ) → r < n → i < names_in names
      → code_of (state_word (row_at r) i).bytes ≡ row_of (names_in names) states r i
  unfolding code_of
  state_read r i h l = ap code_of (state_word_lem r i h l) ∙ letter_code _ (code_small t r i h l)

  enough_words : (r : ℕ) → r < n → names_in names + 1 < length (row_at r).words
  unfolding row_words
  enough_words r h =
      let k = names_in names in
      omega (
        arith,
        length-map (row_at r).words (λ (w : Word). w.bytes),
        ap length (row_said r h),
        length-append (state_words k states r)
            (decimal (change_count k states r) ∷ picked names (changed k states r) 0 k),
        states_count r,
      )

  states_pass : (r i : ℕ) → r < n → i ≤ names_in names → Passed (states_order (row_at r) i)
  unfolding states_order Passed
  states_pass r zero h l = tt
  states_pass r (suc i) h l =
      passed_both (states_order (row_at r) i) _ (states_pass r i h (omega arith)) (
        (λ p a. omega (arith, a.given, enough_words r h)),
        ((λ p a. omega (arith, a.given, state_read r i h (omega arith), code_small t r i h (omega arith))), tt),
      )

  row_pass : (r : ℕ) → r < n → Passed (row_order (length (name_words head)) (wide head) rows r)
  unfolding row_order Passed
  row_pass r h = (
    (λ p a. omega (arith, a.given, t.lists.few)),
    (
      (λ p a.
          never (sym a.given ∙ ap is_time (time_word r h) ∙ decimal_time (get_or times r 0) (t.words r))),
      (
        (λ p a.
            let e : suc (r - 1) ≡ r = omega (arith, a.given.0) in
            omega (
              arith,
              a.given.1,
              time_read r h,
              time_read (r - 1) (omega arith),
              rw e at (t.rising (r - 1) (omega arith)),
            )),
        passed_both (states_order (row_at r) (length (name_words head))) _
            (states_pass r (length (name_words head)) h (omega (arith, names_count)))
            ((λ p a. never (sym a.given.0 ∙ is_wide)), tt),
      ),
    ),
  )

  rows_pass : (r : ℕ) → r ≤ n → Passed (rows_order (length (name_words head)) (wide head) rows r)
  unfolding rows_order Passed
  rows_pass zero h = tt
  rows_pass (suc r) h =
      passed_both (rows_order (length (name_words head)) (wide head) rows r) _ (rows_pass r (omega arith))
      (row_pass r (omega arith))

  rows_count : length rows ≡ n
  rows_count =
      sym (length-map rows said_by)
      ∙ ap length said_rows
      ∙ listed_length 0 n (λ r. row_words names (names_in names) states (get_or times r 0) r)

  pub said_passes : (size : ℕ) → Passed (said_order size (head ∷ rows))
  unfolding said_order Passed
  said_passes size =
      passed_both (head_order head) _ head_pass
      (passed_both (rows_order (length (name_words head)) (wide head) rows (length rows)) _
      (rows_pass (length rows) (omega (arith, rows_count)))
      ((λ p a. omega (arith, a.given, rows_count, t.lists.some)), tt))

  pub said_names : names_made head ≡ names
  unfolding names_made slot
  said_names =
      let k = names_in names in
      ap joined
      (sym (map-map slot_of (λ (w : Word). w.bytes) (name_words head))
      ∙ ap (map slot_of) names_are
      ∙ map_listed slot_of 0 k (name_at names)
      ∙ listed_same (λ i. slot_of (name_at names i)) (slot names) 0 k
      (λ i l j. sym (t.good i (omega arith)).filled))
      ∙ chunks_whole names 32 k (omega (arith, t.slots.whole))

  pub said_times : times_made rows ≡ times
  unfolding times_made reading
  said_times =
      ext_get_or 0 (map time_of_lem rows) times
      (length-map rows time_of_lem ∙ rows_count ∙ sym t.lists.times_all)
      (λ r h. get_or-map time_of_lem rows r (line [] 0)
      ∙ time_read r (omega (arith, h, length-map rows time_of_lem, rows_count)))

  abbrev codes_at : Line → List ℕ
  codes_at row = listed 0 (names_in names) (λ i. code_of (state_word row i).bytes)

  codes_at_lem : (r : ℕ) → r < n → codes_at (row_at r) ≡ take (names_in names) (drop (r * names_in names) states)
  codes_at_lem r h =
      let k = names_in names in
      listed_same (λ i. code_of (state_word (row_at r) i).bytes) (row_of k states r) 0 k
      (λ i l j. state_read r i h (omega arith))
      ∙ listed_part states (r * k) 0 k (omega (arith, room_for r n k h, t.lists.states_all))
      ∙ ap (λ (p : ℕ). take k (drop p states)) (add-zero (r * k))

  pub said_states : states_made (length (name_words head)) rows ≡ states
  unfolding states_made
  said_states =
      let k = names_in names in
      let parts : map codes_at rows ≡ listed 0 n (λ r. take k (drop (r * k) states)) =
      ext_get_or (codes_at (line [] 0)) (map codes_at rows) (listed 0 n (λ r. take k (drop (r * k) states)))
      (length-map rows codes_at ∙ rows_count ∙ sym (listed_length 0 n (λ r. take k (drop (r * k) states))))
      (λ r h.
      let l : r < n = omega (arith, h, length-map rows codes_at, rows_count) in
      get_or-map codes_at rows r (line [] 0)
      ∙ codes_at_lem r l
      ∙ ap (λ (i : ℕ). take k (drop (i * k) states)) (sym (zero-add r))
      ∙ sym (listed_at 0 n r (λ r. take k (drop (r * k) states)) (codes_at (line [] 0)) l)) in
      ap (λ (m : ℕ). states_made m rows) names_count ∙ ap joined parts
      ∙ chunks_whole states k n t.lists.states_all
