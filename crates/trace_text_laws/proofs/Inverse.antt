-- The two calls are inverse: what `activity` wrote of a trace, `make_trace` reads as the same lists.
-- Main name: shown_made.
use Rattle.std.specs.Prelude.{Err, Ok}
use Rattle.trace_reader.specs.Reading.{size}
use Prim.Native.Nat.{ℕ}
use native.Mathlib.Omega.{arith}
use mathlib.Core.Path.{◌≡◌, refl, sym, ap, ◌∙◌}
use mathlib.Core.List.{List, [], ◌++◌}
use lib.ListN.{length, get_or, take, drop}
use Rattle.basics.specs.Memory.{after, front}
use Rattle.basics.proofs.Stores.{front_take}
use Rattle.alf.specs.Names.{names_in}
use Rattle.alf.specs.Refusals.{Passed, Comes}
use Rattle.alf.proofs.Orders.{passed_both}
use Rattle.alf.proofs.Outcomes.{refused_passed}
use Rattle.trace_format.specs.Format.{Trace}
use Rattle.trace_reader.specs.Reading.{Reading}
use Rattle.trace_reader.specs.Reading.{room_order}
use Rattle.activity.specs.Activity.{activity_text, ListsActivity}
use Rattle.trace_texts.specs.Words.{Line, line}
use Rattle.trace_texts.specs.Texts.{name_words, names_made, times_made, states_made, text_order}
use Rattle.text_copies.proofs.CopiedRows.{times_long}
use Rattle.text_copies.proofs.Lengths.{names_long}
use Rattle.text_reading.specs.Reading.{head_of, rows_of, name_count, row_count, MakesTrace}
use Rattle.trace_text_laws.proofs.ReadBack.{ReadAs, shown_read}

-- the lists hold the trace at their front, and its size is told
pub record Returns (names times states ns ts ss : List ℕ) (n : ℕ) (r : Reading) (ns' ts' ss' : List ℕ) : Type 0 where
  pub told : r ≡ Ok (size (names_in names) n)
  pub names_back : ns' ≡ front names ns
  pub times_back : ts' ≡ front times ts
  pub states_back : ss' ≡ front states ss

module _ {text names times states : List ℕ} {n : ℕ} (t : Trace names times states n)
    (g : ReadAs text names times states) where
  head_is : head_of text ≡ g.head
  head_is = ap (λ (x : List Line). get_or x 0 (line [] 0)) g.are

  rows_are : rows_of text ≡ g.rows
  rows_are = ap (drop 1) g.are

  names_count : name_count text ≡ names_in names
  names_count =
      let a : length (names_made (head_of text)) ≡ length names = ap (λ (l : Line). length (names_made l)) head_is
      ∙ ap length g.names_read in
      omega (arith, a, names_long (head_of text))

  rows_count : row_count text ≡ n
  rows_count =
      ap length rows_are ∙ sym (times_long g.rows) ∙ ap length g.times_read ∙ t.lists.times_all

  module _ (ns ts ss : List ℕ) (room : Passed (room_order ns ts ss (names_in names) n)) where
    passes : Passed (text_order text ++ room_order ns ts ss (name_count text) (row_count text))
    passes =
        passed_both (text_order text) _ g.passes
        (rw (names_count, rows_count) room)

    pub read_back : {ns' ts' ss' : List ℕ} (r : Reading) → MakesTrace text ns ts ss ns' ts' ss' r
        → Returns names times states ns ts ss n r ns' ts' ss'
    unfolding MakesTrace
    read_back (Err x) m = absurd (refused_passed _ _ _ passes m.0.by)
    read_back (Ok s) m =
        let a : s.names ≡ names_in names = m.named ∙ names_count in
        let b : s.rows ≡ n = m.counted ∙ rows_count in
        record {
          told = λ i. Ok (size (a i) (b i));
          names_back =
              m.names_now ∙ ap (λ (l : Line). front (names_made l) ns) head_is ∙ ap (λ (l : List ℕ). front l ns)
              g.names_read;
          times_back =
              m.times_now ∙ ap (λ (l : List Line). front (times_made l) ts) rows_are
              ∙ ap (λ (l : List ℕ). front l ts) g.times_read;
          states_back =
              m.states_now ∙ ap (λ (l : List Line). front (states_made (name_count text) l) ss) rows_are
              ∙ ap (λ (h : Line). front (states_made (length (name_words h)) g.rows) ss) head_is
              ∙ ap (λ (l : List ℕ). front l ss) g.states_read;
        }

-- what the one call wrote of a trace, the other reads, where there is room
pub shown_made : {names times states : List ℕ} {n : ℕ} → Trace names times states n
    → {out out' : List ℕ} {size : ℕ} → ListsActivity names times states n out out' (Ok size)
    → (ns ts ss : List ℕ) {ns' ts' ss' : List ℕ} (r : Reading) → MakesTrace (take size out') ns ts ss ns' ts' ss' r
    → Passed (room_order ns ts ss (names_in names) n)
    → Returns names times states ns ts ss n r ns' ts' ss'
unfolding Comes after
shown_made {names} {times} {states} {n} t {out} {out'} {size} l ns ts ss r m room =
    let text = activity_text names times states n in
    let written : take size out' ≡ text =
    ap (take size) l.memory ∙ front_take out text size (sym l.outcome.1) in
    let made = rw written at m in
    read_back t (shown_read t) ns ts ss room r made
