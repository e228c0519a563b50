-- What the first pass over a text returns, and what the second one asks.
--   text_empty, head_in, head_refused, rows_in, rows_refused, text_good     the first pass
--   split, few_both, names_fit_lem, rows_fit                                    what the second pass asks
use Rattle.std.specs.Prelude.{Err, Ok}
use Rattle.trace_reader.specs.Reading.{Reading, size}
use Prim.Native.Nat.{ℕ, ◌*◌, ◌<◌, ◌≤◌}
use native.Mathlib.Omega.{arith}
use mathlib.Core.Path.{◌≡◌, refl, sym, ap, ◌∙◌}
use mathlib.Core.Bool.{Bool}
use mathlib.Core.List.{List, ◌++◌}
use lib.ListN.{length}
use Rattle.basics.specs.declared.Refusal.{Refusal}
use Rattle.basics.specs.Refusing.{refusal}
use Rattle.basics.proofs.Stable.{le_stable, lt_stable}
use Rattle.alf.specs.Refusals.{Passed, Comes}
use Rattle.alf.proofs.Orders.{plainly, by_first, by_then, passed_both, passed_left, passed_right}
use Rattle.record_copies.proofs.Copying.{name_short}
use Rattle.trace_texts.specs.Words.{Line}
use Rattle.trace_texts.specs.Texts.{name_words, wide, states_made}
use Rattle.trace_texts.specs.Texts.{names_order, head_order, rows_order}
use Rattle.trace_texts.specs.Finding.{from, said_from, Passes, Next}
use Rattle.trace_texts.proofs.OnAndOn.{some_word}
use Rattle.trace_texts.proofs.PassedParts.{one_name, one_row, row_few, row_time_lem}
use Rattle.text_checks.specs.Inner.{LineIn}
use Rattle.text_heads.specs.Heads.{CountsNames, HeadIn}
use Rattle.text_rows.specs.Rows.{lines_order}
use Rattle.text_copies.specs.Copies.{NamesFit, RowsFit}
use Rattle.text_copies.proofs.CopiedRows.{times_long}
use Rattle.text_copies.proofs.Lengths.{names_long, states_long}
use Rattle.text_reading.specs.Reading.{Checked, Checks}
use Rattle.text_reading.proofs.Parted.{Parted, parted, no_head, some_head, few_names}

-- the first pass
module _ {text : List ℕ} {h : ℕ} (n : Next text 0 h) where
  pub text_empty : {r : Reading} → r ≡ Err (refusal 14 h) → h ≡ length text → Checks text r
  unfolding Checks
  text_empty e l = rw e (plainly _ 14 h (no_head n (omega (arith, l))))

  module _ (other : h ≡ length text → ⊥) where
    inside : h < length text
    inside = lt_stable h (length text)
        (λ m. other (omega (arith, le_stable (length text) h (λ f. m (omega arith)), n.within)))

    module _ {k end : ℕ} {passed : Bool} (c : CountsNames (from text h).first k passed end) where
      pub head_in : HeadIn text h k end
      head_in =
          record {
            names = record { within = n.within; counted = c.names };
            some = some_word n inside;
            ends = c.ends;
          }

      module _ {b : ℕ} (behind : Passes text h b) where
        apart : Parted text h b
        apart = parted n inside behind

        same_order : lines_order (length (name_words (from text h).first)) (wide (from text h).first) (length text)
            (said_from text b)
            ≡ lines_order k passed (length text) (said_from text b)
        same_order = rw (sym c.names, sym c.passing) refl

        pub head_refused : (r : Refusal) → Comes (head_order (from text h).first) (λ m. m ≡ k) (Err r)
            → Checks text (Err r)
        unfolding Checks Comes
        head_refused r checked = rw apart.order (by_first _ _ checked)

        module _ (in_head : Passed (head_order (from text h).first)) where
          pub rows_in : LineIn text b k
          rows_in =
              record {
                within = behind.within;
                few = omega (arith, c.names, few_names (from text h).first in_head);
              }

          pub rows_refused : (r : Refusal) → Comes (lines_order k passed (length text) (said_from text b))
              (λ m. m ≡ length (said_from text b)) (Err r) → Checks text (Err r)
          unfolding Checks Comes
          rows_refused r rows =
              rw (apart.order, same_order) (by_then (head_order (from text h).first) _ in_head rows)

          pub text_good : (q : ℕ) → Comes (lines_order k passed (length text) (said_from text b))
              (λ m. m ≡ length (said_from text b)) (Ok q) → Checks text (Ok (size k q))
          unfolding Checks Comes
          text_good q done =
              record {
                passes =
                    rw (apart.order, same_order) (passed_both (head_order (from text h).first) _ in_head done.0);
                named = c.names ∙ ap (λ (l : Line). length (name_words l)) (sym apart.head_is);
                counted = done.1 ∙ ap length (sym apart.rows_are);
              }

-- the second pass, over a text that passed
module _ {text : List ℕ} {k n : ℕ} (g : Checked text k n) where
  module _ {h b : ℕ} (next : Next text 0 h) (behind : Passes text h b) where
    pub split : Parted text h b
    split = parted next (some_head next g.passes) behind

    in_both : Passed (head_order (from text h).first
        ++ lines_order (length (name_words (from text h).first)) (wide (from text h).first) (length text)
        (said_from text b))
    in_both = rw split.order at g.passes

    head_passes : Passed (head_order (from text h).first)
    head_passes = passed_left (head_order (from text h).first) _ in_both

    names_are : k ≡ length (name_words (from text h).first)
    names_are = g.named ∙ ap (λ (l : Line). length (name_words l)) split.head_is

    rows_are : n ≡ length (said_from text b)
    rows_are = g.counted ∙ ap length split.rows_are

    rows_pass : Passed (rows_order (length (name_words (from text h).first)) (wide (from text h).first)
        (said_from text b)
        (length (said_from text b)))
    rows_pass =
        passed_left
        (rows_order (length (name_words (from text h).first)) (wide (from text h).first) (said_from text b)
        (length (said_from text b))) _ (passed_right (head_order (from text h).first) _ in_both)

    pub few_both : (k ≤ 32) × (n ≤ 65535)
    few_both = (
      omega (arith, names_are, few_names (from text h).first head_passes),
      le_stable n 65535
          (λ m.
          let l : 65535 < n = lt_stable 65535 n (λ f. m (omega arith)) in
          omega (
            arith,
            row_few (length (name_words (from text h).first)) (wide (from text h).first) (said_from text b) 65535
                (one_row (length (name_words (from text h).first)) (wide (from text h).first) (said_from text b)
                (length (said_from text b)) 65535 rows_pass (omega (arith, l, rows_are))),
          )),
    )

    pub names_fit_lem : {names : List ℕ} → k * 32 ≤ length names → NamesFit text h k names
    unfolding head_order Passed
    names_fit_lem room =
        let head = (from text h).first in
        let in_names = passed_left (names_order (name_words head) (length (name_words head))) _ head_passes.1 in
        record {
          within = next.within;
          counted = names_are;
          short = λ i l.
              name_short _ (one_name (name_words head) (length (name_words head)) i in_names
              (omega (arith, l, names_are))).1.name;
          room = omega (arith, room, names_long head, names_are);
        }

    pub rows_fit : {times states : List ℕ} → n ≤ length times → n * k ≤ length states
        → RowsFit text b k n times states
    rows_fit t s =
        let rows = said_from text b in
        let long : length (states_made k rows) ≡ n * k = rw (states_long k rows, ← rows_are) refl in
        record {
          within = behind.within;
          few = few_both.0;
          counted = rows_are;
          timely = λ r l.
              row_time_lem (length (name_words (from text h).first)) (wide (from text h).first) rows r
              (one_row (length (name_words (from text h).first)) (wide (from text h).first) rows (length rows) r
              rows_pass
              (omega (arith, l, rows_are)));
          times_room = omega (arith, t, times_long rows, rows_are);
          states_room = omega (arith, s, long);
        }
