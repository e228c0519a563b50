-- Rows, copied one after the other.
--   Filling, filling_first, filling_in, filling_room, filling_timed, filling_next, filled_all
use Rattle.std.specs.Prelude.{Option, Some, None, is_some}
use Prim.Native.Nat.{ℕ, suc, ◌+◌, ◌<◌, ◌≤◌}
use native.Mathlib.Omega.{arith}
use native.Mathlib.Numerals.{add-one}
use mathlib.Core.Path.{◌≡◌, refl, sym, ap, ◌∙◌}
use mathlib.Core.Bool.{true}
use mathlib.Core.Logic.{◌⊎◌, inl, inr}
use mathlib.Core.List.{List, [], ◌∷◌, map}
use lib.ListN.{length, get_or, drop, set, length-drop, length-map, get_or-map, drop_of_length-le}
use lib.Seq.{drop-cons, drop-drop}
use Rattle.basics.specs.Memory.{Put}
use Rattle.basics.proofs.Bools.{below?, never}
use Rattle.basics.proofs.Stores.{Writing, writing_first, writing_next_front, writing_front, writing_length}
use Rattle.basics.proofs.PartByPart.{Going, going_start, going_room, going_on, going_end, put_front}
use Rattle.figures.specs.Numbers.{reading}
use Rattle.trace_texts.specs.Words.{Line, line}
use Rattle.trace_texts.specs.Texts.{none, is_time, time_of_lem, times_made, states_made}
use Rattle.trace_texts.specs.Finding.{from, said_from, Passes, Next}
use Rattle.trace_texts.proofs.WordOf.{drop_first}
use Rattle.trace_texts.proofs.OnAndOn.{said_here, said_none, said_on, some_word}
use Rattle.text_checks.specs.Inner.{ReadsTime}
use Rattle.text_rows.specs.Rows.{TimeIn, TimedAt}
use Rattle.text_copies.specs.Copies.{CodesFit, RowsFit, RowsMade, codes_at}
use Rattle.text_copies.proofs.Copying.{joined_flat, codes_long}

abbrev no_line : Line
no_line = line [] 0

-- the first r rows are copied
pub record Filling (text : List ℕ) (p k n r at to : ℕ) (times₀ times states₀ states : List ℕ) : Type 0 where
  pub within : r ≤ n
  pub before : ℕ
  pub next : Next text before at
  pub left : drop r (said_from text p) ≡ said_from text at
  pub writing : Writing times₀ 0 (times_made (said_from text p)) times r
  pub going :
      Going states₀ 0 (states_made k (said_from text p)) (map (codes_at k) (drop r (said_from text p))) states to

pub times_long : (rows : List Line) → length (times_made rows) ≡ length rows
unfolding times_made
times_long rows = length-map rows time_of_lem

time_at_lem : (rows : List Line) (r : ℕ) → get_or (times_made rows) r 0 ≡ time_of_lem (get_or rows r no_line)
unfolding times_made reading
time_at_lem rows r = get_or-map time_of_lem rows r no_line

pub filling_first : {text : List ℕ} {p k n at : ℕ} {times states : List ℕ} → RowsFit text p k n times states
    → Next text p at → Filling text p k n 0 at 0 times times states states
unfolding states_made
filling_first {text} {p} {k} f x =
    record {
      within = omega arith;
      before = p;
      next = x;
      left = x.same_said;
      writing = writing_first;
      going =
          going_start (map (codes_at k) (said_from text p)) (joined_flat (map (codes_at k) (said_from text p)))
          (omega (arith, f.states_room));
    }

module _ {text : List ℕ} {p k n r at to : ℕ} {times₀ times states₀ states : List ℕ}
    (f : RowsFit text p k n times₀ states₀) (g : Filling text p k n r at to times₀ times states₀ states) where
  abbrev rows : List Line
  rows = said_from text p

  pub filled_all : n ≤ r → RowsMade k rows times₀ states₀ times states
  filled_all h =
      let nothing : drop r rows ≡ [] = drop_of_length-le rows {i = r} (omega (arith, h, f.counted)) in
      let whole = rw nothing at g.going in
      record {
        times_now = writing_front g.writing (omega (arith, h, f.counted, times_long rows)) f.times_room;
        states_now = put_front (going_end whole) f.states_room;
      }

  module _ (h : r < n) where
    inside : at < length text
    inside = go (below? at (length text))
      where
        go : (at < length text) ⊎ (length text ≤ at) → at < length text
        go (inl l) = l
        go (inr l) =
            absurd (omega (
              arith,
              h,
              f.counted,
              length-drop r rows,
              ap length (g.left ∙ said_none text at l),
            ))

    here : (r < length rows) × (get_or rows r no_line ≡ (from text at).first)
    here = drop_first no_line rows r (sym (g.left ∙ said_here g.next inside))

    pub filling_in : TimeIn text at
    filling_in = record { within = g.next.within; some = some_word g.next inside }

    turn : Going states₀ 0 (states_made k rows) (codes_at k (from text at).first ∷ map (codes_at k) (drop (suc r) rows))
        states to
    turn =
        let split : drop r rows ≡ get_or rows r no_line ∷ drop (suc r) rows = drop-cons rows r no_line here.0 in
        let going = rw split at g.going in
        rw here.1 at going

    pub filling_room : CodesFit text at k states to
    filling_room =
        record {
          within = g.next.within;
          few = f.few;
          room = omega (arith, going_room turn, codes_long k (from text at).first);
        }

    pub filling_times : r < length times
    filling_times = omega (arith, writing_length g.writing, f.times_room, times_long rows, here.0)

    timely : is_time (get_or (from text at).first.words 0 none).bytes ≡ true
    timely = sym (ap (λ (l : Line). is_time (get_or l.words 0 none).bytes) here.1) ∙ f.timely r h

    module _ {a : ℕ} (o : Option ℕ) (u : TimedAt (from text at).first a o) where
      -- a row's time is one
      pub filling_timed : is_some o ≡ true
      unfolding ReadsTime
      filling_timed = go o u.reads
        where
          go : (o : Option ℕ) → ReadsTime (get_or (from text at).first.words 0 none).bytes o → is_some o ≡ true
          go (Some t) q = refl
          go None q = never (sym q ∙ timely)

      pub filling_next : {t b at' to' : ℕ} {states' : List ℕ} → o ≡ Some t
          → Put states to (codes_at k (from text at).first) states' to' → Passes text at b → Next text b at'
          → Filling text p k n (r + 1) at' to' times₀ (set times r t) states₀ states'
      unfolding ReadsTime
      filling_next {b = b} e put v w =
          let read = rw e at u.reads in
          record {
            within = omega arith;
            before = b;
            next = w;
            left = sym (drop-drop 1 r rows) ∙ ap (drop 1) g.left ∙ said_on g.next inside v w;
            writing =
                writing_next_front g.writing (omega (arith, times_long rows, here.0))
                (read.1 ∙ ap time_of_lem (sym here.1) ∙ sym (time_at_lem rows r));
            going = rw (add-one r) (going_on turn put);
          }
