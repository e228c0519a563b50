-- What a push comes to, step by step.
--   rows_fit              16 rows of 32 names
--   held_length           the states of the rows kept
--   laid                  a row behind what is kept
--   keeps_all, keeps_last     the last k rows are all, or all but the first
--   push_length, push_row, push_keep, pushes     what a push asks of its parts, and what it promises
--   push_again            after a push the queue may be pushed again
use mathlib.Core.Path.{◌≡◌, refl, ap, sym, ◌∙◌, subst}
use mathlib.Core.List.{List, ◌++◌, append_assoc}
use Prim.Native.Nat.{ℕ, suc, ◌+◌, ◌-◌, ◌*◌, ◌<◌, ◌≤◌}
use native.Mathlib.Numerals.{add-one}
use native.Mathlib.Nat.{zero-mul, one-mul, suc-mul, mul-le-mul_left, mul-le-mul_right}
use native.Mathlib.Omega.{arith}
use lib.ListN.{length, take, drop, replicate, length-append, length-drop, length-replicate}
use lib.Seq.{length-take-le, take_all, take_at}
use Rattle.alf.specs.declared.Rules.{Rules}
use Rattle.alf.specs.declared.Answer.{Answer}
use Rattle.basics.specs.Words.{greatest_of}
use Rattle.alf.specs.Values.{state_at}
use Rattle.alf.specs.Alternatives.{Alternative}
use Rattle.alternatives.specs.InMemory.{alternatives_of_lem}
use Rattle.matcher.specs.Answers.{RowAsked, Matches}
use Rattle.queue.specs.declared.queues.Queue.{Queue}
use Rattle.states.specs.FirstBadCode.{Codes}
use Rattle.basics.specs.Memory.{placed, Put}
use Rattle.basics.specs.Memory as memory
use Rattle.basics.proofs.Stores.{sets_length, put_placed}
use Rattle.queue.specs.Queues.{held_of, trace_of, last_rows, stored, LayAsked}
use Rattle.queue.specs.Queues.{KeepAsked, Keeps, Room, PushAsked, Pushes}
use Rattle.alternatives.specs.InMemory.{longest_of}
use Rattle.states.proofs.CodeLists.{codes_append, codes_drop}
use Rattle.queue.proofs.LastRows.{last_length, held_stored}
use Rattle.alternatives.proofs.Longest.{longest_is}

pub rows_fit : {names : ℕ} (rows : ℕ) → rows ≤ 16 → names ≤ 32 → rows * names ≤ 512
rows_fit {names} rows h k = omega (arith, mul-le-mul_right names h, mul-le-mul_left 16 k)

pub held_length : {names : ℕ} (q : Queue) → q.kept.0 ≤ 16 → names ≤ 32 → length q.states ≡ 512
    → length (held_of names q) ≡ q.kept.0 * names
held_length {names} q h k l = length-take-le (q.kept.0 * names) q.states (omega (arith, rows_fit q.kept.0 h k))

-- what is kept, and a row behind it, put one after the other
module _ {names : ℕ} {q : Queue} {row : List ℕ} (asked : LayAsked names q row) (whole : length q.states ≡ 512) where
  abbrev held : List ℕ
  held = held_of names q

  held_room : (z : List ℕ) → length z ≡ 544 → memory.Room z 0 held
  held_room z e =
      let l = held_length q asked.kept asked.most whole in
      omega (arith, rows_fit q.kept.0 asked.kept asked.most)

  row_room : (z : List ℕ) → length z ≡ 544 → memory.Room z (q.kept.0 * names) row
  row_room z e = omega (arith, rows_fit q.kept.0 asked.kept asked.most, asked.full, asked.most)

  pub put_held : memory.Room (replicate 544 0) 0 held
  put_held = held_room (replicate 544 0) (length-replicate {A = ℕ} 544 0)

  module _ {first : List ℕ} {a : ℕ} (p : Put (replicate 544 0) 0 held first a) where
    first_length : length first ≡ 544
    first_length = ap length p.bytes ∙ sets_length (replicate 544 0) 0 held ∙ length-replicate {A = ℕ} 544 0

    pub put_row_lem : memory.Room first (q.kept.0 * names) row
    put_row_lem = row_room first first_length

    pub put_both : {work : List ℕ} {b : ℕ} → Put first (q.kept.0 * names) row work b
        → work ≡ placed (placed (replicate 544 0) 0 held) (q.kept.0 * names) row
    put_both r =
        put_placed r put_row_lem
        ∙ ap (λ (l : List ℕ). placed l (q.kept.0 * names) row) (put_placed p put_held)

pub laid : (z held row : List ℕ) (a b : ℕ) → length held ≡ a → length row ≡ b
    → take (a + b) (placed (placed z 0 held) a row) ≡ held ++ row
unfolding placed
laid z held row a b h k =
    let e = length-append held row in
    ap (λ (l : List ℕ). take (a + b) (l ++ (row ++ drop (a + length row) (held ++ drop (0 + length held) z))))
    (take_at held (drop (0 + length held) z) a h)
    ∙ ap (take (a + b)) (sym (append_assoc held row (drop (a + length row) (held ++ drop (0 + length held) z))))
    ∙ take_at (held ++ row) (drop (a + length row) (held ++ drop (0 + length held) z)) (a + b) (omega arith)

module _ {trace : List ℕ} {names kept k : ℕ} (asked : KeepAsked trace names kept k) where
  pub trace_fits : kept < k → length trace ≤ 512
  trace_fits l =
      let e = rows_fit (suc kept) (omega (arith, asked.few)) asked.most in
      omega (arith, asked.full, suc-mul kept names)

  -- the part from the second row on
  pub rest_is : take (length trace - names) (drop names trace) ≡ drop names trace
  rest_is = take_all (length trace - names) (drop names trace) (omega (arith, length-drop names trace))

  pub rest_fits : length (take (length trace - names) (drop names trace)) ≤ 512
  rest_fits =
      let e = rows_fit kept (omega (arith, asked.few, asked.held)) asked.most in
      rw rest_is (omega (arith, asked.full, length-drop names trace))

  pub keeps_all : {q : Queue} → kept < k → q.kept.0 ≡ kept + 1 → q.states ≡ stored trace
      → Keeps trace names kept k q
  unfolding last_rows
  keeps_all {q} l n s =
      let e : kept + 1 - k ≡ 0 = omega arith in
      record { number = omega arith; states = rw (e, zero-mul) s }

  pub keeps_last : {q : Queue} → k ≤ kept → q.kept.0 ≡ kept
      → q.states ≡ stored (take (length trace - names) (drop names trace))
      → Keeps trace names kept k q
  unfolding last_rows
  keeps_last {q} l n s =
      let e : kept + 1 - k ≡ 1 = omega (arith, asked.held) in
      record { number = omega (arith, asked.held); states = rw (e, one-mul, ← rest_is) s }

module _ {tree : List ℕ} {names : ℕ} {steps tests edges operands : List ℕ} {q : Queue} {row : List ℕ}
    (asked : PushAsked tree names steps tests edges operands q row) where
  abbrev end : ℕ
  end = q.kept.0 * names + names

  kept_few : q.kept.0 ≤ 16
  kept_few = omega (arith, asked.room.kept, asked.room.few)

  pub end_fits : end ≤ 544
  end_fits = omega (arith, rows_fit q.kept.0 kept_few asked.room.most, asked.room.most)

  module _ {work : List ℕ} (whole : length q.states ≡ 512)
      (is : work ≡ placed (placed (replicate 544 0) 0 (held_of names q)) (q.kept.0 * names) row) where
    held_is : length (held_of names q) ≡ q.kept.0 * names
    held_is = held_length q kept_few asked.room.most whole

    trace_is : take end work ≡ trace_of names q row
    trace_is = rw is (laid (replicate 544 0) (held_of names q) row (q.kept.0 * names) names held_is asked.full)

    trace_length : length (trace_of names q row) ≡ end
    trace_length = length-append (held_of names q) row ∙ omega (arith, held_is, asked.full)

    pub push_length : end ≡ length (take end work)
    push_length = sym (ap length trace_is ∙ trace_length)

    pub push_row : RowAsked tree names (take end work) steps tests edges operands q.kept.0
    push_row =
        rw trace_is
        (record {
          shape = asked.shape;
          rows =
              record {
                some = asked.room.some;
                most = asked.room.most;
                few = omega (arith, kept_few);
                room = omega (arith, trace_length);
                codes = codes_append (held_of names q) row asked.room.codes asked.codes;
              };
        })

    abbrev xs : List Alternative
    xs = alternatives_of_lem tree names steps tests edges operands

    -- after a push the queue keeps at most K rows of codes, so it may be pushed again
    pub push_again : {ρ : Rules} {a : Answer} {t : ℕ} {q' : Queue} → Pushes ρ names xs q row a t q'
        → Room names (greatest_of (λ n. n) steps) q'
    unfolding last_rows
    push_again {ρ} {q' = q'} p =
        let kept = q.kept.0 in
        let trace = trace_of names q row in
        let e = longest_is asked.shape in
        let rest = last_rows names (longest_of xs) (kept + 1) trace in
        let l = last_length names (longest_of xs) (kept + 1) trace (trace_length ∙ sym (next_row kept))
        ∙ ap (λ (j : ℕ). j * names) (sym p.kept) in
        let held = ap (take (q'.kept.0 * names)) p.states ∙ held_stored rest (q'.kept.0 * names) l in
        record {
          some = asked.room.some;
          most = asked.room.most;
          few = asked.room.few;
          kept = omega (arith, p.kept, e);
          codes =
              subst Codes (sym held)
              (codes_drop ((kept + 1 - longest_of xs) * names) trace
              (codes_append (held_of names q) row asked.room.codes asked.codes));
        }
      where
        next_row : (m : ℕ) → (m + 1) * names ≡ m * names + names
        next_row m = rw (add-one, suc-mul) refl

    module _ {k : ℕ} (longest : k ≡ greatest_of (λ n. n) steps) where
      pub push_keep : KeepAsked (take end work) names q.kept.0 k
      push_keep =
          record {
            most = asked.room.most;
            few = omega (arith, asked.room.few, longest);
            held = omega (arith, asked.room.kept, longest);
            full = sym push_length;
          }

      pub pushes : {ρ : Rules} {a : Answer} {t : ℕ} {q' : Queue}
          → Matches (state_at ρ names (take end work)) xs q.kept.0 a t
          → Keeps (take end work) names q.kept.0 k q' → Pushes ρ names xs q row a t q'
      pushes m g =
          let l = longest ∙ longest_is asked.shape in
          record { matched = rw trace_is at m; kept = rw l at g.number; states = rw (trace_is, l) at g.states }
