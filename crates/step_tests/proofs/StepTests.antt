-- The tests of a step, by the last byte of the expression: what is asked of its operands' steps holds, and what they
-- write is the step.
-- Main names: exact, part, pins_last; edge_fits, edge_pins, edge_put; before_placing, condition_placing, held_fits,
-- held_put.
use Prim.Native.Nat.{ℕ, zero, suc, ◌+◌, ◌-◌, ◌<◌, ◌≤◌}
use native.Mathlib.Omega.{arith}
use mathlib.Core.Path.{◌≡◌, refl, ap, sym, ◌∙◌}
use mathlib.Core.List.{List, [], ◌∷◌, ◌++◌}
use lib.ListN.{length, get_or, length-append}
use Rattle.alf.specs.Expressions.{Boolean, name, the, Edge, pair, Vector, edge, while, Side, on_right, on_left}
use Rattle.alf.specs.Bytes.{edge_number, half_number}
use Rattle.alf.specs.Decoder.{edge_at}
use Rattle.alf.specs.Alternatives.{test, Step, conditioned, alternatives, steps_of}
use Rattle.alf.proofs.Steps.{conditioned_length}
use Rattle.alf.proofs.OperatorBytes.{edge_byte}
use Rattle.alf.proofs.StackTops.{edge_top}
use Rattle.alf.proofs.Parts.{made_last}
use Rattle.basics.proofs.Entries.{get_d_map}
use Rattle.acceptance.proofs.CappedCounts.{number_edge}
use Rattle.alf.proofs.Growth.{while_part}
use Rattle.trees.specs.Parts.{EndsVector, vector_at, Start}
use Rattle.trees.proofs.Vectors.{Conditioned, edge_is, before_is, vector_pos}
use Rattle.steady_pins.specs.Pinned.{pin_tests}
use Rattle.steady_pins.proofs.PinnedAlternatives.{placed_length}
use Rattle.acceptance.specs.Sizes.{alternative_at, Chosen, ShapedAt}
use Rattle.acceptance.proofs.Measures.{chosen_there}
use Rattle.acceptance.proofs.Chosen.{before_chosen, condition_chosen}
use Rattle.step_tests.specs.Steps.{step_at, Placing, Put, Fits, OnePut, PinsFit}
use Rattle.step_tests.proofs.Placing.{edge_step, before_step, condition_step}
use Rattle.step_tests.proofs.Puts.{put_one, put_then, put_lengths, one_lengths, long}

-- a part's longest alternative is no longer than the whole's
while_short : (s : Side) (p : Vector) (c : Boolean) → steps_of (while s p c) ≤ 64 → steps_of p ≤ 64
unfolding steps_of
while_short s p c l = omega (arith, (while_part s p c).steps)

-- so its steps are counted exactly
pub exact : {pins t : List ℕ} {names end a s n : ℕ} → steps_of (vector_at t names end) ≤ 64
    → ShapedAt pins t names end a s n → length (alternative_at name pins t names end a) ≡ s
unfolding steps_of
exact {pins} {t} {names} {end} {a} l g =
    let e = long (alternatives (vector_at t names end)) a in
    let d = placed_length name pins end (vector_at t names end) a in
    omega (arith, (g.given name).steps_is)

-- a condition adds no step
while_length : (s : Side) (p : Vector) (c : Boolean) (a : ℕ) → a < length (alternatives p)
    → length (get_or (alternatives (while s p c)) a []) ≡ length (get_or (alternatives p) a [])
unfolding alternatives
while_length s p c a l =
    ap length (get_d_map (conditioned c) (alternatives p) a [] [] l)
    ∙ conditioned_length c (get_or (alternatives p) a [])

while_there : (s : Side) (p : Vector) (c : Boolean) (a j : ℕ) → a < length (alternatives p)
    → j < length (get_or (alternatives (while s p c)) a []) → j < length (get_or (alternatives p) a [])
while_there s p c a j l k = let e = while_length s p c a l in omega arith

-- an edge has one step
one_step : (e : Edge) (c : Boolean) (a : ℕ) → length (get_or (alternatives (edge e c)) a []) ≤ 1
unfolding alternatives
one_step e c zero = omega arith
one_step e c (suc a) = omega arith

edge_short : (t : List ℕ) (names end a : ℕ) → EndsVector t names end → 64 ≤ get_or t (end - 1) 0
    → length (get_or (alternatives (vector_at t names end)) a []) ≤ 1
edge_short t names end a h k = rw (edge_is t names end h k) (one_step _ _ a)

-- the test that a condition adds
abbrev pub held : ℕ → Step
held m = test (pair (the 1) (the 1)) (name m) ∷ []

module _ {s whole : Step} {m from next : ℕ} {edges operands edges' operands' : List ℕ}
    (e : whole ≡ s ++ held m)
    (p : Put s from edges operands next edges' operands') where
  pub held_fits : m < 65536 → from + length whole ≤ length edges → from + length whole ≤ length operands
      → Fits m edges' operands' next
  held_fits k l u =
      let (a, b) = put_lengths p in
      let d = ap length e ∙ length-append s (held m) in
      record {
        small = k;
        edges_room = omega (arith, p.next_is);
        operands_room = omega (arith, p.next_is);
      }

  pub held_put : {last : ℕ} {edges'' operands'' : List ℕ}
      → OnePut 20 m next edges' operands' last edges'' operands''
      → Put whole from edges operands last edges'' operands''
  unfolding edge_number half_number
  held_put q = rw e (put_then p (put_one refl q))

module _ {pins t : List ℕ} {names end a j : ℕ} {edges operands : List ℕ} {from : ℕ}
    (h : Placing pins t names end a j edges operands from) where
  -- a part's step, where the whole step is it and some more
  pub part : {m b i : ℕ} (u : Step) → Chosen t names m b → steps_of (vector_at t names m) ≤ 64
      → step_at pins t names end a j ≡ step_at pins t names m b i ++ u
      → Placing pins t names m b i edges operands from
  part {m} {b} {i} u c l e =
      let d = ap length e ∙ length-append (step_at pins t names m b i) u in
      record {
        chosen = c;
        short = l;
        few = h.few;
        long = h.long;
        edges_room = omega (arith, h.edges_room);
        operands_room = omega (arith, h.operands_room);
      }

  -- the pins' tests come last
  pub pins_last : (s : Step) {n last : ℕ} {edges' operands' : List ℕ} → n ≤ 32
      → step_at pins t names end a j ≡ s ++ pin_tests name pins n end
      → last ≡ from + length s → length edges' ≡ length edges → length operands' ≡ length operands
      → PinsFit pins end n edges' operands' last
  pins_last s {n} l e d x y =
      let k = ap length e ∙ length-append s (pin_tests name pins n end) in
      record {
        entries =
            record {
              long = h.long;
              some = vector_pos t names end h.chosen.ends;
              few = omega (arith, h.few, h.chosen.ends.within);
            };
        upto = l;
        edges_room = omega (arith, h.edges_room);
        operands_room = omega (arith, h.operands_room);
      }

  module _ (k : 64 ≤ get_or t (end - 1) 0) (l : j < length (alternative_at name pins t names end a)) where
    abbrev one : Step
    one = test (edge_at (get_or t (end - 1) 0 - 64)) (name (end - 1)) ∷ []

    edge_whole : step_at pins t names end a j ≡ one ++ pin_tests name pins 32 end
    edge_whole =
        let n = rw (edge_is t names end h.chosen.ends k, number_edge) at h.chosen.there in
        let d = placed_length name pins end (vector_at t names end) a in
        let s = edge_short t names end a h.chosen.ends k in
        edge_step pins t names end a j h.chosen.ends k n (omega arith)

    pub edge_fits : Fits (end - 1) edges operands from
    edge_fits =
        let e = ap length edge_whole in
        record {
          small = omega (arith, h.few, h.chosen.ends.within);
          edges_room = omega (arith, h.edges_room);
          operands_room = omega (arith, h.operands_room);
        }

    module _ {next : ℕ} {edges' operands' : List ℕ}
        (q : OnePut (get_or t (end - 1) 0 - 64) (end - 1) from edges operands next edges' operands') where
      pub edge_pins : PinsFit pins end 32 edges' operands' next
      edge_pins =
          let (x, y) = one_lengths q in
          pins_last one (omega arith) edge_whole q.next_is x y

      pub edge_put : {last : ℕ} {edges'' operands'' : List ℕ}
          → Put (pin_tests name pins 32 end) next edges' operands' last edges'' operands''
          → Put (step_at pins t names end a j) from edges operands last edges'' operands''
      edge_put r =
          let u = edge_top names _ (made_last t names end (vector_pos t names end h.chosen.ends)) h.chosen.ends.whole k in
          let e = edge_byte k u.small in rw edge_whole (put_then (put_one (omega arith) q) r)

  -- c & P, and P & c
  module _ {m : ℕ} (s : Start t names (end - 1) m) (k : get_or t (end - 1) 0 ≡ 57)
      (o : j < length (alternative_at name pins t names end a)) where
    before_there : j < length (get_or (alternatives (vector_at t names (end - 1))) a [])
    before_there =
        while_there on_left _ _ a j (chosen_there (before_chosen t names end a h.chosen k))
        (rw (before_is t names end h.chosen.ends k) at (rw (placed_length name pins end _ a) at o))

    pub before_same : length (alternative_at name pins t names (end - 1) a)
        ≡ length (alternative_at name pins t names end a)
    before_same =
        let e = while_length on_left _ _ a (chosen_there (before_chosen t names end a h.chosen k)) in
        placed_length name pins (end - 1) (vector_at t names (end - 1)) a
        ∙ sym (placed_length name pins end (vector_at t names end) a
        ∙ rw (before_is t names end h.chosen.ends k) e)

    pub before_whole : step_at pins t names end a j ≡ step_at pins t names (end - 1) a j ++ held m
    before_whole =
        before_step pins t names end a j h.chosen.ends k s
        (chosen_there (before_chosen t names end a h.chosen k)) before_there

    pub before_placing : Placing pins t names (end - 1) a j edges operands from
    before_placing =
        part (held m) (before_chosen t names end a h.chosen k)
        (while_short on_left _ _ (rw (before_is t names end h.chosen.ends k) at h.short)) before_whole

  module _ {m : ℕ} (s : Start t names (end - 1) m) (c : Conditioned t names end m)
      (o : j < length (alternative_at name pins t names end a)) where
    condition_there : j < length (get_or (alternatives (vector_at t names m)) a [])
    condition_there =
        while_there on_right _ _ a j (chosen_there (condition_chosen t names end a h.chosen c))
        (rw c.is at (rw (placed_length name pins end _ a) at o))

    pub condition_same : length (alternative_at name pins t names m a) ≡ length (alternative_at name pins t names end a)
    condition_same =
        let e = while_length on_right _ _ a (chosen_there (condition_chosen t names end a h.chosen c)) in
        placed_length name pins m (vector_at t names m) a
        ∙ sym (placed_length name pins end (vector_at t names end) a ∙ rw c.is e)

    pub condition_whole : step_at pins t names end a j ≡ step_at pins t names m a j ++ held (end - 1)
    condition_whole =
        condition_step pins t names end a j h.chosen.ends c s
        (chosen_there (condition_chosen t names end a h.chosen c)) condition_there

    pub condition_placing : Placing pins t names m a j edges operands from
    condition_placing =
        part (held (end - 1)) (condition_chosen t names end a h.chosen c)
        (while_short on_right _ _ (rw c.is at h.short)) condition_whole
