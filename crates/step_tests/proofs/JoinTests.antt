-- The tests of a step of two expressions that are joined: those of a step of the left one, of the right one, and of the
-- pins; what is asked of each holds, and what they write is the step.
-- Main names: left_asked, left_stepping, right_stepping, last_pins, join_put; only_stepping, only_pins, only_put.
use Prim.Native.Nat.{ℕ, ◌+◌, ◌-◌, ◌≤◌}
use native.Mathlib.Omega.{arith}
use mathlib.Core.Path.{◌≡◌, ap, ◌∙◌}
use mathlib.Core.Bool.{true}
use mathlib.Core.Logic.{◌⊎◌, inl, inr}
use mathlib.Core.List.{List, ◌++◌, append_assoc}
use lib.ListN.{length, get_or, length-append}
use Rattle.basics.proofs.Bools.{never}
use Rattle.alf.specs.Expressions.{name, Vector, join, Join}
use Rattle.alf.specs.Decoder.{join_at}
use Rattle.alf.specs.Alternatives.{Step, Alternative, number_of_alternatives, steps_of}
use Rattle.alf.proofs.Growth.{join_left, join_right}
use Rattle.trees.specs.Parts.{vector_at, Start}
use Rattle.trees.proofs.Vectors.{Joined}
use Rattle.alternatives.specs.declared.picking.How.{How}
use Rattle.alternatives.specs.declared.picking.How.TheVariants.{Left, Right, LeftFirst, RightFirst, Together}
use Rattle.alternatives.specs.Picks.{put, Picked}
use Rattle.steady_pins.specs.Pinned.{pin_tests}
use Rattle.acceptance.specs.Notes.{Noted}
use Rattle.acceptance.specs.Sizes.{alternative_at, Chosen, ShapedAt}
use Rattle.acceptance.proofs.Numbers.{Number}
use Rattle.acceptance.proofs.Chosen.{left_chosen, right_chosen}
use Rattle.acceptance.proofs.NotedParts.{noted_part}
use Rattle.acceptance.proofs.Shapes.{Only, part_by}
use Rattle.step_tests.specs.Steps.{step_at, Placing, Stepping, LeftAsked, in_turn, Put, Split, PinsFit, entries_at}
use Rattle.step_tests.proofs.Placing.{join_step, join_length, only_step, only_length}
use Rattle.step_tests.proofs.Puts.{put_then, put_lengths}
use Rattle.step_tests.proofs.PinPuts.{entries_few}
use Rattle.step_tests.proofs.StepCases.{placing_shaping}
use Rattle.step_tests.proofs.StepTests.{exact, pins_last, part as part_of}

turn_length : (how : How) (x y : Alternative) → in_turn how ≡ true → length (put how x y) ≡ length x + length y
unfolding put in_turn
turn_length Left x y e = never e
turn_length Right x y e = never e
turn_length LeftFirst x y e = length-append x y
turn_length RightFirst x y e = let l = length-append y x in omega arith
turn_length Together x y e = never e

-- a part's longest alternative is no longer than the whole's
short_left : (j : Join) (p q : Vector) → steps_of (join j p q) ≤ 64 → steps_of p ≤ 64
unfolding steps_of
short_left j p q l = omega (arith, (join_left j p q).steps)

short_right : (j : Join) (p q : Vector) → steps_of (join j p q) ≤ 64 → steps_of q ≤ 64
unfolding steps_of
short_right j p q l = omega (arith, (join_right j p q).steps)

module _ {pins t : List ℕ} {names end a j : ℕ} {edges operands : List ℕ} {from : ℕ}
    (h : Placing pins t names end a j edges operands from) {steps : ℕ}
    (z : length (alternative_at name pins t names end a) ≡ steps) {m x y : ℕ} (s : Start t names (end - 1) m)
    (g : Joined t names end m) (e : Number t names m x) (d : Number t names (end - 1) y) {how : How} {i k : ℕ}
    (p : Picked (join_at (get_or t (end - 1) 0 - 50)) x y a how i k) where
  left : Chosen t names m i
  left = left_chosen t names end a h.chosen g e d p

  right : Chosen t names (end - 1) k
  right = right_chosen t names end a h.chosen g e d p

  left_short : steps_of (vector_at t names m) ≤ 64
  left_short = short_left _ _ _ (rw g.is at h.short)

  right_short : steps_of (vector_at t names (end - 1)) ≤ 64
  right_short = short_right _ _ _ (rw g.is at h.short)

  -- the steps of the left one
  pub left_asked : {notes : List ℕ} {v w : ℕ} → Noted pins notes t names end → ShapedAt pins t names (end - 1) k v w
      → LeftAsked pins notes t names m i how steps v
  unfolding number_of_alternatives
  left_asked n o =
      record {
        shaping = part_by (placing_shaping h) n (omega (arith, s.before)) left;
        short = left_short;
        both = λ q.
            let c = exact right_short o in
            let l = join_length pins t names end a j h.chosen.ends g s p (omega (arith, left.few)) (omega (
              arith,
              right.few,
            )) in
            let b = turn_length how (alternative_at name pins t names m i) (alternative_at name pins t names (end - 1) k)
            q in
            omega (arith, c, l, b, z);
      }

  module _ {u v w l r : ℕ} (f : length (alternative_at name pins t names m i) ≡ u)
      (o : ShapedAt pins t names (end - 1) k v w) (q : Split how u v j l r) where
    abbrev first : Step
    first = step_at pins t names m i l

    abbrev second : Step
    second = step_at pins t names (end - 1) k r

    abbrev third : Step
    third = pin_tests name pins (entries_at steps j) end

    right_counted : length (alternative_at name pins t names (end - 1) k) ≡ v
    right_counted = exact right_short o

    join_whole : step_at pins t names end a j ≡ (first ++ second) ++ third
    unfolding number_of_alternatives
    join_whole =
        join_step pins t names end a j h.chosen.ends g s p (omega (arith, left.few)) (omega (arith, right.few))
        q f right_counted z

    lengths : length (step_at pins t names end a j) ≡ length first + length second + length third
    lengths =
        ap length join_whole ∙ length-append (first ++ second) third
        ∙ ap (λ (n : ℕ). n + length third) (length-append first second)

    left_placing : Placing pins t names m i l edges operands from
    left_placing = part_of h (second ++ third) left left_short (join_whole ∙ append_assoc first second third)

    pub left_stepping : {notes : List ℕ} → Noted pins notes t names end
        → Stepping pins notes t names m i u l edges operands from
    left_stepping n =
        record {
          placing = left_placing;
          counted = f;
          noted = noted_part (omega (arith, s.before)) n;
        }

    module _ {next : ℕ} {edges' operands' : List ℕ}
        (b : Put first from edges operands next edges' operands') where
      right_placing : Placing pins t names (end - 1) k r edges' operands' next
      right_placing =
          let (x, y) = put_lengths b in
          let e = lengths in
          record {
            chosen = right;
            short = right_short;
            few = h.few;
            long = h.long;
            edges_room = omega (arith, h.edges_room, b.next_is);
            operands_room = omega (arith, h.operands_room, b.next_is);
          }

      pub right_stepping : {notes : List ℕ} → Noted pins notes t names end
          → Stepping pins notes t names (end - 1) k v r edges' operands' next
      right_stepping n =
          record { placing = right_placing; counted = right_counted; noted = noted_part (omega arith) n }

      module _ {last : ℕ} {edges'' operands'' : List ℕ}
          (c : Put second next edges' operands' last edges'' operands'') where
        pub last_pins : PinsFit pins end (entries_at steps j) edges'' operands'' last
        last_pins =
            let both = put_then b c in
            let (x, y) = put_lengths both in
            pins_last h (first ++ second) (entries_few steps j) join_whole both.next_is x y

        pub join_put : {behind : ℕ} {edges''' operands''' : List ℕ}
            → Put third last edges'' operands'' behind edges''' operands'''
            → Put (step_at pins t names end a j) from edges operands behind edges''' operands'''
        join_put r = rw join_whole (put_then (put_then b c) r)

-- P | Q: the tests of a step of the operand that the alternative is from, and of the pins
module _ {pins t : List ℕ} {names end a j : ℕ} {edges operands : List ℕ} {from : ℕ}
    (h : Placing pins t names end a j edges operands from) {steps : ℕ}
    (z : length (alternative_at name pins t names end a) ≡ steps) {m part i : ℕ} (s : Start t names (end - 1) m)
    (g : Joined t names end m) (o : Only pins t names end m a part i) where
  only_counted : length (alternative_at name pins t names part i) ≡ steps
  only_counted = only_length pins t names end a j h.chosen.ends g s o ∙ z

  only_short : steps_of (vector_at t names part) ≤ 64
  only_short = go o.operand_of
    where
      go : (part ≡ m) ⊎ (part ≡ end - 1) → steps_of (vector_at t names part) ≤ 64
      go (inl e) = rw e (short_left _ _ _ (rw g.is at h.short))
      go (inr e) = rw e (short_right _ _ _ (rw g.is at h.short))

  only_whole : step_at pins t names end a j
      ≡ step_at pins t names part i j ++ pin_tests name pins (entries_at steps j) end
  only_whole = only_step pins t names end a j h.chosen.ends g s o z

  only_placing : Placing pins t names part i j edges operands from
  only_placing = part_of h (pin_tests name pins (entries_at steps j) end) o.chosen only_short only_whole

  pub only_stepping : {notes : List ℕ} → Noted pins notes t names end
      → Stepping pins notes t names part i steps j edges operands from
  only_stepping n =
      record {
        placing = only_placing;
        counted = only_counted;
        noted = noted_part (omega (arith, o.shorter)) n;
      }

  module _ {next : ℕ} {edges' operands' : List ℕ}
      (b : Put (step_at pins t names part i j) from edges operands next edges' operands') where
    pub only_pins : PinsFit pins end (entries_at steps j) edges' operands' next
    only_pins =
        let (x, y) = put_lengths b in
        pins_last h (step_at pins t names part i j) (entries_few steps j) only_whole b.next_is x y

    pub only_put : {behind : ℕ} {edges'' operands'' : List ℕ}
        → Put (pin_tests name pins (entries_at steps j) end) next edges' operands' behind edges'' operands''
        → Put (step_at pins t names end a j) from edges operands behind edges'' operands''
    only_put r = rw only_whole (put_then b r)
