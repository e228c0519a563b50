-- What each turn of the loops over steps and alternatives asks, and what it comes to.
-- Main names: step_stepping, step_rises, step_small, step_next, steps_added; alternative_adding, alternative_next,
-- alternatives_filled.
use Prim.Native.Nat.{ℕ, ◌+◌, ◌-◌, ◌<◌, ◌≤◌}
use native.Mathlib.Omega.{arith}
use mathlib.Core.Path.{◌≡◌, refl, sym}
use mathlib.Core.List.{List}
use lib.ListN.{length, set}
use Rattle.acceptance.specs.Notes.{Noted}
use Rattle.acceptance.specs.Sizes.{ShapedAt}
use Rattle.step_tests.specs.Steps.{step_at, Placing, Stepping, Put}
use Rattle.rewriting.specs.Lists.{alternatives_by, alternative_of, Ready, Adding, Added, Fillable, Filled}
use Rattle.rewriting.proofs.Bounds.{ready_pins, ready_bounded, few_steps, few_tests, shape_exact}
use Rattle.rewriting.proofs.Bounds.{ready_chosen, ready_short}
use Rattle.rewriting.proofs.Filling.{Counting, counting_room, counting_next}
use Rattle.rewriting.proofs.Filling.{Walking, walking_lengths, walking_room, walking_next, walking_end}
use Rattle.rewriting.proofs.Filling.{Filling, filling_lengths, filling_room, filling_next, filling_end}

-- the lengths of the lists
module _ {pins tree : List ℕ} {names : ℕ} (a : Ready pins tree names) {s n t : ℕ}
    (g : Counting (alternatives_by pins tree names) s n t) {x y : ℕ}
    (h : ShapedAt pins tree names (length tree) t x y) (l : t < length (alternatives_by pins tree names)) where
  pub counts_small : (s + x ≤ 1024) × (n + y ≤ 4096)
  counts_small =
      let e = shape_exact pins tree names a t h in
      let r = counting_room g l in
      let b = ready_bounded pins tree names a in
      (omega (arith, e.0, r.0, few_steps b), omega (arith, e.1, r.1, few_tests b))

  pub counts_next : Counting (alternatives_by pins tree names) (s + x) (n + y) (t + 1)
  counts_next = let e = shape_exact pins tree names a t h in counting_next g l e.0 e.1

-- the steps of an alternative
module _ {pins tree : List ℕ} {names t n : ℕ} {tests₀ : List ℕ} {s : ℕ} {edges₀ operands₀ : List ℕ}
    {from : ℕ}
    (h : Adding pins tree names t n tests₀ s edges₀ operands₀ from) {tests edges operands : List ℕ} {at j : ℕ}
    (g : Walking (alternative_of pins tree names t) tests₀ s edges₀ operands₀ from tests edges operands at j) where
  module _ (l : j < n) where
    there : j < length (alternative_of pins tree names t)
    there = omega (arith, h.steps)

    step_placing : Placing pins tree names (length tree) t j edges operands at
    step_placing =
        let e = walking_lengths g in
        let r = walking_room g there in
        record {
          chosen = ready_chosen pins tree names h.ready h.there;
          short = ready_short pins tree names h.ready;
          few = h.ready.accepted.tokens;
          long = (ready_pins h.ready).long;
          edges_room = omega (arith, e.1, h.edges_room);
          operands_room = omega (arith, e.2, h.operands_room);
        }

    pub step_stepping : {notes : List ℕ} → Noted pins notes tree names (length tree)
        → Stepping pins notes tree names (length tree) t n j edges operands at
    step_stepping k = record { placing = step_placing; counted = sym h.steps; noted = k }

    module _ {next : ℕ} {edges' operands' : List ℕ}
        (p : Put (step_at pins tree names (length tree) t j) at edges operands next edges' operands') where
      pub step_rises : (from ≤ at) × (at ≤ next)
      step_rises = (omega (arith, g.put.next_is), omega (arith, p.next_is))

      pub step_small : next ≤ from + 64
      step_small =
          let r = walking_room g there in
          omega (arith, p.next_is, (ready_bounded pins tree names h.ready).light t)

      pub step_next : Walking (alternative_of pins tree names t) tests₀ s edges₀ operands₀ from
          (set tests (s + j) (next - at)) edges' operands' next (j + 1)
      step_next = walking_next g there p refl

    pub counts_room : s + j < length tests
    counts_room = omega (arith, h.tests_room, (walking_lengths g).0)

  pub steps_added : n ≤ j → Added pins tree names t tests₀ s edges₀ operands₀ from tests edges operands at
  steps_added l = let e = walking_end g (omega (arith, h.steps)) in record { counts = e.0; put = e.1 }

-- the alternatives
module _ {pins tree : List ℕ} {names : ℕ} {steps₀ tests₀ edges₀ operands₀ : List ℕ}
    (h : Fillable pins tree names steps₀ tests₀ edges₀ operands₀)
    {steps tests edges operands : List ℕ} {s from t : ℕ}
    (g : Filling (alternatives_by pins tree names) steps₀ tests₀ edges₀ operands₀
    steps tests edges operands s from t) where
  module _ (l : t < length (alternatives_by pins tree names)) {n m : ℕ}
      (k : ShapedAt pins tree names (length tree) t n m) where
    steps_is : n ≡ length (alternative_of pins tree names t)
    steps_is = (shape_exact pins tree names h.ready t k).0

    pub steps_small : n < 256
    steps_small = omega (arith, steps_is, (ready_bounded pins tree names h.ready).short t)

    pub steps_room : t < length steps
    steps_room = omega (arith, h.steps_room, (filling_lengths g).0)

    pub alternative_adding : Adding pins tree names t n tests s edges operands from
    alternative_adding =
        let e = filling_lengths g in
        let r = filling_room g l in
        record {
          ready = h.ready;
          there = l;
          steps = steps_is;
          tests_room = omega (arith, r.0, steps_is, e.1, h.tests_room);
          edges_room = omega (arith, r.1, e.2, h.edges_room);
          operands_room = omega (arith, r.1, e.3, h.operands_room);
        }

    pub passed_small : s + n ≤ 1024
    passed_small =
        omega (arith, (filling_room g l).0, steps_is, few_steps (ready_bounded pins tree names h.ready))

    pub alternative_next : {tests' edges' operands' : List ℕ} {next : ℕ}
        → Added pins tree names t tests s edges operands from tests' edges' operands' next
        → Filling (alternatives_by pins tree names) steps₀ tests₀ edges₀ operands₀ (set steps t n) tests'
        edges' operands'
        (s + n) next (t + 1)
    alternative_next p = filling_next g l steps_is p.counts p.put

  pub alternatives_filled : length (alternatives_by pins tree names) ≤ t
      → Filled (alternatives_by pins tree names) steps₀ tests₀ edges₀ operands₀ steps tests edges operands
  alternatives_filled l =
      filling_end g l h.steps_room h.tests_room h.edges_room h.operands_room
