-- Step j of alternative a of the expression that ends at a place, with its pins, its operands as places, from its
-- operands' steps.
-- Main names: edge_step, before_step, condition_step, join_step, join_length, only_step, only_length.
use Rattle.std.specs.Prelude.{if◌then◌else◌}
use Prim.Native.Nat.{ℕ, zero, suc, ◌+◌, ◌-◌, ◌<◌, ◌≤◌}
use native.Mathlib.Omega.{arith}
use mathlib.Core.Path.{◌≡◌, refl, ap, ap₂, sym, ◌∙◌}
use mathlib.Core.Bool.{Bool, true, false}
use mathlib.Core.List.{List, [], ◌∷◌, ◌++◌}
use lib.Dec.{eqb}
use lib.ListN.{length, get_or}
use Rattle.alf.specs.Expressions.{Boolean, name, the, Edge, pair, Vector, edge, join, while, Side, on_right, on_left}
use Rattle.alf.specs.Expressions.{Join}
use Rattle.alf.specs.Decoder.{edge_at, join_at}
use Rattle.alf.specs.Alternatives.{test, Step, Alternative, conditioned, alternatives}
use Rattle.trees.specs.Parts.{EndsVector, vector_at, Start}
use Rattle.trees.proofs.Vectors.{Conditioned, Joined, edge_is, before_is, before_ends}
use Rattle.alternatives.specs.declared.picking.How.{How}
use Rattle.alternatives.specs.Picks.{put, Picked}
use Rattle.basics.proofs.Entries.{get_d_map}
use Rattle.steady_pins.specs.Pinned.{pinned, pin_tests, by_places}
use Rattle.steady_pins.proofs.LastSteps.{last_of, last_on}
use Rattle.steady_pins.proofs.PinnedAlternatives.{placed_number, placed_length, pinned_length, pinned_step}
use Rattle.steady_pins.proofs.Starting.{vector_start, boolean_start}
use Rattle.acceptance.specs.Sizes.{alternative_at}
use Rattle.acceptance.proofs.Chosen.{join_at_lem}
use Rattle.acceptance.proofs.Shapes.{Only}
use Rattle.step_tests.specs.Steps.{step_at, Split, entries_at}
use Rattle.step_tests.proofs.Splits.{get_d_conditioned}

-- the steps of an edge, of an expression under a condition, of two that are joined
edge_steps : (e : Edge) (c : Boolean) (a j : ℕ) → a < 1 → j < 1
    → get_or (get_or (alternatives (edge e c)) a []) j [] ≡ test e c ∷ []
unfolding alternatives
edge_steps e c zero zero l k = refl
edge_steps e c zero (suc j) l k = absurd (omega arith)
edge_steps e c (suc a) j l k = absurd (omega arith)

while_steps : (s : Side) (p : Vector) (c : Boolean) (a j : ℕ) → a < length (alternatives p)
    → j < length (get_or (alternatives p) a [])
    → get_or (get_or (alternatives (while s p c)) a []) j []
    ≡ get_or (get_or (alternatives p) a []) j [] ++ (test (pair (the 1) (the 1)) c ∷ [])
unfolding alternatives
while_steps s p c a j l k =
    ap (λ (x : Alternative). get_or x j []) (get_d_map (conditioned c) (alternatives p) a [] [] l)
    ∙ get_d_conditioned c (get_or (alternatives p) a []) j k

placed_while : (pins : List ℕ) (s : Side) (end : ℕ) (p : Vector) (c : Boolean) (a j : ℕ)
    → a < length (alternatives p)
    → j < length (get_or (alternatives p) a [])
    → get_or (get_or (alternatives (while s (by_places name pins end p) c)) a []) j []
    ≡ get_or (get_or (alternatives (by_places name pins end p)) a []) j [] ++ (test (pair (the 1) (the 1)) c ∷ [])
placed_while pins s end p c a j l u =
    while_steps s (by_places name pins end p) c a j (rw (placed_number name pins end p) l)
    (rw (placed_length name pins end p a) u)

join_steps : (o : Join) (p q : Vector) {n m a x y : ℕ} (i k j l r : ℕ) {how : How} → Picked o n m a how i k
    → length (alternatives p) ≡ n → length (alternatives q) ≡ m → Split how x y j l r
    → length (get_or (alternatives p) i []) ≡ x → length (get_or (alternatives q) k []) ≡ y
    → get_or (get_or (alternatives (join o p q)) a []) j []
    ≡ get_or (get_or (alternatives p) i []) l [] ++ get_or (get_or (alternatives q) k []) r []
unfolding alternatives
join_steps o p q i k j l r h e d s u v =
    ap (λ (x : Alternative). get_or x j []) (h.is (alternatives p) (alternatives q) e d)
    ∙ s.is (get_or (alternatives p) i []) (get_or (alternatives q) k []) u v

-- the tests of a part's pins stand behind those of the last step
no_entries : (pins : List ℕ) (end : ℕ) → pin_tests name pins 0 end ≡ []
unfolding pin_tests
no_entries pins end = refl

last_entries : (pins : List ℕ) (end n j : ℕ)
    → last_of (pin_tests name pins 32 end) n j ≡ pin_tests name pins (entries_at n j) end
unfolding last_of entries_at
last_entries pins end n j = go (eqb (j + 1) n)
  where
    go : (b : Bool) → (if b then pin_tests name pins 32 end else []) ≡ pin_tests name pins (if b then 32 else 0) end
    go true = refl
    go false = sym (no_entries pins end)

edge_last : (e : Edge) (c : Boolean) (u : Step) (a j : ℕ) → a < 1 → j < 1
    → get_or (get_or (alternatives (edge e c)) a []) j [] ++ last_of u (length (get_or (alternatives (edge e c)) a [])) j
    ≡ test e c ∷ u
unfolding alternatives
edge_last e c u zero zero l k = ap (◌∷◌ (test e c)) (last_on u 1 0 refl)
edge_last e c u zero (suc j) l k = absurd (omega arith)
edge_last e c u (suc a) j l k = absurd (omega arith)

module _ (pins t : List ℕ) (names end a j : ℕ) (h : EndsVector t names end) where
  pub edge_step : 64 ≤ get_or t (end - 1) 0 → a < 1 → j < 1
      → step_at pins t names end a j
      ≡ test (edge_at (get_or t (end - 1) 0 - 64)) (name (end - 1)) ∷ pin_tests name pins 32 end
  unfolding by_places
  edge_step k l u =
      rw (edge_is t names end h k)
      (pinned_step name pins 32 end (edge _ (name (end - 1))) a j ∙ edge_last _ _ (pin_tests name pins 32 end) a j l u)

  pub before_step : {m : ℕ} → get_or t (end - 1) 0 ≡ 57 → Start t names (end - 1) m
      → a < length (alternatives (vector_at t names (end - 1)))
      → j < length (get_or (alternatives (vector_at t names (end - 1))) a [])
      → step_at pins t names end a j
      ≡ step_at pins t names (end - 1) a j ++ (test (pair (the 1) (the 1)) (name m) ∷ [])
  unfolding by_places
  before_step k s l u =
      rw (before_is t names end h k, vector_start t names (end - 1) (before_ends t names end h k) s)
      (placed_while pins on_left (end - 1) (vector_at t names (end - 1)) _ a j l u)

  pub condition_step : {m : ℕ} → Conditioned t names end m → Start t names (end - 1) m
      → a < length (alternatives (vector_at t names m)) → j < length (get_or (alternatives (vector_at t names m)) a [])
      → step_at pins t names end a j
      ≡ step_at pins t names m a j ++ (test (pair (the 1) (the 1)) (name (end - 1)) ∷ [])
  unfolding by_places
  condition_step {m} c s l u =
      rw (c.is, boolean_start t names (end - 1) c.right s)
      (placed_while pins on_right m (vector_at t names m) _ a j l u)

  module _ {m : ℕ} (g : Joined t names end m) (s : Start t names (end - 1) m) where
    abbrev left : Vector
    left = by_places name pins m (vector_at t names m)

    abbrev right : Vector
    right = by_places name pins (end - 1) (vector_at t names (end - 1))

    abbrev both : Vector
    both = join (join_at (get_or t (end - 1) 0 - 50)) left right

    both_is : by_places name pins end (vector_at t names end) ≡ pinned name pins 32 end both
    unfolding by_places
    both_is = rw (g.is, vector_start t names (end - 1) g.right s) refl

    -- the last step of `both` is that of the whole
    last_step : {steps : ℕ} → length (get_or (alternatives (by_places name pins end (vector_at t names end))) a []) ≡ steps
        → last_of (pin_tests name pins 32 end) (length (get_or (alternatives both) a [])) j
        ≡ pin_tests name pins (entries_at steps j) end
    last_step {steps} e =
        let d = ap (λ (p : Vector). length (get_or (alternatives p) a [])) both_is in
        let n : length (get_or (alternatives both) a []) ≡ steps =
        sym (pinned_length name pins 32 end both a) ∙ sym d ∙ e in
        ap (λ (k : ℕ). last_of (pin_tests name pins 32 end) k j) n ∙ last_entries pins end steps j

    pub join_step : {x y n w i k l r steps : ℕ} {how : How}
        → Picked (join_at (get_or t (end - 1) 0 - 50)) n w a how i k
        → length (alternatives (vector_at t names m)) ≡ n → length (alternatives (vector_at t names (end - 1))) ≡ w
        → Split how x y j l r → length (alternative_at name pins t names m i) ≡ x
        → length (alternative_at name pins t names (end - 1) k) ≡ y
        → length (alternative_at name pins t names end a) ≡ steps
        → step_at pins t names end a j
        ≡ (step_at pins t names m i l ++ step_at pins t names (end - 1) k r)
        ++ pin_tests name pins (entries_at steps j) end
    join_step {i = i} {k = k} {l = l} {r = r} {steps = steps} p e d q u v z =
        ap (λ (p : Vector). get_or (get_or (alternatives p) a []) j []) both_is
        ∙ pinned_step name pins 32 end both a j
        ∙ ap₂ ◌++◌
        (join_steps _ left right i k j l r p (placed_number name pins m _ ∙ e) (placed_number name pins (end - 1) _ ∙ d)
        q u v) (last_step z)

    -- the whole has as many steps as the two put together
    pub join_length : {n w i k : ℕ} {how : How} → Picked (join_at (get_or t (end - 1) 0 - 50)) n w a how i k
        → length (alternatives (vector_at t names m)) ≡ n → length (alternatives (vector_at t names (end - 1))) ≡ w
        → length (alternative_at name pins t names end a)
        ≡ length (put how (alternative_at name pins t names m i) (alternative_at name pins t names (end - 1) k))
    join_length p e d =
        ap (λ (p : Vector). length (get_or (alternatives p) a [])) both_is ∙ pinned_length name pins 32 end both a
        ∙ ap length (join_at_lem _ left right p (placed_number name pins m _ ∙ e) (placed_number name pins (end - 1) _ ∙ d))

    -- P | Q: the operand's step, and the pins
    pub only_step : {part i steps : ℕ} → Only pins t names end m a part i
        → length (alternative_at name pins t names end a) ≡ steps
        → step_at pins t names end a j
        ≡ step_at pins t names part i j ++ pin_tests name pins (entries_at steps j) end
    only_step {part} {i} {steps} o z =
        ap (λ (p : Vector). get_or (get_or (alternatives p) a []) j []) both_is
        ∙ pinned_step name pins 32 end both a j
        ∙ ap₂ ◌++◌ (ap (λ (x : Alternative). get_or x j []) (o.same name)) (last_step z)

    pub only_length : {part i : ℕ} → Only pins t names end m a part i
        → length (alternative_at name pins t names part i) ≡ length (alternative_at name pins t names end a)
    only_length o =
        sym (ap (λ (p : Vector). length (get_or (alternatives p) a [])) both_is ∙ pinned_length name pins 32 end both a
        ∙ ap length (o.same name))
