-- Alternative t of the vector expression that ends at a place, from its operands' alternatives.
-- Main names: edge_one, while_at, join_at_lem, pinned_shape, placed_there; before_chosen, condition_chosen, join_picking,
-- left_chosen, right_chosen; shaped_small.
use Prim.Native.Nat.{ℕ, zero, suc, ◌-◌, ◌*◌, ◌<◌, ◌≤◌}
use native.Mathlib.Omega.{arith}
use native.Mathlib.Nat.{le-mul_of_pos_right, mul_comm}
use mathlib.Core.Path.{◌≡◌, refl}
use mathlib.Core.List.{List, []}
use lib.ListN.{length, get_or}
use Rattle.basics.specs.Words.{sum_of}
use Rattle.alf.specs.Expressions.{Boolean, literal, Edge, Vector, edge, join, while, Side}
use Rattle.alf.specs.Expressions.{Join, followed_by_join, either_order, with_or_then, any_order, with, or_else}
use Rattle.alf.specs.Decoder.{join_at}
use Rattle.alf.specs.Alternatives.{conditioned, alternatives, number_of_alternatives, tests}
use Rattle.alternatives.specs.declared.picking.How.{How}
use Rattle.trees.specs.Parts.{vector_at}
use Rattle.alternatives.specs.Picks.{count_of, put, Picked, Picking}
use Rattle.acceptance.specs.Sizes.{Chosen, Shaped, ShapedAt, WithPins, Small}
use Rattle.steady_pins.specs.Pinned.{pinned, pin_count_lem, by_places}
use Rattle.steady_pins.proofs.PinnedAlternatives.{placed_number, pinned_length, pinned_tests}
use Rattle.basics.proofs.Entries.{get_d_map}
use Rattle.trees.proofs.Vectors.{Conditioned, Joined, before_is, before_ends}
use Rattle.acceptance.proofs.CappedCounts.{number_while, number_join, number_some}
use Rattle.acceptance.proofs.Numbers.{Number}

-- an expression's alternative
pub edge_there : (e : Edge) (c : Boolean) (a : ℕ) → a < 1 → a < length (alternatives (edge e c))
unfolding alternatives
edge_there e c a l = l

pub edge_one : (e : Edge) (c : Boolean) (a : ℕ) → a < 1 → Shaped (get_or (alternatives (edge e c)) a []) 1 1
unfolding alternatives tests sum_of
edge_one e c zero l = record { steps_is = refl; tests_is = refl }
edge_one e c (suc a) l = absurd (omega arith)

pub while_at : (s : Side) (p : Vector) (c : Boolean) (a : ℕ) → a < length (alternatives p)
    → get_or (alternatives (while s p c)) a [] ≡ conditioned c (get_or (alternatives p) a [])
unfolding alternatives
while_at s p c a l = get_d_map (conditioned c) (alternatives p) a [] [] l

pub join_at_lem : (j : Join) (p q : Vector) {n m a i k : ℕ} {how : How} → Picked j n m a how i k
    → length (alternatives p) ≡ n → length (alternatives q) ≡ m
    → get_or (alternatives (join j p q)) a [] ≡ put how (get_or (alternatives p) i []) (get_or (alternatives q) k [])
unfolding alternatives
join_at_lem j p q h e d = h.is (alternatives p) (alternatives q) e d

-- a part with its pins
pub pinned_shape : (operand : ℕ → Boolean) (pins : List ℕ) (end : ℕ) (p : Vector) (a : ℕ) {s n s' n' : ℕ}
    → a < length (alternatives p)
    → Shaped (get_or (alternatives p) a []) s n → WithPins s n (pin_count_lem pins end 32) s' n'
    → Shaped (get_or (alternatives (pinned operand pins 32 end p)) a []) s' n'
pinned_shape operand pins end p a l h w =
    let e = pinned_length operand pins 32 end p a in
    let d = pinned_tests operand pins 32 end p a l in
    record {
      steps_is = omega (arith, w.steps_is, h.steps_is);
      tests_is = omega (arith, w.tests_is, h.tests_is);
    }

-- operands keep the limit
few_operands : (j : Join) (n m : ℕ) → 0 < n → 0 < m → count_of j n m ≤ 64 → (n ≤ 64) × (m ≤ 64)
unfolding count_of
few_operands j n m p q l = go j l (le-mul_of_pos_right n q) (rw (mul_comm m n) at (le-mul_of_pos_right m p))
  where
    go : (j : Join) → count_of j n m ≤ 64 → n ≤ n * m → m ≤ n * m → (n ≤ 64) × (m ≤ 64)
    go followed_by_join l x y = (omega arith, omega arith)
    go either_order l x y = (omega arith, omega arith)
    go with_or_then l x y = (omega arith, omega arith)
    go any_order l x y = (omega arith, omega arith)
    go with l x y = (omega arith, omega arith)
    go or_else l x y = (omega arith, omega arith)

-- so many alternatives has a part, with its pins and whatever its operands are
pub placed_there : (operand : ℕ → Boolean) (pins : List ℕ) (t : List ℕ) (names end a : ℕ) → Chosen t names end a
    → a < length (alternatives (by_places operand pins end (vector_at t names end)))
unfolding number_of_alternatives
placed_there operand pins t names end a h =
    rw (placed_number operand pins end (vector_at t names end)) h.there

module _ (t : List ℕ) (names end a : ℕ) (h : Chosen t names end a) where
  -- c & P, and P & c
  pub before_chosen : get_or t (end - 1) 0 ≡ 57 → Chosen t names (end - 1) a
  before_chosen k =
      let e = before_is t names end h.ends k in
      record {
        ends = before_ends t names end h.ends k;
        there = rw (e, number_while) at h.there;
        few = rw (e, number_while) at h.few;
      }

  pub condition_chosen : {m : ℕ} → Conditioned t names end m → Chosen t names m a
  condition_chosen c =
      record {
        ends = c.left;
        there = rw (c.is, number_while) at h.there;
        few = rw (c.is, number_while) at h.few;
      }

  -- P j Q
  module _ {m x y : ℕ} (j : Joined t names end m) (e : Number t names m x) (d : Number t names (end - 1) y) where
    few : (number_of_alternatives (vector_at t names m) ≤ 64)
        × (number_of_alternatives (vector_at t names (end - 1)) ≤ 64)
    few = few_operands _ _ _ (number_some _) (number_some _) (rw (j.is, number_join) at h.few)

    pub left_is : x ≡ number_of_alternatives (vector_at t names m)
    left_is = let f = few in omega arith

    pub right_is : y ≡ number_of_alternatives (vector_at t names (end - 1))
    right_is = let f = few in omega arith

    pub join_picking : Picking (get_or t (end - 1) 0) x y a
    join_picking =
        let f = few in
        let u = number_some (vector_at t names m) in
        let v = number_some (vector_at t names (end - 1)) in
        record {
          operands = record {
            joins = j.low;
            no_more = j.high;
            some_left = omega arith;
            some_right = omega arith;
            few_left = omega arith;
            few_right = omega arith;
          };
          there = rw (left_is, right_is) (rw (j.is, number_join) at h.there);
        }

    module _ {how : How} {i k : ℕ} (p : Picked (join_at (get_or t (end - 1) 0 - 50)) x y a how i k) where
      pub left_chosen : Chosen t names m i
      left_chosen = record { ends = j.left; there = rw (← left_is) p.lower; few = few.0 }

      pub right_chosen : Chosen t names (end - 1) k
      right_chosen = record { ends = j.right; there = rw (← right_is) p.upper; few = few.1 }

pub shaped_small : {pins t : List ℕ} {names end a s n : ℕ} → ShapedAt pins t names end a s n → Small s n
shaped_small h =
    let x = h.given (λ n. literal 0) in
    let a = x.steps_is in
    let b = x.tests_is in
    record { first = omega arith; second = omega arith }
