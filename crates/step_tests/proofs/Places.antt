-- An operand named by its place is the expression that ends there: the expression with its operands as places, read
-- back, is the expression by its places, and a boolean expression ends at each of its places.
-- Main names: edge_back, operand_back, Each, Known, Stands, stands.
use Rattle.std.specs.Prelude.{if◌then◌else◌}
use Prim.Native.Nat.{ℕ, zero, suc, ◌+◌, ◌-◌, ◌*◌, ◌<◌, ◌≤◌}
use native.Mathlib.Omega.{arith}
use mathlib.Core.Path.{◌≡◌, refl, ◌∙◌}
use mathlib.Core.Bool.{Bool, true, false}
use mathlib.Core.List.{List}
use lib.Dec.{eqb}
use lib.ListN.{get_or}
use borrow.Author.Tests.{eqb-false}
use Rattle.alf.specs.Expressions.{Boolean, name, Edge, stays, Vector, edge, join, while, Join, with, Side}
use Rattle.alf.specs.Bytes.{edge_number}
use Rattle.alf.specs.Decoder.{edge_at}
use Rattle.alf.proofs.OperatorBytes.{edge_byte}
use Rattle.alf.proofs.StackTops.{edge_top, condition_before_top}
use Rattle.alf.proofs.Parts.{made_last}
use Rattle.trees.specs.Parts.{EndsBoolean, EndsVector, vector_at, boolean_at, Start}
use Rattle.trees.proofs.Vectors.{Conditioned, Joined, vector_pos, edge_is, before_is, before_ends, boolean_under}
use Rattle.steady_pins.specs.Pinned.{pin_at, pinned, by_places, Pins}
use Rattle.steady_pins.proofs.Starting.{vector_start, boolean_start}
use Rattle.steady_pins.proofs.TreeInduction.{by_parts}
use Rattle.step_tests.specs.OperandPlaces.{place_of}
use Rattle.step_tests.proofs.Exchanging.{tests_on, pinned_on_lem}

-- each boolean operand of an expression
pub data Each (P : Boolean → Type 0) : Vector → Type 0 where
  of_edge : {e : Edge} {c : Boolean} → P c → Each P (edge e c)
  of_join : {j : Join} {p q : Vector} → Each P p → Each P q → Each P (join j p q)
  of_while : {s : Side} {p : Vector} {c : Boolean} → Each P p → P c → Each P (while s p c)

-- an edge by its number, an operand by its place
abbrev pub edge_back : Edge → Edge
edge_back e = edge_at (edge_number e)

abbrev pub operand_back : List ℕ → ℕ → Boolean → Boolean
operand_back t names c = boolean_at t names (place_of c)

positive : (n : ℕ) → eqb n 0 ≡ false → 0 < n
positive n e = let f = eqb-false n 0 e in omega arith

-- `?-` by its number
kept_stays : edge_back stays ≡ stays
unfolding edge_number edge_at
kept_stays = refl

module _ (t : List ℕ) (names : ℕ) where
  abbrev pub Known : Boolean → Type 0
  Known c = EndsBoolean t names (place_of c)

  -- read back: edges and operands of the tests with a part's pins are as they were
  pin_known : (b : Bool) (k : ℕ) (p : Vector) → (b ≡ false → EndsBoolean t names k) → Each Known p
      → Each Known (if b then p else join with p (edge stays (name k)))
  unfolding place_of
  pin_known true k p f e = e
  pin_known false k p f e = of_join e (of_edge (f refl))

  module _ (pins : List ℕ) (known : Pins t names pins) where
    pinned_known : (n end : ℕ) (p : Vector) → Each Known p → Each Known (pinned name pins n end p)
    unfolding pinned
    pinned_known zero end p e = e
    pinned_known (suc n) end p e =
        pin_known (eqb (pin_at pins end n) 0) (pin_at pins end n) (pinned name pins n end p)
        (λ f. known.stands ((end - 1) * 32 + n) (positive (pin_at pins end n) f)) (pinned_known n end p e)

    pub record Stands (end : ℕ) : Type 0 where
      pub back : tests_on edge_back (operand_back t names) (by_places name pins end (vector_at t names end))
          ≡ by_places (boolean_at t names) pins end (vector_at t names end)
      pub each : Each Known (by_places name pins end (vector_at t names end))

    pins_back : (end : ℕ) (p : Vector)
        → tests_on edge_back (operand_back t names) (pinned name pins 32 end p)
        ≡ pinned (boolean_at t names) pins 32 end (tests_on edge_back (operand_back t names) p)
    unfolding place_of
    pins_back end p = pinned_on_lem edge_back (operand_back t names) kept_stays name pins 32 end p

    edge_stands : (end : ℕ) → EndsVector t names end → 64 ≤ get_or t (end - 1) 0 → Stands end
    unfolding by_places tests_on place_of
    edge_stands end h k =
        let u = edge_top names _ (made_last t names end (vector_pos t names end h)) h.whole k in
        let e = edge_byte k u.small in
        let d : edge_number (edge_at (get_or t (end - 1) 0 - 64)) ≡ get_or t (end - 1) 0 - 64 = omega arith in
        let w : EndsBoolean t names (end - 1) = record { within = omega (arith, h.within); whole = u.right } in
        record {
          back = rw (edge_is t names end h k) (pins_back end _ ∙ rw d refl);
          each = rw (edge_is t names end h k) (pinned_known 32 end _ (of_edge w));
        }

    before_stands : (end m : ℕ) → EndsVector t names end → get_or t (end - 1) 0 ≡ 57 → Start t names (end - 1) m
        → Stands (end - 1)
        → Stands end
    unfolding by_places tests_on place_of
    before_stands end m h k s r =
        let u = condition_before_top names _ (made_last t names end (vector_pos t names end h)) h.whole k in
        let b = before_is t names end h k in
        let v = vector_start t names (end - 1) (before_ends t names end h k) s in
        record {
          back = rw (b, v, r.back) refl;
          each = rw (b, v) (of_while r.each (boolean_under s (omega (arith, h.within)) u.left));
        }

    condition_stands : (end m : ℕ) → EndsVector t names end → Conditioned t names end m
        → Start t names (end - 1) m
        → Stands m
        → Stands end
    unfolding by_places tests_on place_of
    condition_stands end m h c s r =
        let v = boolean_start t names (end - 1) c.right s in
        record {
          back = rw (c.is, v, r.back) refl;
          each = rw (c.is, v) (of_while r.each c.right);
        }

    join_stands : (end m : ℕ) → EndsVector t names end → Joined t names end m → Start t names (end - 1) m
        → Stands m → Stands (end - 1) → Stands end
    unfolding by_places tests_on
    join_stands end m h j s r q =
        let v = vector_start t names (end - 1) j.right s in
        record {
          back = rw (j.is, v) (pins_back end _ ∙ rw (r.back, q.back) refl);
          each = rw (j.is, v) (pinned_known 32 end _ (of_join r.each q.each));
        }

    pub stands : (end : ℕ) → EndsVector t names end → Stands end
    stands end h =
        by_parts (record {
          on_edge = edge_stands;
          on_before = before_stands;
          on_condition = condition_stands;
          on_join = join_stands;
        }) end h
