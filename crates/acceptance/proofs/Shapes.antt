-- The steps and the tests of alternative t of the vector expression that ends at a place, with its pins, from its
-- operands' alternatives.
-- Main names: shaping_part, part_by, shaping_pos, shaping_join, shaping_condition; edge_shape, before_shape,
-- condition_shape, join_shape; both_at, Only, only_part, only_shape; combined_small.
use Prim.Native.Nat.{ℕ, ◌+◌, ◌-◌, ◌<◌, ◌≤◌}
use native.Mathlib.Omega.{arith}
use mathlib.Core.Path.{◌≡◌, refl}
use mathlib.Core.Logic.{◌⊎◌, inl, inr}
use mathlib.Core.List.{List, []}
use lib.ListN.{length, get_or}
use Rattle.alf.specs.Expressions.{Boolean, literal, Vector, edge, join, on_right, on_left}
use Rattle.alf.specs.Decoder.{join_at}
use Rattle.alf.specs.Alternatives.{Alternative, alternatives, number_of_alternatives}
use Rattle.alternatives.specs.declared.picking.How.{How}
use Rattle.trees.specs.Parts.{vector_at, Start}
use Rattle.trees.proofs.Vectors.{Conditioned, Joined, vector_pos, edge_is, before_is, condition_is, join_is}
use Rattle.alternatives.specs.Picks.{put, Picked}
use Rattle.alternatives.proofs.Finding.{in_left, in_right}
use Rattle.steady_pins.specs.Pinned.{pin_count_lem, by_places}
use Rattle.steady_pins.specs.Entries.{PinNumber}
use Rattle.steady_pins.proofs.PinnedAlternatives.{placed_number}
use Rattle.steady_pins.proofs.Starting.{vector_start, boolean_start}
use Rattle.acceptance.specs.Notes.{Noted}
use Rattle.acceptance.specs.Sizes.{alternative_at, Chosen, Shaping, ShapingBy, Shaped, ShapedAt, Held, Combined}
use Rattle.acceptance.specs.Sizes.{WithPins, Small, PartAt, from_left, from_right}
use Rattle.acceptance.proofs.CappedCounts.{number_edge, number_join}
use Rattle.acceptance.proofs.Numbers.{Number}
use Rattle.acceptance.proofs.NotedParts.{noted_part}
use Rattle.acceptance.proofs.Chosen.{edge_there, edge_one, while_at, join_at_lem, pinned_shape, placed_there}
use Rattle.acceptance.proofs.Chosen.{before_chosen, condition_chosen, left_is, right_is, join_picking}
use Rattle.acceptance.proofs.Chosen.{left_chosen, right_chosen}

-- two operands joined, with their pins
abbrev pub both_at : (ℕ → Boolean) → List ℕ → List ℕ → ℕ → ℕ → ℕ → Vector
both_at operand pins t names end m =
    join (join_at (get_or t (end - 1) 0 - 50)) (by_places operand pins m (vector_at t names m))
    (by_places operand pins (end - 1) (vector_at t names (end - 1)))

-- of P | Q alternative a is alternative i of the operand that ends at `part`
pub record Only (pins t : List ℕ) (names end m a part i : ℕ) : Type 0 where
  pub chosen : Chosen t names part i
  pub operand_of : (part ≡ m) ⊎ (part ≡ end - 1)
  pub shorter : part < end
  pub same : (operand : ℕ → Boolean)
      → get_or (alternatives (both_at operand pins t names end m)) a [] ≡ alternative_at operand pins t names part i

module _ {pins t : List ℕ} {names end a : ℕ} (h : Shaping pins t names end a) where
  pub shaping_part : {m b : ℕ} → m < end → Chosen t names m b → Shaping pins t names m b
  shaping_part l c = record { chosen = c; small = omega (arith, h.small); long = h.long }

  -- what is noted for the whole is noted for the part
  pub part_by : {notes : List ℕ} {m b : ℕ} → Noted pins notes t names end → m < end → Chosen t names m b
      → ShapingBy pins notes t names m b
  part_by n l c = record { shaping = shaping_part l c; noted = noted_part (omega arith) n }

  pub shaping_pos : 0 < end
  shaping_pos = vector_pos t names end h.chosen.ends

  -- P j Q: neither an edge nor a condition
  pub shaping_join : {m : ℕ} → Start t names (end - 1) m → get_or t (end - 1) 0 < 64
      → (get_or t (end - 1) 0 ≡ 56 → ⊥) → (get_or t (end - 1) 0 ≡ 57 → ⊥) → Joined t names end m
  shaping_join s l f g = join_is t names end h.chosen.ends s l f g

  -- P & c
  pub shaping_condition : {m : ℕ} → Start t names (end - 1) m → get_or t (end - 1) 0 ≡ 56 → Conditioned t names end m
  shaping_condition s k = condition_is t names end h.chosen.ends s k

  module _ (operand : ℕ → Boolean) where
    abbrev At : ℕ → ℕ → ℕ → ℕ → Type 0
    At m b s n = Shaped (alternative_at operand pins t names m b) s n

    edge_on_lem : {k : ℕ} → 64 ≤ get_or t (end - 1) 0 → PinNumber pins end k → At end a 1 (1 + k)
    unfolding by_places
    edge_on_lem {k} l d =
        let e = edge_is t names end h.chosen.ends l in
        let here = rw (e, number_edge) at h.chosen.there in
        rw e
        (pinned_shape operand pins end (edge _ (operand (end - 1))) a (edge_there _ _ a here) (edge_one _ _ a here)
        (record { steps_is = refl; tests_is = omega (arith, d.is, d.few) }))

    before_on : {s n s' n' : ℕ} → get_or t (end - 1) 0 ≡ 57 → At (end - 1) a s n → Held s n s' n'
        → At end a s' n'
    unfolding by_places
    before_on k x y =
        let c = before_chosen t names end a h.chosen k in
        rw (
          before_is t names end h.chosen.ends k,
          while_at on_left _ _ a (placed_there operand pins t names (end - 1) a c),
        ) (y.given _ _ x)

    condition_on : {m s n s' n' : ℕ} → Conditioned t names end m → Start t names (end - 1) m → At m a s n
        → Held s n s' n' → At end a s' n'
    unfolding by_places
    condition_on {m} c g x y =
        let d = condition_chosen t names end a h.chosen c in
        rw (
          c.is,
          boolean_start t names (end - 1) c.right g,
          while_at on_right _ _ a (placed_there operand pins t names m a d),
        ) (y.given _ _ x)

    module _ {m x y : ℕ} (j : Joined t names end m) (e : Number t names m x) (d : Number t names (end - 1) y)
      where
        abbrev placed : Vector
        placed = both_at operand pins t names end m

        abbrev placed_at : Alternative
        placed_at = get_or (alternatives placed) a []

        join_there : a < length (alternatives placed)
        unfolding number_of_alternatives
        join_there =
            rw (
              number_join _ (by_places operand pins m (vector_at t names m)) _,
              placed_number operand pins m (vector_at t names m),
              placed_number operand pins (end - 1) (vector_at t names (end - 1)),
            )
            (rw (j.is, number_join) at h.chosen.there)

        module _ {how : How} {i k : ℕ} (p : Picked (join_at (get_or t (end - 1) 0 - 50)) x y a how i k) where
          join_picked : placed_at ≡ put how (alternative_at operand pins t names m i)
              (alternative_at operand pins t names (end - 1) k)
          unfolding number_of_alternatives
          join_picked =
              let u = placed_number operand pins m (vector_at t names m) in
              let v = placed_number operand pins (end - 1) (vector_at t names (end - 1)) in
              let l = left_is t names end a h.chosen j e d in
              let r = right_is t names end a h.chosen j e d in
              let u' : length (alternatives (by_places operand pins m (vector_at t names m))) ≡ x = omega arith in
              let v' : length (alternatives (by_places operand pins (end - 1) (vector_at t names (end - 1)))) ≡ y =
              omega arith in
              join_at_lem _ _ _ p u' v'

        join_on : {s n s' n' : ℕ} → Start t names (end - 1) m → Shaped placed_at s n
            → WithPins s n (pin_count_lem pins end 32) s' n' → At end a s' n'
        unfolding by_places
        join_on g f w =
            rw (j.is, vector_start t names (end - 1) j.right g)
            (pinned_shape operand pins end placed a join_there f w)

  pub edge_shape : {k : ℕ} → 64 ≤ get_or t (end - 1) 0 → PinNumber pins end k
      → ShapedAt pins t names end a 1 (1 + k)
  edge_shape l d = record { given = λ operand. edge_on_lem operand l d }

  pub before_shape : {s n s' n' : ℕ} → get_or t (end - 1) 0 ≡ 57 → ShapedAt pins t names (end - 1) a s n
      → Held s n s' n' → ShapedAt pins t names end a s' n'
  before_shape k x y = record { given = λ operand. before_on operand k (x.given operand) y }

  pub condition_shape : {m s n s' n' : ℕ} → Conditioned t names end m → Start t names (end - 1) m
      → ShapedAt pins t names m a s n → Held s n s' n' → ShapedAt pins t names end a s' n'
  condition_shape c g x y = record { given = λ operand. condition_on operand c g (x.given operand) y }

  pub join_shape : {m x y : ℕ} → Joined t names end m → Number t names m x → Number t names (end - 1) y
      → {how : How} {i k : ℕ} → Picked (join_at (get_or t (end - 1) 0 - 50)) x y a how i k
      → {s n s' n' s'' n'' s''' n''' o : ℕ} → Start t names (end - 1) m → ShapedAt pins t names m i s n
      → ShapedAt pins t names (end - 1) k s' n' → Combined how s n s' n' s'' n''
      → PinNumber pins end o → WithPins s'' n'' o s''' n''' → ShapedAt pins t names end a s''' n'''
  join_shape j e d p g f o c q w =
      let v = rw q.is at w in
      record {
        given = λ operand.
            join_on operand j e d g
            (rw (join_picked operand j e d p) (c.given _ _ (f.given operand) (o.given operand))) v;
      }

  -- P | Q: the operand that the alternative is from
  only_left : {m x : ℕ} (j : Joined t names end m) → Start t names (end - 1) m → get_or t (end - 1) 0 ≡ 55
      → Number t names m x → a < x → Only pins t names end m a m a
  unfolding put
  only_left j s k e l =
      let p = in_left (join_picking t names end a h.chosen j e refl) k l in
      record {
        chosen = left_chosen t names end a h.chosen j e refl p;
        operand_of = inl refl;
        shorter = omega (arith, s.before);
        same = λ operand. join_picked operand j e refl p;
      }

  only_right : {m x : ℕ} (j : Joined t names end m) → get_or t (end - 1) 0 ≡ 55
      → Number t names m x → x ≤ a → Only pins t names end m a (end - 1) (a - x)
  unfolding put
  only_right j k e l =
      let p = in_right (join_picking t names end a h.chosen j e refl) k l in
      record {
        chosen = right_chosen t names end a h.chosen j e refl p;
        operand_of = inr refl;
        shorter = omega (arith, shaping_pos);
        same = λ operand. join_picked operand j e refl p;
      }

  pub only_part : {m x part i : ℕ} → Joined t names end m → Start t names (end - 1) m → get_or t (end - 1) 0 ≡ 55
      → Number t names m x → PartAt m (end - 1) x a part i → Only pins t names end m a part i
  only_part j s k e (from_left l p q) = rw (p, q) (only_left j s k e l)
  only_part j s k e (from_right l p q) = rw (p, q) (only_right j k e l)

  pub only_shape : {m x part i : ℕ} → Joined t names end m → Start t names (end - 1) m → Number t names m x
      → Only pins t names end m a part i
      → {s n s' n' o : ℕ} → ShapedAt pins t names part i s n → PinNumber pins end o → WithPins s n o s' n'
      → ShapedAt pins t names end a s' n'
  only_shape j g e y f q w =
      let v = rw q.is at w in
      record { given = λ operand. join_on operand j e refl g (rw (y.same operand) (f.given operand)) v }

pub combined_small : {pins t : List ℕ} {names m e i k : ℕ} {how : How} {s n s' n' s'' n'' : ℕ}
    → ShapedAt pins t names m i s n → ShapedAt pins t names e k s' n' → Combined how s n s' n' s'' n''
    → Small s'' n''
combined_small f o c =
    let x = f.given (λ n. literal 0) in
    let y = o.given (λ n. literal 0) in
    let z = c.given _ _ x y in
    record { first = omega (arith, z.steps_is); second = omega (arith, z.tests_is) }
