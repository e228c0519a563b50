-- The pins of a tree are document 02's, [2]: the tree with its pins is the filled expression, and each pin is a place
-- where a boolean expression ends.
--   part_found               a part of a chain, between what is beside it
use Rattle.std.specs.Prelude.{if◌then◌else◌}
use Prim.Native.Nat.{ℕ, ◌+◌, ◌-◌, ◌*◌, ◌<◌, ◌≤◌}
use native.Mathlib.Omega.{arith}
use mathlib.Core.Path.{◌≡◌, refl, ap, ◌∙◌}
use mathlib.Core.Bool.{Bool, true, false}
use mathlib.Core.List.{List}
use mathlib.Core.Logic.{inl, inr}
use lib.ListN.{length, get_or}
use Rattle.alf.specs.Expressions.{Boolean, Edge, Vector, edge, join, while, Join, on_right, on_left}
use Rattle.alf.specs.Steady.{is_then, is_step_lem, kept}
use Rattle.steady_laws.specs.Beside as filling
use Rattle.steady_pins.specs.declared.finding.Beside.{Beside}
use Rattle.steady_pins.specs.Pinned.{pin_at, pinned, by_places}
use Rattle.steady_pins.specs.Finding.{alone, front, back, step_marked, marked}
use Rattle.steady_pins.proofs.MarkedPins.{marked_long}
use Rattle.steady_pins.proofs.Placed.{size, width, join_size, right_size, left_size, edge_size}
use Rattle.steady_pins.proofs.Placed.{Placed, on_edge, on_join, behind, ahead, placed_map}
use Rattle.steady_pins.proofs.PinRanges.{Inside, Outside, own_row, step_outside, marked_outside}
use Rattle.steady_pins.proofs.PinRanges.{places_same, places_none, pinned_bare}
use Rattle.steady_pins.proofs.BesideLike.{Here, LikeBeside, alone_like, front_like, back_like}
use Rattle.steady_pins.proofs.FoundSteps.{step_found}

-- a table with room for the parts of an expression of n bytes that ends at `end`, and no pins there
pub record Clear (end n : ℕ) (t : List ℕ) : Type 0 where
  pub room : end * 32 ≤ length t
  pub none : (i : ℕ) → Inside end n i → get_or t i 0 ≡ 0

module _ (operand : ℕ → Boolean) where
  here_is : {end : ℕ} {p : Vector} → Placed (Here operand) end p → Placed (λ i c. operand i ≡ c) end p
  here_is = placed_map (λ i c r. r.0)

  own_clear : {end n : ℕ} {t : List ℕ} → Clear end n t → 0 < n → 0 < end → (k : ℕ) → k < 32 → pin_at t end k ≡ 0
  own_clear {end} c s e k u = c.none ((end - 1) * 32 + k) (own_row k s e u)

  -- the operands of a join
  module _ {R : ℕ → Boolean → Type 0} {end : ℕ} (j : Join) {p q : Vector} (g : Placed R (end - 1 - size q) p)
      (h : Placed R (end - 1) q) (u : size (join j p q) ≤ end) {t : List ℕ} (c : Clear end (size (join j p q)) t) where
    abbrev left : ℕ
    left = end - 1 - size q

    -- an entry of the right operand, and the join's own, is none of the left one's
    past_left : {i : ℕ} → (end - 1 - size q) * 32 ≤ i → Outside left (size p) i
    past_left l = record { is = inr l }

    left_clear : Clear left (size p) t
    left_clear =
        let s = join_size j p q in
        record {
          room = omega (arith, c.room);
          none = λ i o.
              let a = o.low in
              let b = o.high in
              c.none i (record { low = omega arith; high = omega arith });
        }

    right_clear : (b a : Beside) → Clear (end - 1) (size q) (marked left p b a t)
    right_clear b a =
        let s = join_size j p q in
        record {
          room = omega (arith, c.room, marked_long left p b a t);
          none = λ i o.
              let x = o.low in
              let y = o.high in
              marked_outside b a t i g (past_left x) ∙ c.none i (record { low = omega arith; high = omega arith });
        }

    module _ (b a d e : Beside) where
      abbrev first : List ℕ
      first = marked left p b a t

      abbrev both : List ℕ
      both = marked (end - 1) q d e first

      both_clear : (k : ℕ) → k < 32 → pin_at both end k ≡ 0
      both_clear k l =
          let s = join_size j p q in
          marked_outside d e first ((end - 1) * 32 + k) h (record { is = inr (omega arith) })
          ∙ marked_outside b a t ((end - 1) * 32 + k) g (record { is = inr (omega arith) })
          ∙ own_clear c (omega arith) (omega arith) k l

      left_same : by_places operand both left p ≡ by_places operand first left p
      left_same =
          places_same operand both first g
          (λ i o. let y = o.high in marked_outside d e first i h (record { is = inl (omega arith) }))

      two_found : {p' q' : Vector} → by_places operand first left p ≡ p' → by_places operand both (end - 1) q ≡ q'
          → by_places operand both end (join j p q) ≡ join j p' q'
      unfolding by_places
      two_found x y = rw (left_same, x, y) (pinned_bare operand both 32 end _ both_clear)

    -- a step: its pins stand at its own entries
    step_clear : (b a : Beside) {m k : ℕ} → m ≤ end - 1 → (i : ℕ) → Inside m k i → m - k ≤ i
        → (end - size (join j p q)) * 32 ≤ i → get_or (step_marked b end (join j p q) a t) i 0 ≡ 0
    step_clear b a l i o n w =
        let s = join_size j p q in
        let y = o.high in
        step_outside b end (join j p q) a t i {n = 1} (omega arith) (omega arith) (record { is = inl (omega arith) })
        ∙ c.none i (record { low = w; high = omega arith })

  module _ {end : ℕ} (j : Join) {p q : Vector} (g : Placed (Here operand) (end - 1 - size q) p)
      (h : Placed (Here operand) (end - 1) q) (u : size (join j p q) ≤ end) {t : List ℕ}
      (c : Clear end (size (join j p q)) t) {b a : Beside} {x y : filling.Beside} where
    joined_step : is_step_lem (join j p q) ≡ true → LikeBeside operand b x → LikeBeside operand a y
        → by_places operand (step_marked b end (join j p q) a t) end (join j p q)
        ≡ kept 32 (filling.held x (join j p q) y) (join j p q)
    unfolding by_places
    joined_step s l r =
        let e = join_size j p q in
        rw (
          places_none operand (step_marked b end (join j p q) a t) (here_is g)
              (λ i o. let v = o.low in step_clear j g h u c b a (omega arith) i o (omega arith) (omega arith)),
          places_none operand (step_marked b end (join j p q) a t) (here_is h)
              (λ i o. let v = o.low in step_clear j g h u c b a (omega arith) i o (omega arith) (omega arith)),
        )
        (step_found operand (on_join g h u) s l r t c.room (omega arith)
        (own_clear c (omega arith) (omega arith)))

  edge_places : (end : ℕ) (e : Edge) (c : Boolean) (t : List ℕ) → operand (end - 1) ≡ c
      → by_places operand t end (edge e c) ≡ pinned operand t 32 end (edge e c)
  unfolding by_places
  edge_places end e c t h = ap (λ (z : Boolean). pinned operand t 32 end (edge e z)) h

  -- conditions
  behind_places : (end : ℕ) (t : List ℕ) (p : Vector) {q : Vector} {c : Boolean} → operand (end - 1) ≡ c
      → by_places operand t (end - 1 - width c) p ≡ q
      → by_places operand t end (while on_right p c) ≡ while on_right q c
  unfolding by_places
  behind_places end t p h e = rw (h, e) refl

  ahead_places : (end : ℕ) (t : List ℕ) (p : Vector) {q : Vector} {c : Boolean} → operand (end - 1 - size p) ≡ c
      → by_places operand t (end - 1) p ≡ q → by_places operand t end (while on_left p c) ≡ while on_left q c
  unfolding by_places
  ahead_places end t p h e = rw (h, e) refl

  -- a part of a chain, between what is beside it
  pub part_found : {end : ℕ} {p : Vector} {b a : Beside} {x y : filling.Beside} → Placed (Here operand) end p
      → LikeBeside operand b x → LikeBeside operand a y → (t : List ℕ) → Clear end (size p) t
      → by_places operand (marked end p b a t) end p ≡ filling.filled_beside x y p
  unfolding marked filling.filled_beside
  part_found {end} {b = b} {a = a} (on_edge {e = e} {c = d} r u) l m t c =
      let s = edge_size e d in
      edge_places end e d (step_marked b end (edge e d) a t) r.0
      ∙ step_found operand (on_edge r u) (unfold is_step_lem in refl) l m t c.room (omega arith)
      (own_clear c (omega arith) (omega arith))
  part_found {end} {b = b} {a = a} {x = x} {y = y} (on_join {j = j} {p = p} {q = q} g h u) l m t c =
      go _ _ _ (is_then j) (is_step_lem (join j p q))
      (two_found j g h u c b (front (end - 1) q a) (back (end - 1 - size q) p b) a
      (part_found g l (front_like operand h m) t (left_clear j g h u c))
      (part_found h (back_like operand g l) m _ (right_clear j g h u c b (front (end - 1) q a))))
      (two_found j g h u c alone alone alone alone
      (part_found g (alone_like operand) (alone_like operand) t (left_clear j g h u c))
      (part_found h (alone_like operand) (alone_like operand) _ (right_clear j g h u c alone alone)))
      (λ s. joined_step j g h u c s l m)
    where
      go : (X Y Z : List ℕ) {J K L : Vector} (v w : Bool) → by_places operand X end (join j p q) ≡ J
          → by_places operand Z end (join j p q) ≡ L
          → (w ≡ true → by_places operand Y end (join j p q) ≡ K)
          → by_places operand (if v then X else if w then Y else Z) end (join j p q)
          ≡ (if v then J else if w then K else L)
      go X Y Z true w f k e = f
      go X Y Z false true f k e = e refl
      go X Y Z false false f k e = k
  part_found {end} (behind {p = p} {c = d} g r u) l m t c =
      let s = right_size p d in
      behind_places end _ p r.0 (part_found g (alone_like operand) (alone_like operand) t (record {
        room = omega (arith, c.room);
        none = λ i o.
            let v = o.low in
            let w = o.high in
            c.none i (record { low = omega arith; high = omega arith });
      }))
  part_found {end} (ahead {p = p} {c = d} g r u) l m t c =
      let s = left_size p d in
      ahead_places end _ p r.0 (part_found g (alone_like operand) (alone_like operand) t (record {
        room = omega (arith, c.room);
        none = λ i o.
            let v = o.low in
            let w = o.high in
            c.none i (record { low = omega arith; high = omega arith });
      }))
