-- Document 02, [2]: filling brings no name that is not written: an expression over n names is so when filled.
--   named_over                   a name with an edge in an expression over n names is one of them
--   Among                        the names beside a part of a chain are some of n
--   filled_over                  the filled expression is over n names
use Rattle.std.specs.Prelude.{if◌then◌else◌}
use mathlib.Core.Path.{◌≡◌, refl}
use mathlib.Core.Bool.{Bool, true, false, not, ◌&&◌, ◌||◌}
use Prim.Native.Nat.{ℕ, zero, suc, ◌<◌}
use native.Mathlib.Omega.{arith}
use borrow.Author.Tests.{eqb-true}
use Rattle.alf.specs.Expressions.{Boolean, name, literal, negated, binary, choice, stays, Vector, edge, join, while}
use Rattle.alf.specs.Expressions.{with, Over, EdgeKnown, VectorOver}
use Rattle.alf.specs.Alternatives.{is_name}
use Rattle.alf.specs.Steady.{is_then, is_step_lem, moves, has_edge_on, kept, filled}
use Rattle.basics.proofs.Bools.{never, and_left, and_right}
use Rattle.basics.proofs.Choices.{if_all}
use Rattle.steady_laws.specs.Beside.{Beside, alone, stepped, front, back, held, filled_beside}
use Rattle.steady_laws.proofs.Rows.{or_cases}
use Rattle.steady_laws.proofs.Besides.{filled_beside_lem}

module _ (n : ℕ) where
  name_over : (k : ℕ) (c : Boolean) → Over n c → is_name k c ≡ true → k < n
  unfolding Over is_name
  name_over k (name i) o h = let e = eqb-true i k h in omega arith
  name_over k (literal s) o h = never h
  name_over k (negated a) o h = never h
  name_over k (binary f a b) o h = never h
  name_over k (choice c a b) o h = never h

  named_over : (k : ℕ) (p : Vector) → VectorOver n p → has_edge_on k p ≡ true → k < n
  unfolding VectorOver has_edge_on
  named_over k (edge e c) o h = name_over k c o.1 h
  named_over k (join j p q) o h =
      or_cases (has_edge_on k p) (has_edge_on k q) h (named_over k p o.0) (named_over k q o.1)
  named_over k (while s p c) o h = named_over k p o.0 h

  -- p & ?- k ..
  kept_over : (m : ℕ) (f : ℕ → Bool) (p : Vector) → ((k : ℕ) → f k ≡ true → k < n) → VectorOver n p
      → VectorOver n (kept m f p)
  unfolding kept
  kept_over zero f p h o = o
  kept_over (suc m) f p h o = go (f m) refl (kept_over m f p h o)
    where
      go : (q : Bool) → f m ≡ q → VectorOver n (kept m f p)
          → VectorOver n (if q then join with (kept m f p) (edge stays (name m)) else kept m f p)
      go true e r = unfold VectorOver EdgeKnown Over in (r, (tt, h m e))
      go false e r = r

  record Among (r : Beside) : Type 0 where
    pub below : (k : ℕ) → r.names k ≡ true → k < n

  none_among : Among alone
  none_among = record { below = λ k h. never h }

  step_among : (p : Vector) (r : Beside) → VectorOver n p → Among r → Among (stepped p r)
  step_among p r o h =
      record { below = λ k e. or_cases (has_edge_on k p) (r.names k) e (named_over k p o) (h.below k) }

  stop_among : (p : Vector) (r : Beside) → VectorOver n p → Among r → Among (if is_step_lem p then stepped p r else alone)
  stop_among p r o h = if_all Among (is_step_lem p) (λ e. step_among p r o h) (λ e. none_among)

  front_among : (p : Vector) (r : Beside) → VectorOver n p → Among r → Among (front p r)
  unfolding front VectorOver
  front_among (edge e c) r o h = step_among (edge e c) r o h
  front_among (join j p q) r o h =
      if_all Among (is_then j) (λ e. front_among p (front q r) o.0 (front_among q r o.1 h))
      (λ e. stop_among (join j p q) r o h)
  front_among (while s p c) r o h = none_among

  back_among : (p : Vector) (r : Beside) → VectorOver n p → Among r → Among (back p r)
  unfolding back VectorOver
  back_among (edge e c) r o h = step_among (edge e c) r o h
  back_among (join j p q) r o h =
      if_all Among (is_then j) (λ e. back_among q (back p r) o.1 (back_among p r o.0 h))
      (λ e. stop_among (join j p q) r o h)
  back_among (while s p c) r o h = none_among

  -- a step between what is before it and what is after it
  module _ (b a : Beside) (p : Vector) (g : Among b) (h : Among a) (o : VectorOver n p) where
    held_among : (k : ℕ) → held b p a k ≡ true → k < n
    unfolding held
    held_among k e =
        let r = and_right (b.changing && (moves p && a.changing)) _ e in
        or_cases (b.names k) (has_edge_on k p || a.names k) (and_left _ (not (has_edge_on k p)) r) (g.below k)
        (λ d. or_cases (has_edge_on k p) (a.names k) d (named_over k p o) (h.below k))

    step_over : VectorOver n (kept 32 (held b p a) p)
    step_over = kept_over 32 (held b p a) p held_among o

  part_over : (b a : Beside) (p : Vector) → Among b → Among a → VectorOver n p → VectorOver n (filled_beside b a p)
  unfolding filled_beside VectorOver
  part_over b a (edge e c) g h o = step_over b a (edge e c) g h o
  part_over b a (join j p q) g h o =
      let then_left = part_over b (front q a) p g (front_among q a o.1 h) o.0 in
      let then_right = part_over (back p b) a q (back_among p b o.0 g) h o.1 in
      let left = part_over alone alone p none_among none_among o.0 in
      let right = part_over alone alone q none_among none_among o.1 in
      if_all (VectorOver n) (is_then j) (λ e. (then_left, then_right))
      (λ e. if_all (VectorOver n) (is_step_lem (join j p q)) (λ d. step_over b a (join j p q) g h o) (λ d. (left, right)))
  part_over b a (while s p c) g h o = (part_over alone alone p none_among none_among o.0, o.1)

  pub filled_over : (p : Vector) → VectorOver n p → VectorOver n (filled p)
  filled_over p o = rw (filled_beside_lem p) (part_over alone alone p none_among none_among o)
