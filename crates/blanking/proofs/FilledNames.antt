-- Document 02, [2] and [11]: with its steady pins an expression names the pins that it names as written, and no others.
--   edge_named       a pin with an edge on it alone is named
--   filled_named     a pin that the filled expression names is named in the written one
--   meant_named      the same of the expression as any rules read it
use Rattle.std.specs.Prelude.{if◌then◌else◌}
use Prim.Native.Nat.{ℕ, zero, suc}
use mathlib.Core.Path.{◌≡◌, refl, subst}
use mathlib.Core.Bool.{Bool, true, false, not, ◌&&◌, ◌||◌}
use borrow.Author.Tests.{eqb-true}
use Rattle.basics.proofs.Bools.{never, and_left, and_right}
use Rattle.basics.proofs.Choices.{if_all}
use Rattle.alf.specs.declared.Rules.{Rules}
use Rattle.alf.specs.Expressions.{Boolean, name, literal, negated, binary, choice, stays, Vector, edge, join, while}
use Rattle.alf.specs.Expressions.{with}
use Rattle.alf.specs.Alternatives.{is_name}
use Rattle.alf.specs.Steady.{is_then, is_step_lem, moves, has_edge_on, kept, filled, meant}
use Rattle.steady_laws.specs.Beside.{Beside, alone, stepped, front, back, held, filled_beside}
use Rattle.steady_laws.proofs.Besides.{filled_beside_lem}
use Rattle.steady_laws.proofs.Meant.{meant_cases}
use Rattle.named_pins.specs.Pins.{names, names_in}
use Rattle.blanking.proofs.Named.{or_first, or_second, or_either}

alone_named : (k : ℕ) (c : Boolean) → is_name k c ≡ true → names c k ≡ true
unfolding is_name names
alone_named k (name i) h = h
alone_named k (literal s) h = never h
alone_named k (negated a) h = never h
alone_named k (binary o a b) h = never h
alone_named k (choice c a b) h = never h

pub edge_named : (k : ℕ) (p : Vector) → has_edge_on k p ≡ true → names_in p k ≡ true
unfolding has_edge_on names_in
edge_named k (edge e c) h = alone_named k c h
edge_named k (join j p q) h =
    or_either (has_edge_on k p) (has_edge_on k q) h (λ a. or_first (names_in p k) (names_in q k) (edge_named k p a))
    (λ a. or_second (names_in p k) (names_in q k) (edge_named k q a))
edge_named k (while s p c) h = or_first (names_in p k) (names c k) (edge_named k p h)

module _ (pins : ℕ → Bool) where
  -- an expression that names only these pins; what is beside a part of a chain
  abbrev Inside : Vector → Type 0
  Inside p = (n : ℕ) → names_in p n ≡ true → pins n ≡ true

  record Among (r : Beside) : Type 0 where
    pub some : (k : ℕ) → r.names k ≡ true → pins k ≡ true

  none_among : Among alone
  none_among = record { some = λ k h. never h }

  module _ (p q : Vector) where
    left : {k : ℕ} → (names_in p k || names_in q k ≡ true → pins k ≡ true) → names_in p k ≡ true → pins k ≡ true
    left {k} o e = o (or_first (names_in p k) (names_in q k) e)

    right : {k : ℕ} → (names_in p k || names_in q k ≡ true → pins k ≡ true) → names_in q k ≡ true → pins k ≡ true
    right {k} o e = o (or_second (names_in p k) (names_in q k) e)

  step_among : (p : Vector) (r : Beside) → Inside p → Among r → Among (stepped p r)
  step_among p r o h =
      record { some = λ k e. or_either (has_edge_on k p) (r.names k) e (λ a. o k (edge_named k p a)) (h.some k) }

  stop_among : (p : Vector) (r : Beside) → Inside p → Among r → Among (if is_step_lem p then stepped p r else alone)
  stop_among p r o h = if_all Among (is_step_lem p) (λ e. step_among p r o h) (λ e. none_among)

  front_among : (p : Vector) (r : Beside) → Inside p → Among r → Among (front p r)
  unfolding front names_in
  front_among (edge e c) r o h = step_among (edge e c) r o h
  front_among (join j p q) r o h =
      if_all Among (is_then j)
      (λ e. front_among p (front q r) (λ n. left p q (o n)) (front_among q r (λ n. right p q (o n)) h))
      (λ e. stop_among (join j p q) r o h)
  front_among (while s p c) r o h = none_among

  back_among : (p : Vector) (r : Beside) → Inside p → Among r → Among (back p r)
  unfolding back names_in
  back_among (edge e c) r o h = step_among (edge e c) r o h
  back_among (join j p q) r o h =
      if_all Among (is_then j)
      (λ e. back_among q (back p r) (λ n. right p q (o n)) (back_among p r (λ n. left p q (o n)) h))
      (λ e. stop_among (join j p q) r o h)
  back_among (while s p c) r o h = none_among

  kept_inside : (m : ℕ) (f : ℕ → Bool) (p : Vector) → ((k : ℕ) → f k ≡ true → pins k ≡ true) → Inside p
      → Inside (kept m f p)
  unfolding kept
  kept_inside zero f p h o = o
  kept_inside (suc m) f p h o = go (f m) refl (kept_inside m f p h o)
    where
      go : (q : Bool) → f m ≡ q → Inside (kept m f p)
          → Inside (if q then join with (kept m f p) (edge stays (name m)) else kept m f p)
      go true e r = unfold names_in names in
          λ n a. or_either (names_in (kept m f p) n) _ a (r n)
          (λ b. subst (λ (x : ℕ). pins x ≡ true) (eqb-true m n b) (h m e))
      go false e r = r

  -- a step between what is before it and what is after it
  module _ (b a : Beside) (p : Vector) (g : Among b) (h : Among a) (o : Inside p) where
    held_among : (k : ℕ) → held b p a k ≡ true → pins k ≡ true
    unfolding held
    held_among k e =
        let r = and_right (b.changing && (moves p && a.changing)) _ e in
        or_either (b.names k) (has_edge_on k p || a.names k) (and_left _ (not (has_edge_on k p)) r) (g.some k)
        (λ d. or_either (has_edge_on k p) (a.names k) d (λ c. o k (edge_named k p c)) (h.some k))

    step_inside : Inside (kept 32 (held b p a) p)
    step_inside = kept_inside 32 (held b p a) p held_among o

  both_inside : (p q : Vector) → Inside p → Inside q → (n : ℕ) → (names_in p n || names_in q n) ≡ true → pins n ≡ true
  both_inside p q f g n e = or_either (names_in p n) (names_in q n) e (f n) (g n)

  part_inside : (b a : Beside) (p : Vector) → Among b → Among a → Inside p → Inside (filled_beside b a p)
  unfolding filled_beside names_in
  part_inside b a (edge e c) g h o = step_inside b a (edge e c) g h o
  part_inside b a (join j p q) g h o =
      let l : Inside p = λ n. left p q (o n) in
      let r : Inside q = λ n. right p q (o n) in
      let then_left = part_inside b (front q a) p g (front_among q a r h) l in
      let then_right = part_inside (back p b) a q (back_among p b l g) h r in
      let alone_left = part_inside alone alone p none_among none_among l in
      let alone_right = part_inside alone alone q none_among none_among r in
      if_all Inside (is_then j)
      (λ e. both_inside (filled_beside b (front q a) p) (filled_beside (back p b) a q) then_left then_right)
      (λ e.
      if_all Inside (is_step_lem (join j p q)) (λ d. step_inside b a (join j p q) g h o)
      (λ d. both_inside (filled_beside alone alone p) (filled_beside alone alone q) alone_left alone_right))
  part_inside b a (while s p c) g h o =
      let f = part_inside alone alone p none_among none_among (λ n e. o n (or_first (names_in p n) (names c n) e)) in
      λ n e.
      or_either (names_in (filled_beside alone alone p) n) (names c n) e (f n)
      (λ d. o n (or_second (names_in p n) (names c n) d))

pub filled_named : (p : Vector) (n : ℕ) → names_in (filled p) n ≡ true → names_in p n ≡ true
filled_named p =
    let none = none_among (names_in p) in
    rw (filled_beside_lem p) (part_inside (names_in p) alone alone p none none (λ n e. e))

pub meant_named : (ρ : Rules) (p : Vector) (n : ℕ) → names_in (meant ρ p) n ≡ true → names_in p n ≡ true
meant_named ρ p = meant_cases ρ p (λ q. (n : ℕ) → names_in q n ≡ true → names_in p n ≡ true) (λ n e. e) (filled_named p)
