-- The pins of an expression stand at its own parts: finding them changes no entry of another part, and what an
-- expression is by its places depends on the entries of its own parts alone.
--   marked_outside           an entry of no part of the expression stays
--   places_same              the same entries, the same expression
--   places_none              no pins, the expression as it is
use Rattle.std.specs.Prelude.{if◌then◌else◌}
use Prim.Native.Nat.{ℕ, zero, suc, ◌+◌, ◌-◌, ◌*◌, ◌<◌, ◌≤◌}
use native.Mathlib.Omega.{arith}
use mathlib.Core.Path.{◌≡◌, refl, ◌∙◌}
use mathlib.Core.Bool.{Bool, true, false, ◌&&◌}
use mathlib.Core.List.{List}
use mathlib.Core.Logic.{◌⊎◌, inl, inr}
use lib.ListN.{length, get_or}
use lib.Seq.{sets}
use borrow.Author.Tests.{eq-eqb}
use Rattle.basics.proofs.Listed.{listed_length}
use Rattle.basics.proofs.Stores.{sets_before, sets_behind}
use Rattle.alf.specs.Expressions.{Boolean, Vector, edge, join, Join}
use Rattle.alf.specs.Steady.{is_then, is_step_lem, moves}
use Rattle.steady_pins.specs.declared.finding.Beside.{Beside}
use Rattle.steady_pins.specs.Pinned.{pin_at, pinned, by_places}
use Rattle.steady_pins.specs.Finding.{pin_row, step_marked, marked}
use Rattle.steady_pins.proofs.Placed.{size, join_size, right_size, left_size, edge_size}
use Rattle.steady_pins.proofs.Placed.{Placed, on_edge, on_join, behind, ahead}

-- an entry of no part of an expression of n bytes that ends at `end`
pub record Outside (end n i : ℕ) : Type 0 where
  pub is : (i < (end - n) * 32) ⊎ (end * 32 ≤ i)

-- of an operand that ends at m and has k bytes
narrower : {end n m k i : ℕ} → Outside end n i → end - n ≤ m - k → m ≤ end → Outside m k i
narrower {end} {n} {m} {k} {i} o l u = go o.is
  where
    go : (i < (end - n) * 32) ⊎ (end * 32 ≤ i) → Outside m k i
    go (inl a) = record { is = inl (omega arith) }
    go (inr a) = record { is = inr (omega arith) }

pub row_long : (before : Beside) (end : ℕ) (p : Vector) (after : Beside) → length (pin_row before end p after) ≡ 32
unfolding pin_row
row_long before end p after = listed_length 0 32 _

pub step_outside : (before : Beside) (end : ℕ) (p : Vector) (after : Beside) (l : List ℕ) (i : ℕ) {n : ℕ}
    → 0 < n → 0 < end → Outside end n i → get_or (step_marked before end p after l) i 0 ≡ get_or l i 0
unfolding step_marked
step_outside before end p after l i {n} s e o = go (before.changing && (moves p && after.changing)) o.is
  where
    go : (q : Bool) → (i < (end - n) * 32) ⊎ (end * 32 ≤ i)
        → get_or (if q then sets l ((end - 1) * 32) (pin_row before end p after) else l) i 0 ≡ get_or l i 0
    go true (inl a) = sets_before l ((end - 1) * 32) (pin_row before end p after) i (omega arith)
    go true (inr a) =
        let k = row_long before end p after in
        sets_behind l ((end - 1) * 32) (pin_row before end p after) i (omega arith)
    go false a = refl

-- the two operands of a join, and the operand of a condition, in what the whole has
left_outside : (j : Join) (p q : Vector) {end i : ℕ} → size (join j p q) ≤ end → Outside end (size (join j p q)) i
    → Outside (end - 1 - size q) (size p) i
left_outside j p q l o = let e = join_size j p q in narrower o (omega arith) (omega arith)

right_outside : (j : Join) (p q : Vector) {end i : ℕ} → size (join j p q) ≤ end → Outside end (size (join j p q)) i
    → Outside (end - 1) (size q) i
right_outside j p q l o = let e = join_size j p q in narrower o (omega arith) (omega arith)

pub marked_outside : {R : ℕ → Boolean → Type 0} {end : ℕ} {p : Vector} (before after : Beside) (l : List ℕ) (i : ℕ)
    → Placed R end p → Outside end (size p) i → get_or (marked end p before after l) i 0 ≡ get_or l i 0
unfolding marked
marked_outside {end = end} before after l i (on_edge {e = e} {c = c} r u) o =
    let s = edge_size e c in step_outside before end (edge e c) after l i (omega arith) (omega arith) o
marked_outside {end = end} before after l i (on_join {j = j} {p = p} {q = q} a b u) o =
    let s = join_size j p q in
    go _ _ _ (is_then j) (is_step_lem (join j p q))
    (marked_outside _ _ _ i b (right_outside j p q u o) ∙ marked_outside _ _ l i a (left_outside j p q u o))
    (marked_outside _ _ _ i b (right_outside j p q u o) ∙ marked_outside _ _ l i a (left_outside j p q u o))
    (step_outside before end (join j p q) after l i (omega arith) (omega arith) o)
  where
    go : (x y z : List ℕ) (u v : Bool) → get_or x i 0 ≡ get_or l i 0 → get_or y i 0 ≡ get_or l i 0
        → get_or z i 0 ≡ get_or l i 0 → get_or (if u then x else if v then z else y) i 0 ≡ get_or l i 0
    go x y z true v a b c = a
    go x y z false true a b c = c
    go x y z false false a b c = b
marked_outside before after l i (behind {p = p} {c = c} a r u) o =
    let s = right_size p c in marked_outside _ _ l i a (narrower o (omega arith) (omega arith))
marked_outside before after l i (ahead {p = p} {c = c} a r u) o =
    let s = left_size p c in marked_outside _ _ l i a (narrower o (omega arith) (omega arith))

-- the entries of the parts of an expression of n bytes that ends at `end`
pub record Inside (end n i : ℕ) : Type 0 where
  pub low : (end - n) * 32 ≤ i
  pub high : i < end * 32

wider : {end n m k i : ℕ} → Inside m k i → end - n ≤ m - k → m ≤ end → Inside end n i
wider o l u = let a = o.low in let b = o.high in record { low = omega arith; high = omega arith }

-- its own row
pub own_row : {end n : ℕ} (k : ℕ) → 0 < n → 0 < end → k < 32 → Inside end n ((end - 1) * 32 + k)
own_row k s e l = record { low = omega arith; high = omega arith }

module _ (operand : ℕ → Boolean) where
  pinned_same : (l m : List ℕ) (n end : ℕ) (p : Vector) → ((k : ℕ) → k < n → pin_at l end k ≡ pin_at m end k)
      → pinned operand l n end p ≡ pinned operand m n end p
  unfolding pinned
  pinned_same l m zero end p h = refl
  pinned_same l m (suc n) end p h =
      rw (h n (omega arith), pinned_same l m n end p (λ k u. h k (omega arith))) refl

  pub places_same : {R : ℕ → Boolean → Type 0} {end : ℕ} {p : Vector} (l m : List ℕ) → Placed R end p
      → ((i : ℕ) → Inside end (size p) i → get_or l i 0 ≡ get_or m i 0)
      → by_places operand l end p ≡ by_places operand m end p
  unfolding by_places
  places_same {end = end} l m (on_edge {e = e} {c = c} r u) h =
      let s = edge_size e c in
      pinned_same l m 32 end _ (λ k v. h ((end - 1) * 32 + k) (own_row k (omega arith) (omega arith) v))
  places_same {end = end} l m (on_join {j = j} {p = p} {q = q} a b u) h =
      let s = join_size j p q in
      rw (
        places_same l m a (λ i o. h i (wider o (omega arith) (omega arith))),
        places_same l m b (λ i o. h i (wider o (omega arith) (omega arith))),
      )
      (pinned_same l m 32 end _ (λ k v. h ((end - 1) * 32 + k) (own_row k (omega arith) (omega arith) v)))
  places_same l m (behind {p = p} {c = c} a r u) h =
      let s = right_size p c in rw (places_same l m a (λ i o. h i (wider o (omega arith) (omega arith)))) refl
  places_same l m (ahead {p = p} {c = c} a r u) h =
      let s = left_size p c in rw (places_same l m a (λ i o. h i (wider o (omega arith) (omega arith)))) refl

  -- a part without pins
  pub pinned_bare : (l : List ℕ) (n end : ℕ) (p : Vector) → ((k : ℕ) → k < n → pin_at l end k ≡ 0)
      → pinned operand l n end p ≡ p
  unfolding pinned
  pinned_bare l zero end p h = refl
  pinned_bare l (suc n) end p h =
      rw (eq-eqb _ 0 (h n (omega arith))) (pinned_bare l n end p (λ k u. h k (omega arith)))

  pub places_none : {end : ℕ} {p : Vector} (l : List ℕ) → Placed (λ i c. operand i ≡ c) end p
      → ((i : ℕ) → Inside end (size p) i → get_or l i 0 ≡ 0) → by_places operand l end p ≡ p
  unfolding by_places
  places_none {end = end} l (on_edge {e = e} {c = c} r u) h =
      let s = edge_size e c in
      rw r (pinned_bare l 32 end _ (λ k v. h ((end - 1) * 32 + k) (own_row k (omega arith) (omega arith) v)))
  places_none {end = end} l (on_join {j = j} {p = p} {q = q} a b u) h =
      let s = join_size j p q in
      rw (
        places_none l a (λ i o. h i (wider o (omega arith) (omega arith))),
        places_none l b (λ i o. h i (wider o (omega arith) (omega arith))),
      )
      (pinned_bare l 32 end _ (λ k v. h ((end - 1) * 32 + k) (own_row k (omega arith) (omega arith) v)))
  places_none l (behind {p = p} {c = c} a r u) h =
      let s = right_size p c in
      rw (r, places_none l a (λ i o. h i (wider o (omega arith) (omega arith)))) refl
  places_none l (ahead {p = p} {c = c} a r u) h =
      let s = left_size p c in
      rw (r, places_none l a (λ i o. h i (wider o (omega arith) (omega arith)))) refl
