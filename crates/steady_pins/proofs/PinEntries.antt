-- What holds of the place of each operand holds of each pin that is found: a pin is such a place.
--   Entries                  each entry of a list that is not 0 is so
--   zeros_entries, set_entries, sets_entries, listed_entries     lists made of such entries
--   own_entries, front_entries, back_entries, marked_entries     what is beside a part; the pins
use Rattle.std.specs.Prelude.{if◌then◌else◌}
use Prim.Native.Nat.{ℕ, suc, ◌-◌, ◌*◌, ◌<◌, ◌≤◌}
use native.Mathlib.Omega.{arith}
use native.Mathlib.Nat.{zero-add}
use mathlib.Core.Path.{◌≡◌, ap, ◌∙◌}
use mathlib.Core.Bool.{Bool, true, false, ◌&&◌}
use mathlib.Core.List.{List, [], ◌∷◌}
use mathlib.Core.Logic.{◌⊎◌, inl, inr}
use lib.Dec.{eqb}
use lib.ListN.{length, get_or, set, replicate, length-set, get_or-eq_default}
use lib.Seq.{sets, get_or-set_same, get_or-set_other}
use Rattle.basics.specs.Words.{listed}
use Rattle.basics.proofs.Bools.{equal?, below?}
use Rattle.basics.proofs.Listed.{listed_at, listed_length}
use Rattle.alf.specs.Expressions.{Boolean, name, literal, negated, binary, choice}
use Rattle.alf.specs.Expressions.{Vector, edge, join}
use Rattle.alf.specs.Steady.{is_then, is_step_lem, moves}
use Rattle.steady_pins.specs.declared.finding.Beside.{Beside}
use Rattle.steady_pins.specs.Finding.{named, own, alone, stepped, front, back, pin_entry, pin_row}
use Rattle.steady_pins.specs.Finding.{step_marked, marked}
use Rattle.steady_pins.proofs.Placed.{Placed, on_edge, on_join, behind, ahead}
use Rattle.steady_pins.proofs.BesideLike.{zeros}

pub record Entries (P : ℕ → Type 0) (l : List ℕ) : Type 0 where
  pub is : (i : ℕ) → 0 < get_or l i 0 → P (get_or l i 0)

module _ (P : ℕ → Type 0) where
  fine_as : {v w : ℕ} → v ≡ w → (0 < w → P w) → 0 < v → P v
  fine_as e h = rw e h

  pub zeros_entries : (n : ℕ) → Entries P (replicate n 0)
  zeros_entries n = record { is = λ i. fine_as (zeros i n) (λ u. absurd (omega arith)) }

  set_entries : {l : List ℕ} (k : ℕ) {v : ℕ} → (0 < v → P v) → Entries P l → Entries P (set l k v)
  set_entries {l} k {v} h a = record { is = λ i. go i (equal? i k) (below? k (length l)) }
    where
      go : (i : ℕ) → (i ≡ k) ⊎ (i ≡ k → ⊥) → (k < length l) ⊎ (length l ≤ k)
          → 0 < get_or (set l k v) i 0 → P (get_or (set l k v) i 0)
      go i (inl e) (inl u) = fine_as (ap (λ (n : ℕ). get_or (set l k v) n 0) e ∙ get_or-set_same l k v 0 u) h
      go i (inl e) (inr u) =
          fine_as (get_or-eq_default (set l k v) 0 {n = i} (omega (arith, length-set l k v)))
          (λ u. absurd (omega arith))
      go i (inr d) u = fine_as (get_or-set_other l k i v 0 d) (a.is i)

  sets_entries : (w l : List ℕ) (k : ℕ) → Entries P w → Entries P l → Entries P (sets l k w)
  sets_entries [] l k h a = a
  sets_entries (v ∷ w) l k h a =
      sets_entries w (set l k v) (suc k) (record { is = λ i. h.is (suc i) }) (set_entries k (h.is 0) a)

  listed_entries : (n : ℕ) (f : ℕ → ℕ) → ((k : ℕ) → 0 < f k → P (f k)) → Entries P (listed 0 n f)
  listed_entries n f h = record { is = λ i. go i (below? i n) }
    where
      go : (i : ℕ) → (i < n) ⊎ (n ≤ i) → 0 < get_or (listed 0 n f) i 0 → P (get_or (listed 0 n f) i 0)
      go i (inl u) = fine_as (listed_at 0 n i f 0 u ∙ ap f (zero-add i)) (h i)
      go i (inr u) =
          fine_as (get_or-eq_default (listed 0 n f) 0 {n = i} (omega (arith, listed_length 0 n f)))
          (λ u. absurd (omega arith))

  named_entries : (place : ℕ) (c : Boolean) {l : List ℕ} → P place → Entries P l → Entries P (named place c l)
  unfolding named
  named_entries place (name n) h a = set_entries n (λ u. h) a
  named_entries place (literal s) h a = a
  named_entries place (negated b) h a = a
  named_entries place (binary o b c) h a = a
  named_entries place (choice b c d) h a = a

  own_entries : {end : ℕ} {p : Vector} {l : List ℕ} → Placed (λ i c. P i) end p → Entries P l
      → Entries P (own end p l)
  unfolding own
  own_entries (on_edge {c = c} r u) a = named_entries _ c r a
  own_entries (on_join x y u) a = own_entries x (own_entries y a)
  own_entries (behind x r u) a = a
  own_entries (ahead x r u) a = a

  pub record Near (b : Beside) : Type 0 where
    pub places : Entries P b.places

  pub near_alone : Near alone
  near_alone = record { places = zeros_entries 32 }

  near_step : {end : ℕ} {p : Vector} {b : Beside} → Placed (λ i c. P i) end p → Near b → Near (stepped end p b)
  near_step h a = record { places = own_entries h a.places }

  near_choice : (u v : Bool) {x y z : Beside} → Near x → Near y → Near z → Near (if u then x else if v then y else z)
  near_choice true v a b c = a
  near_choice false true a b c = b
  near_choice false false a b c = c

  front_entries : {end : ℕ} {p : Vector} {b : Beside} → Placed (λ i c. P i) end p → Near b → Near (front end p b)
  unfolding front
  front_entries (on_edge r u) a = near_step (on_edge r u) a
  front_entries (on_join {j = j} {p = p} {q = q} x y u) a =
      near_choice (is_then j) (is_step_lem (join j p q)) (front_entries x (front_entries y a))
      (near_step (on_join x y u) a) near_alone
  front_entries (behind x r u) a = near_alone
  front_entries (ahead x r u) a = near_alone

  back_entries : {end : ℕ} {p : Vector} {b : Beside} → Placed (λ i c. P i) end p → Near b → Near (back end p b)
  unfolding back
  back_entries (on_edge r u) a = near_step (on_edge r u) a
  back_entries (on_join {j = j} {p = p} {q = q} x y u) a =
      near_choice (is_then j) (is_step_lem (join j p q)) (back_entries y (back_entries x a))
      (near_step (on_join x y u) a) near_alone
  back_entries (behind x r u) a = near_alone
  back_entries (ahead x r u) a = near_alone

  fine_entry : (b m a : ℕ) → (0 < b → P b) → (0 < a → P a) → 0 < pin_entry b m a → P (pin_entry b m a)
  unfolding pin_entry
  fine_entry b m a f g = go (eqb m 0) (eqb b 0)
    where
      go : (u v : Bool) → 0 < (if u then (if v then a else b) else 0) → P (if u then (if v then a else b) else 0)
      go true true = g
      go true false = f
      go false v = λ u. absurd (omega arith)

  step_entries : (b : Beside) (end : ℕ) (p : Vector) (a : Beside) {l : List ℕ} → Near b → Near a → Entries P l
      → Entries P (step_marked b end p a l)
  unfolding step_marked pin_row
  step_entries b end p a {l} f g h = go (b.changing && (moves p && a.changing))
    where
      row : Entries P (pin_row b end p a)
      row = listed_entries 32 _ (λ n. fine_entry (get_or b.places n 0) (get_or (own end p (replicate 32 0)) n 0)
          (get_or a.places n 0) (f.places.is n) (g.places.is n))

      go : (q : Bool) → Entries P (if q then sets l ((end - 1) * 32) (pin_row b end p a) else l)
      go true = sets_entries (pin_row b end p a) l ((end - 1) * 32) row h
      go false = h

  pub marked_entries : {end : ℕ} {p : Vector} {b a : Beside} {l : List ℕ} → Placed (λ i c. P i) end p → Near b → Near a
      → Entries P l → Entries P (marked end p b a l)
  unfolding marked
  marked_entries (on_edge {e = e} {c = c} r u) f g h = step_entries _ _ (edge e c) _ f g h
  marked_entries (on_join {j = j} {p = p} {q = q} x y u) f g h =
      go (is_then j) (is_step_lem (join j p q))
      (marked_entries y (back_entries x f) g (marked_entries x f (front_entries y g) h))
      (step_entries _ _ (join j p q) _ f g h)
      (marked_entries y near_alone near_alone (marked_entries x near_alone near_alone h))
    where
      go : (u v : Bool) {k l m : List ℕ} → Entries P k → Entries P l → Entries P m
          → Entries P (if u then k else if v then l else m)
      go true v a b c = a
      go false true a b c = b
      go false false a b c = c
  marked_entries (behind x r u) f g h = marked_entries x near_alone near_alone h
  marked_entries (ahead x r u) f g h = marked_entries x near_alone near_alone h
