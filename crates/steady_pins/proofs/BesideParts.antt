-- What is beside a part of a chain, and the pins of an expression, by its last byte.
--   then_front, step_front, stop_front     the row that an expression begins with; likewise for `back`
--   step_marked_lem, then_marked, before_marked, condition_marked, other_marked       the pins of an expression
use Prim.Native.Nat.{ℕ, zero, suc, ◌-◌, ◌<◌}
use native.Mathlib.Omega.{arith}
use mathlib.Core.Path.{◌≡◌, refl, ap, sym, ◌∙◌}
use mathlib.Core.Bool.{Bool, true, false, ◌&&◌}
use mathlib.Core.List.{List}
use lib.ListN.{get_or, length}
use Rattle.alf.specs.Expressions.{Vector, edge, join, while}
use Rattle.alf.specs.Expressions.{Join, followed_by_join, either_order, with_or_then, any_order, with, or_else}
use Rattle.alf.specs.Bytes.{vector_bytes}
use Rattle.alf.specs.Decoder.{Stack, join_at, is_vector, top_vector, stack_at}
use Rattle.alf.specs.Steady.{is_then, is_with, is_step_lem}
use Rattle.basics.proofs.Bools.{never, and_left}
use Rattle.alf.proofs.Made.{Made, a_name, a_literal, a_negation, a_binary, a_choice, an_edge, a_join}
use Rattle.alf.proofs.Made.{a_condition, a_condition_before, nothing}
use Rattle.alf.proofs.Parts.{made_last}
use Rattle.trees.specs.Parts.{EndsVector, vector_at, Start}
use Rattle.trees.proofs.Vectors.{Joined, Conditioned, vector_pos, before_is, before_ends, join_is, ends_left}
use Rattle.steady_pins.specs.declared.finding.Beside.{Beside}
use Rattle.steady_pins.specs.Finding.{Tree, alone, stepped, front, back, step_marked, marked}
use Rattle.steady_pins.proofs.Starting.{vector_start, boolean_start}

-- whether an expression's last operator is `->`
unfoldable pub is_chain : Vector → Bool
is_chain (edge e c) = false
is_chain (join j p q) = is_then j
is_chain (while s p c) = false

then_only : (k : ℕ) → (k ≡ 0 → ⊥) → is_then (join_at k) ≡ false
unfolding is_then join_at
then_only zero n = absurd (n refl)
then_only (suc zero) n = refl
then_only (suc (suc zero)) n = refl
then_only (suc (suc (suc zero))) n = refl
then_only (suc (suc (suc (suc zero)))) n = refl
then_only (suc (suc (suc (suc (suc zero))))) n = refl
then_only (suc (suc (suc (suc (suc (suc k)))))) n = refl

unchained : (names b : ℕ) {s s' : Stack} → Made names b s s' → is_vector s' ≡ true → (b ≡ 50 → ⊥)
    → is_chain (top_vector s') ≡ false
unfolding is_vector top_vector is_chain
unchained names b (a_name l u) h n = never h
unchained names b (a_literal l u) h n = never h
unchained names b (a_negation e d) h n = never h
unchained names b (a_binary l u e) h n = never h
unchained names b (a_choice e d) h n = never h
unchained names b (an_edge l u e) h n = refl
unchained names b (a_join l u e) h n = then_only (b - 50) (λ d. n (omega arith))
unchained names b (a_condition e d) h n = refl
unchained names b (a_condition_before e d) h n = refl
unchained names b nothing h n = never h

-- a step is no chain
step_unchained : (p : Vector) → is_step_lem p ≡ true → is_chain p ≡ false
unfolding is_step_lem is_chain is_with is_then
step_unchained (edge e c) h = refl
step_unchained (join j p q) h = go j (and_left (is_with j) (is_step_lem p && is_step_lem q) h)
  where
    go : (j : Join) → is_with j ≡ true → is_then j ≡ false
    go followed_by_join h = never h
    go either_order h = never h
    go with_or_then h = never h
    go any_order h = never h
    go with h = refl
    go or_else h = never h
step_unchained (while s p c) h = refl

-- by what an expression is
module _ (end : ℕ) (r : Beside) where
  pub step_front : (p : Vector) → is_step_lem p ≡ true → front end p r ≡ stepped end p r
  unfolding front is_chain
  step_front (edge e c) h = refl
  step_front (join j p q) h = rw (step_unchained (join j p q) h, h) refl
  step_front (while s p c) h = never (unfold is_step_lem in h)

  pub stop_front : (p : Vector) → is_chain p ≡ false → is_step_lem p ≡ false → front end p r ≡ alone
  unfolding front is_chain
  stop_front (edge e c) n h = never (sym (unfold is_step_lem in h))
  stop_front (join j p q) n h = rw (n, h) refl
  stop_front (while s p c) n h = refl

  pub step_back : (p : Vector) → is_step_lem p ≡ true → back end p r ≡ stepped end p r
  unfolding back is_chain
  step_back (edge e c) h = refl
  step_back (join j p q) h = rw (step_unchained (join j p q) h, h) refl
  step_back (while s p c) h = never (unfold is_step_lem in h)

  pub stop_back : (p : Vector) → is_chain p ≡ false → is_step_lem p ≡ false → back end p r ≡ alone
  unfolding back is_chain
  stop_back (edge e c) n h = never (sym (unfold is_step_lem in h))
  stop_back (join j p q) n h = rw (n, h) refl
  stop_back (while s p c) n h = refl

module _ (end : ℕ) (before after : Beside) (l : List ℕ) where
  pub step_marked_lem : (p : Vector) → is_step_lem p ≡ true → marked end p before after l ≡ step_marked before end p after l
  unfolding marked is_chain
  step_marked_lem (edge e c) h = refl
  step_marked_lem (join j p q) h = rw (step_unchained (join j p q) h, h) refl
  step_marked_lem (while s p c) h = never (unfold is_step_lem in h)

-- two operands
pub record Two (t : List ℕ) (names end m : ℕ) : Type 0 where
  pub joined : Joined t names end m
  pub left : Tree t names m
  pub right : Tree t names (end - 1)

module _ {t : List ℕ} {names end m : ℕ} (h : Tree t names end) (s : Start t names (end - 1) m) where
  two : Joined t names end m → Two t names end m
  two j =
      let few = h.few in
      record {
        joined = j;
        left = record { ends = j.left; few = omega (arith, s.before) };
        right = record { ends = j.right; few = omega arith };
      }

  pub then_two : get_or t (end - 1) 0 ≡ 50 → Two t names end m
  then_two e = two (join_is t names end h.ends s (omega arith) (λ d. omega arith) (λ d. omega arith))

  pub other_two : get_or t (end - 1) 0 < 64 → (get_or t (end - 1) 0 ≡ 56 → ⊥) → (get_or t (end - 1) 0 ≡ 57 → ⊥)
      → Two t names end m
  other_two k f g = two (join_is t names end h.ends s k f g)

  pub left_tree : get_or t (end - 1) 0 < 64 → (get_or t (end - 1) 0 ≡ 57 → ⊥) → Tree t names m
  left_tree k g =
      let few = h.few in record { ends = ends_left t names end h.ends s k g; few = omega (arith, s.before) }

module _ {t : List ℕ} {names end : ℕ} (h : Tree t names end) where
  pub before_tree : get_or t (end - 1) 0 ≡ 57 → Tree t names (end - 1)
  before_tree e = let few = h.few in record { ends = before_ends t names end h.ends e; few = omega arith }

-- by the last byte
module _ (t : List ℕ) (names end : ℕ) (h : EndsVector t names end) where
  byte : Made names (get_or t (end - 1) 0) (stack_at t names (end - 1)) (stack_at t names end)
  byte = made_last t names end (vector_pos t names end h)

  pub no_chain : (get_or t (end - 1) 0 ≡ 50 → ⊥) → is_chain (vector_at t names end) ≡ false
  no_chain n = unchained names _ byte h.whole n

  module _ {m : ℕ} (s : Start t names (end - 1) m) (j : Joined t names end m) where
    starts : end - 1 - length (vector_bytes (vector_at t names (end - 1))) ≡ m
    starts = vector_start t names (end - 1) j.right s

    then_is : get_or t (end - 1) 0 ≡ 50
        → vector_at t names end ≡ join followed_by_join (vector_at t names m) (vector_at t names (end - 1))
    unfolding join_at
    then_is e = rw e at j.is

    pub then_front : (r : Beside) → get_or t (end - 1) 0 ≡ 50
        → front end (vector_at t names end) r
        ≡ front m (vector_at t names m) (front (end - 1) (vector_at t names (end - 1)) r)
    unfolding front is_then
    then_front r e =
        ap (λ (p : Vector). front end p r) (then_is e)
        ∙ ap (λ (k : ℕ). front k (vector_at t names m) (front (end - 1) (vector_at t names (end - 1)) r)) starts

    pub then_back : (r : Beside) → get_or t (end - 1) 0 ≡ 50
        → back end (vector_at t names end) r
        ≡ back (end - 1) (vector_at t names (end - 1)) (back m (vector_at t names m) r)
    unfolding back is_then
    then_back r e =
        ap (λ (p : Vector). back end p r) (then_is e)
        ∙ ap (λ (k : ℕ). back (end - 1) (vector_at t names (end - 1)) (back k (vector_at t names m) r)) starts

    pub then_marked : (before after : Beside) (l : List ℕ) → get_or t (end - 1) 0 ≡ 50
        → marked end (vector_at t names end) before after l
        ≡ marked (end - 1) (vector_at t names (end - 1)) (back m (vector_at t names m) before) after
        (marked m (vector_at t names m) before (front (end - 1) (vector_at t names (end - 1)) after) l)
    unfolding marked is_then
    then_marked before after l e =
        ap (λ (p : Vector). marked end p before after l) (then_is e)
        ∙ ap (λ (k : ℕ). marked (end - 1) (vector_at t names (end - 1)) (back k (vector_at t names m) before) after
        (marked k (vector_at t names m) before (front (end - 1) (vector_at t names (end - 1)) after) l)) starts

    pub other_marked : (before after : Beside) (l : List ℕ) → (get_or t (end - 1) 0 ≡ 50 → ⊥)
        → is_step_lem (vector_at t names end) ≡ false
        → marked end (vector_at t names end) before after l
        ≡ marked (end - 1) (vector_at t names (end - 1)) alone alone (marked m (vector_at t names m) alone alone l)
    unfolding marked is_chain
    other_marked before after l n u =
        ap (λ (p : Vector). marked end p before after l) j.is
        ∙ rw (rw j.is at (no_chain n), rw j.is at u)
        (ap (λ (k : ℕ). marked (end - 1) (vector_at t names (end - 1)) alone alone
        (marked k (vector_at t names m) alone alone l)) starts)

  pub before_marked : (before after : Beside) (l : List ℕ) → get_or t (end - 1) 0 ≡ 57
      → marked end (vector_at t names end) before after l
      ≡ marked (end - 1) (vector_at t names (end - 1)) alone alone l
  unfolding marked
  before_marked before after l e = ap (λ (p : Vector). marked end p before after l) (before_is t names end h e)

  pub condition_marked : {m : ℕ} (before after : Beside) (l : List ℕ) → Start t names (end - 1) m
      → Conditioned t names end m
      → marked end (vector_at t names end) before after l ≡ marked m (vector_at t names m) alone alone l
  unfolding marked
  condition_marked {m} before after l s c =
      ap (λ (p : Vector). marked end p before after l) c.is
      ∙ ap (λ (k : ℕ). marked k (vector_at t names m) alone alone l) (boolean_start t names (end - 1) c.right s)
