-- What a part with its pins answers on a window: as without them, and no where a pin moves at the last event.
--   last_event       P & Q, where Q answers on windows of one event alone
--   stays_with       P & ?- c
--   pinned_answer    a part with the pins of its first n entries
use Rattle.std.specs.Prelude.{if◌then◌else◌}
use Prim.Native.Nat.{ℕ, zero, suc, ◌+◌, ◌-◌, ◌<◌, ◌≤◌, min, max}
use native.Mathlib.Omega.{arith}
use mathlib.Core.Path.{◌≡◌, refl, sym, ◌∙◌}
use mathlib.Core.Bool.{Bool, true, false, not, ◌||◌}
use mathlib.Core.Logic.{◌⊎◌, inl, inr}
use mathlib.Core.List.{List}
use lib.Dec.{eqb}
use borrow.Author.Tests.{eq-eqb, ne_eqb}
use Rattle.basics.specs.Words.{some}
use Rattle.alf.specs.Expressions.{Boolean, Vector, edge, join, with, stays}
use Rattle.alf.specs.Windows.{Window, NO, edge_on, together, joined, answer}
use Rattle.basics.proofs.Bools.{equal?, below?}
use Rattle.basics.proofs.Extremes.{greatest_one}
use Rattle.alf.proofs.WindowBounds.{no_event, answer_small}
use Rattle.steady_pins.specs.Pinned.{pin_at, pinned}
use Rattle.steady_pins.specs.Moving.{pins_move}
use Rattle.steady_pins.proofs.PinMoves.{moves_none, moves_one, pinned_none, pinned_one}

-- the shorter of the two is the last event
module _ (P Q : Window) (a b : ℕ) (h : a < b) (off : P b b ≡ 0) (one : (x : ℕ) → (b ≡ x + 1 → ⊥) → Q x b ≡ 0) where
  shared : ℕ → ℕ
  shared i = max (min (P a b) (Q (a + i) b)) (min (P (a + i) b) (Q a b))

  others : (i : ℕ) → i < b + 1 - a → (i ≡ b - 1 - a → ⊥) → (b ≡ a + 1) ⊎ (b ≡ a + 1 → ⊥) → shared i ≡ 0
  unfolding shared
  others i l n (inl e) =
      let d : a + i ≡ b = omega arith in
      let q = one (a + i) (λ f. n (omega arith)) in
      let p : P (a + i) b ≡ 0 = rw d off in
      omega arith
  others i l n (inr e) =
      let q = one (a + i) (λ f. n (omega arith)) in
      let o = one a e in
      omega arith

  the_last : (b ≡ a + 1) ⊎ (b ≡ a + 1 → ⊥) → shared (b - 1 - a) ≡ min (P a b) (Q (b - 1) b)
  unfolding shared
  the_last (inl e) =
      let d : a + (b - 1 - a) ≡ b - 1 = omega arith in
      let f : b - 1 ≡ a = omega arith in
      rw (d, f) (omega arith)
  the_last (inr e) =
      let d : a + (b - 1 - a) ≡ b - 1 = omega arith in
      let o = one a e in
      rw d (omega arith)

  pub last_event : together P Q a b ≡ min (P a b) (Q (b - 1) b)
  unfolding together shared
  last_event =
      greatest_one (b + 1 - a) (b - 1 - a) shared (omega arith) (λ i l n. others i l n (equal? b (a + 1)))
      ∙ the_last (equal? b (a + 1))

pick_same : (q : Bool) (x : ℕ) → x ≡ 0 → (if q then x else 0) ≡ 0
pick_same true x h = h
pick_same false x h = refl

pick_min : (q : Bool) (x : ℕ) → x ≤ 2 → min x (if q then 2 else 0) ≡ (if q then x else 0)
pick_min true x h = omega arith
pick_min false x h = omega arith

module _ (st : Boolean → ℕ → ℕ) where
  one_event : (c : Boolean) (x b : ℕ) → (b ≡ x + 1 → ⊥) → answer st (edge stays c) x b ≡ 0
  unfolding answer
  one_event c x b n = rw (ne_eqb b (x + 1) n) refl

  at_last : (c : Boolean) (b : ℕ) → 0 < b
      → answer st (edge stays c) (b - 1) b ≡ (if eqb (st c (b - 1)) (st c b) then 2 else 0)
  unfolding answer edge_on
  at_last c b h = rw (eq-eqb b (b - 1 + 1) (omega arith)) refl

  with_is : (p : Vector) (c : Boolean) (a b : ℕ)
      → answer st (join with p (edge stays c)) a b ≡ together (answer st p) (answer st (edge stays c)) a b
  unfolding answer joined
  with_is p c a b = refl

  pub stays_with : (p : Vector) (c : Boolean) (a b : ℕ)
      → answer st (join with p (edge stays c)) a b ≡ (if eqb (st c (b - 1)) (st c b) then answer st p a b else NO)
  stays_with p c a b = go (below? a b)
    where
      go : (a < b) ⊎ (b ≤ a)
          → answer st (join with p (edge stays c)) a b
          ≡ (if eqb (st c (b - 1)) (st c b) then answer st p a b else NO)
      go (inl l) =
          with_is p c a b
          ∙ last_event (answer st p) (answer st (edge stays c)) a b l (no_event st p b b (omega arith))
          (λ x n. one_event c x b n)
          ∙ rw (at_last c b (omega arith))
          (pick_min (eqb (st c (b - 1)) (st c b)) (answer st p a b) (answer_small st p a b))
      go (inr l) =
          no_event st (join with p (edge stays c)) a b l
          ∙ sym (pick_same (eqb (st c (b - 1)) (st c b)) (answer st p a b) (no_event st p a b l))

-- one entry more
or_one : (s q : Bool) (x : ℕ) → (if q then if s then 0 else x else 0) ≡ (if s || not q then 0 else x)
or_one true true x = refl
or_one true false x = refl
or_one false true x = refl
or_one false false x = refl

module _ (st : Boolean → ℕ → ℕ) (operand : ℕ → Boolean) (pins : List ℕ) (end : ℕ) where
  abbrev moves : ℕ → ℕ → Bool
  moves b n = pins_move (λ m. st (operand m)) pins end n b

  abbrev pin : ℕ → Boolean
  pin n = operand (pin_at pins end n)

  module _ (p : Vector) where
    abbrev tested : ℕ → Vector
    tested n = pinned operand pins n end p

    module _ (a b : ℕ) where
      abbrev Answers : ℕ → Type 0
      Answers n = answer st (tested n) a b ≡ (if moves b n then NO else answer st p a b)

      next : (n : ℕ) → Answers n → (q : Bool) → eqb (pin_at pins end n) 0 ≡ q → Answers (suc n)
      next n h true e = rw (pinned_none operand pins end p n e, moves_none (λ m. st (operand m)) pins end b n e) h
      next n h false e =
          rw (pinned_one operand pins end p n e, moves_one (λ m. st (operand m)) pins end b n e)
          (stays_with st (tested n) (pin n) a b
          ∙ rw h (or_one (moves b n) (eqb (st (pin n) (b - 1)) (st (pin n) b)) (answer st p a b)))

      pub pinned_answer : (n : ℕ) → Answers n
      unfolding pinned some
      pinned_answer zero = refl
      pinned_answer (suc n) = next n (pinned_answer n) (eqb (pin_at pins end n) 0) refl
