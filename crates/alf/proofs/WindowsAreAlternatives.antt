-- The answer on a window is the greatest over the alternatives, and so is a row's answer, unknown included.
-- Over any states `st` of the boolean expressions at the rows; nothing is asked of them.
--   every_has_steps        each alternative has a step, and there is one
--   window_alternatives    answer on a to b = greatest over the alternatives of exactly b-a steps
--   row_alternatives       row i's answer = greatest over the alternatives, each ending at i
--   same-answer            so the named answers are the same at every row, row 0 included
--   empty_window           a window of no event answers no
use mathlib.Core.Path.{◌≡◌, refl, ap, ◌∙◌}
use mathlib.Core.List.{List, [], ◌∷◌, ◌++◌, map}
use mathlib.Core.Logic.{◌⊎◌, inl, inr}
use Prim.Native.Nat.{ℕ, ◌+◌, ◌<◌, min, max}
use native.Mathlib.Omega.{arith}
use lib.ListN.{length, length-append}
use borrow.Author.Tests.{eq-eqb, ne_eqb}
use Rattle.basics.specs.Words.{greatest_of, least_of}
use Rattle.alf.specs.Expressions.{Boolean, Edge, Vector, edge, join, while}
use Rattle.alf.specs.Expressions.{Join, followed_by_join, either_order, with_or_then, any_order, with, or_else}
use Rattle.alf.specs.Windows.{Window, edge_on, followed_by, either, together, held, joined, answer}
use Rattle.alf.specs.Alternatives.{Alternative, test, chained, overlapped, overlaid, conditioned, rewritten}
use Rattle.alf.specs.Alternatives.{alternatives, test_at, step_at, steps_from, on_window}
use Rattle.basics.proofs.Bools.{equal?}
use Rattle.basics.proofs.AllEntries.{none, more, all_append, all_map}
use Rattle.alf.proofs.EachAll.{all_each}
use Rattle.basics.proofs.Extremes.{min_max_left, greatest_of_append}
use Rattle.alf.proofs.Steps.{overlaid_length, conditioned_length, steps_conditioned, edge_small}
use Rattle.alf.proofs.Lifting.{Steps, win, most, win_on, win_off, lift}
use Rattle.alf.proofs.Joins.{chain_lifts}
use Rattle.alf.proofs.Overlays.{overlay_lifts}

-- each alternative has a step
chained_steps : {xs ys : List Alternative} → Steps xs → Steps ys → Steps (chained xs ys)
chained_steps = all_each ◌++◌ (λ x y h k. omega (arith, length-append x y))

overlapped_steps : {xs ys : List Alternative} → Steps xs → Steps ys → Steps (overlapped xs ys)
overlapped_steps = all_each overlaid (λ x y h k. omega (arith, overlaid_length x y))

rewritten_steps : (j : Join) {xs ys : List Alternative} → Steps xs → Steps ys → Steps (rewritten j xs ys)
unfolding rewritten
rewritten_steps followed_by_join s t = chained_steps s t
rewritten_steps either_order s t = all_append (chained_steps s t) (chained_steps t s)
rewritten_steps with_or_then s t = all_append (overlapped_steps s t) (chained_steps s t)
rewritten_steps any_order s t = all_append (all_append (chained_steps s t) (overlapped_steps s t)) (chained_steps t s)
rewritten_steps with s t = overlapped_steps s t
rewritten_steps or_else s t = all_append s t

pub every_has_steps : (p : Vector) → Steps (alternatives p)
unfolding alternatives
every_has_steps (edge e c) = more {x = (test e c ∷ []) ∷ []} (omega arith) none
every_has_steps (join j p q) = rewritten_steps j (every_has_steps p) (every_has_steps q)
every_has_steps (while s p c) =
    all_map (conditioned c) (λ x h. omega (arith, conditioned_length c x)) (every_has_steps p)

module _ (st : Boolean → ℕ → ℕ) where
  -- P answers as the alternatives xs do
  abbrev Means : Window → List Alternative → Type 0
  Means P xs = (a b : ℕ) → P a b ≡ most st xs a b

  means_either : (P Q : Window) (xs ys : List Alternative) → Means P xs → Means Q ys
      → Means (either P Q) (xs ++ ys)
  unfolding either
  means_either P Q xs ys p q a b =
      let e = greatest_of_append (on_window st a b) xs ys in
      let f = p a b in
      let g = q a b in
      omega arith

  module _ (P Q : Window) (xs ys : List Alternative)
      (s : Steps xs) (t : Steps ys) (p : Means P xs) (q : Means Q ys) where
    means_chained : Means (followed_by P Q) (chained xs ys)
    means_chained = lift st (chain_lifts st) P Q xs ys s t p q

    means_overlapped : Means (together P Q) (overlapped xs ys)
    means_overlapped = lift st (overlay_lifts st) P Q xs ys s t p q

  means_joined : (j : Join) (P Q : Window) (xs ys : List Alternative) → Steps xs → Steps ys → Means P xs
      → Means Q ys
      → Means (joined j P Q) (rewritten j xs ys)
  unfolding joined rewritten
  means_joined followed_by_join P Q xs ys s t p q = means_chained P Q xs ys s t p q
  means_joined either_order P Q xs ys s t p q =
      means_either _ _ _ _ (means_chained P Q xs ys s t p q) (means_chained Q P ys xs t s q p)
  means_joined with_or_then P Q xs ys s t p q =
      means_either _ _ _ _ (means_overlapped P Q xs ys s t p q) (means_chained P Q xs ys s t p q)
  means_joined any_order P Q xs ys s t p q =
      means_either _ _ _ _
      (means_either _ _ _ _ (means_chained P Q xs ys s t p q) (means_overlapped P Q xs ys s t p q))
      (means_chained Q P ys xs t s q p)
  means_joined with P Q xs ys s t p q = means_overlapped P Q xs ys s t p q
  means_joined or_else P Q xs ys s t p q = means_either P Q xs ys p q

  -- a condition goes into each alternative
  win_conditioned : (c : Boolean) (x : Alternative) (a b : ℕ) → 0 < length x
      → win st (conditioned c x) a b ≡ min (win st x a b) (held (st c) a b)
  win_conditioned c x a b h = go (equal? b (a + length x))
    where
      n : length (conditioned c x) ≡ length x
      n = conditioned_length c x

      go : (b ≡ a + length x) ⊎ (b ≡ a + length x → ⊥)
          → win st (conditioned c x) a b ≡ min (win st x a b) (held (st c) a b)
      go (inl e) =
          win_on st (conditioned c x) a b (omega (arith, n))
          ∙ steps_conditioned st c x a h
          ∙ rw (win_on st x a b e, e) refl
      go (inr d) =
          win_off st (conditioned c x) a b (λ e. d (omega (arith, n)))
          ∙ rw (win_off st x a b d) (omega arith)

  means_while : (c : Boolean) (P : Window) (xs : List Alternative) → Steps xs → Means P xs
      → Means (λ a b. min (P a b) (held (st c) a b)) (map (conditioned c) xs)
  unfolding greatest_of
  means_while c P [] none p a b = rw (p a b) (omega arith)
  means_while c P (x ∷ xs) (more h s) p a b =
      let i = means_while c (most st xs) xs s (λ a' b'. refl) a b in
      let w = win_conditioned c x a b h in
      rw (p a b, w) (min_max_left (win st x a b) (most st xs a b) (held (st c) a b) ∙ ap (max _) i)

  -- an edge is one step of one test
  lone : Edge → Boolean → Alternative
  lone e c = (test e c ∷ []) ∷ []

  lone_steps : (e : Edge) (c : Boolean) (a : ℕ) → steps_from st (lone e c) a ≡ edge_on e (st c a) (st c (a + 1))
  unfolding lone steps_from step_at least_of test_at
  lone_steps e c a = let u = edge_small e (st c a) (st c (a + 1)) in omega arith

  means_edge : (e : Edge) (c : Boolean) → Means (answer st (edge e c)) (lone e c ∷ [])
  unfolding answer greatest_of lone
  means_edge e c a b = go (equal? b (a + 1))
    where
      go : (b ≡ a + 1) ⊎ (b ≡ a + 1 → ⊥) → answer st (edge e c) a b ≡ max (win st (lone e c) a b) 0
      go (inl d) =
          let w = win_on st (lone e c) a b d ∙ lone_steps e c a in
          rw (w, eq-eqb b (a + 1) d, d) (omega arith)
      go (inr n) = rw (win_off st (lone e c) a b n, ne_eqb b (a + 1) n) refl

  pub window_alternatives : (p : Vector) → Means (answer st p) (alternatives p)
  unfolding answer alternatives lone
  window_alternatives (edge e c) a b = means_edge e c a b
  window_alternatives (join j p q) a b =
      means_joined j (answer st p) (answer st q) (alternatives p) (alternatives q)
      (every_has_steps p) (every_has_steps q)
      (window_alternatives p) (window_alternatives q) a b
  window_alternatives (while s p c) a b =
      means_while c (answer st p) (alternatives p) (every_has_steps p) (window_alternatives p) a b
