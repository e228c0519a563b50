-- One operator of the pass: too few operands, wrong ones, right ones.
--   one-.., two-.., three-..    what each way of `take_one`, `take_two`, `take_three` comes to
--   node-..                     what each way of `step` comes to
use mathlib.Core.Path.{◌≡◌, refl, sym, ap, ◌∙◌}
use mathlib.Core.Bool.{Bool, true, false, not, ◌||◌}
use mathlib.Core.List.{List, [], ◌∷◌}
use Prim.Native.Nat.{ℕ, ◌≤◌, ◌<◌}
use native.Mathlib.Omega.{arith}
use lib.Dec.{eqb}
use mathlib.Core.Logic.{◌⊎◌, inl, inr}
use Rattle.alf.specs.Expressions.{Boolean, literal, Expression, boolean, vector}
use Rattle.basics.proofs.Bools.{never, equal?}
use Rattle.grammar.specs.declared.Token.{Token}
use Rattle.sorting.specs.declared.sorts.Sorting.{Sorting}
use Rattle.sorting.specs.Sorts.{atom, of_one, of_three}
use Rattle.sorting.specs.Passes.{Run, going, stopped, settled, is_vector, stack_bytes, pair_byte}
use Rattle.sorting.specs.Passes.{takes_one, takes_two, takes_three, Shows, Ready, Put, Halted, Took, sort_at}
use Rattle.sorting.specs.Passes.{Fine, Moved, Asked, Stepped, stepped, applied, leaf_byte}
use Rattle.sorting.proofs.NodeRuns.{at_leaf, at_two, at_three, at_one}
use Rattle.sorting.proofs.Stacks.{top_sort, shows_depth, shows_ok, shows_stopped, halted_shows}
use Rattle.sorting.proofs.OneOperator.{made_shows, made_leaf, made_one, made_two, fault_two, made_three}

abbrev any : Expression
any = boolean (literal 0)

below_three : (k : ℕ) → k < 3 → (k ≡ 0) ⊎ ((k ≡ 1) ⊎ (k ≡ 2))
below_three k l = go (equal? k 0) (equal? k 1)
  where
    go : (k ≡ 0) ⊎ (k ≡ 0 → ⊥) → (k ≡ 1) ⊎ (k ≡ 1 → ⊥) → (k ≡ 0) ⊎ ((k ≡ 1) ⊎ (k ≡ 2))
    go (inl e) f = inl e
    go (inr e) (inl f) = inr (inl f)
    go (inr e) (inr f) = inr (inr (omega arith))

module _ (t : Token) {s r : Sorting} where
  pub one_short : Halted t.place s r → s.depth < 1 → Took (takes_one t) s r
  unfolding takes_one
  one_short h d = record { moved = h.moved; does = go }
    where
      go : (xs : List Expression) → Shows s (going xs) → Shows r (takes_one t xs)
      go [] w = halted_shows h
      go (x ∷ xs) w = absurd (omega (arith, shows_depth w))

  pub one_wrong : Halted t.place s r → sort_at s 0 ≡ true → Took (takes_one t) s r
  unfolding takes_one settled of_one is_vector
  one_wrong h e = record { moved = h.moved; does = go }
    where
      go : (xs : List Expression) → Shows s (going xs) → Shows r (takes_one t xs)
      go [] w = halted_shows h
      go (boolean a ∷ xs) w = never (sym (top_sort 0 any w (omega arith)) ∙ e)
      go (vector p ∷ xs) w = halted_shows h

  pub one_right :
      Ready s t.code 64 148 →
      1 ≤ s.depth →
      sort_at s 0 ≡ false →
      {v : Bool} →
      v ≡ not (eqb t.code 147) →
      Put s 1 v t.code r →
      Took (takes_one t) s r
  unfolding takes_one is_vector
  one_right y d e u p = record { moved = p.moved; does = go }
    where
      go : (xs : List Expression) → Shows s (going xs) → Shows r (takes_one t xs)
      go [] w = absurd (omega (arith, shows_depth w))
      go (boolean a ∷ xs) w =
          made_shows (boolean a ∷ []) xs (rw u (made_one t a y.low y.high)) refl p w
      go (vector q ∷ xs) w = never (sym e ∙ top_sort 0 any w (omega arith))

  pub two_short : Halted t.place s r → s.depth < 2 → Took (takes_two t) s r
  unfolding takes_two
  two_short h d = record { moved = h.moved; does = go }
    where
      go : (xs : List Expression) → Shows s (going xs) → Shows r (takes_two t xs)
      go [] w = halted_shows h
      go (y ∷ []) w = halted_shows h
      go (y ∷ x ∷ xs) w = absurd (omega (arith, shows_depth w))

  pub two_wrong :
      Ready s t.code 40 60 →
      Halted t.place s r →
      pair_byte t.code (sort_at s 1) (sort_at s 0) ≡ 255 →
      Took (takes_two t) s r
  unfolding takes_two settled
  two_wrong a h e = record { moved = h.moved; does = go }
    where
      go : (xs : List Expression) → Shows s (going xs) → Shows r (takes_two t xs)
      go [] w = halted_shows h
      go (y ∷ []) w = halted_shows h
      go (y ∷ x ∷ xs) w =
          let f = rw (top_sort 1 any w (omega arith), top_sort 0 any w (omega arith)) at e in
          rw (fault_two t a.known a.low a.high x y f) (halted_shows h)

  pub two_right :
      Ready s t.code 40 60 →
      2 ≤ s.depth →
      (pair_byte t.code (sort_at s 1) (sort_at s 0) ≡ 255 → ⊥) →
      Put s 2 (sort_at s 1 || sort_at s 0) (pair_byte t.code (sort_at s 1) (sort_at s 0)) r →
      Took (takes_two t) s r
  unfolding takes_two
  two_right a d n p = record { moved = p.moved; does = go }
    where
      go : (xs : List Expression) → Shows s (going xs) → Shows r (takes_two t xs)
      go [] w = absurd (omega (arith, shows_depth w))
      go (y ∷ []) w = absurd (omega (arith, shows_depth w))
      go (y ∷ x ∷ xs) w =
          let f = rw (top_sort 1 any w (omega arith), top_sort 0 any w (omega arith)) at n in
          let g = rw (top_sort 1 any w (omega arith), top_sort 0 any w (omega arith)) at p in
          made_shows (y ∷ x ∷ []) xs (made_two t a.known a.low a.high x y f) refl g w

  pub three_short : Halted t.place s r → s.depth < 3 → Took (takes_three t) s r
  unfolding takes_three
  three_short h d = record { moved = h.moved; does = go }
    where
      go : (xs : List Expression) → Shows s (going xs) → Shows r (takes_three t xs)
      go [] w = halted_shows h
      go (y ∷ []) w = halted_shows h
      go (y ∷ x ∷ []) w = halted_shows h
      go (y ∷ x ∷ z ∷ xs) w = absurd (omega (arith, shows_depth w))

  -- one of the three is a vector
  pub three_wrong :
      Halted t.place s r →
      (k : ℕ) →
      k < 3 →
      sort_at s k ≡ true →
      Took (takes_three t) s r
  unfolding takes_three settled of_three is_vector
  three_wrong h k l e = record { moved = h.moved; does = go }
    where
      all_booleans : (a b c : Boolean) (xs : List Expression)
          → Shows s (going (boolean b ∷ boolean a ∷ boolean c ∷ xs))
          → (k ≡ 0) ⊎ ((k ≡ 1) ⊎ (k ≡ 2)) → false ≡ true
      all_booleans a b c xs w (inl f) = sym (rw f at (top_sort k any w (omega arith))) ∙ rw f at e
      all_booleans a b c xs w (inr (inl f)) = sym (rw f at (top_sort k any w (omega arith))) ∙ rw f at e
      all_booleans a b c xs w (inr (inr f)) = sym (rw f at (top_sort k any w (omega arith))) ∙ rw f at e

      go : (xs : List Expression) → Shows s (going xs) → Shows r (takes_three t xs)
      go [] w = halted_shows h
      go (y ∷ []) w = halted_shows h
      go (y ∷ x ∷ []) w = halted_shows h
      go (y ∷ x ∷ vector p ∷ xs) w = halted_shows h
      go (y ∷ vector p ∷ boolean c ∷ xs) w = halted_shows h
      go (vector p ∷ boolean a ∷ boolean c ∷ xs) w = halted_shows h
      go (boolean b ∷ boolean a ∷ boolean c ∷ xs) w = never (all_booleans a b c xs w (below_three k l))

  pub three_right :
      3 ≤ s.depth →
      sort_at s 2 ≡ false →
      sort_at s 1 ≡ false →
      sort_at s 0 ≡ false →
      Put s 3 false 60 r →
      Took (takes_three t) s r
  unfolding takes_three is_vector
  three_right d e f g p = record { moved = p.moved; does = go }
    where
      go : (xs : List Expression) → Shows s (going xs) → Shows r (takes_three t xs)
      go [] w = absurd (omega (arith, shows_depth w))
      go (y ∷ []) w = absurd (omega (arith, shows_depth w))
      go (y ∷ x ∷ []) w = absurd (omega (arith, shows_depth w))
      go (y ∷ x ∷ vector q ∷ xs) w = never (sym e ∙ top_sort 2 any w (omega arith))
      go (y ∷ vector q ∷ boolean c ∷ xs) w = never (sym f ∙ top_sort 1 any w (omega arith))
      go (vector q ∷ boolean a ∷ boolean c ∷ xs) w = never (sym g ∙ top_sort 0 any w (omega arith))
      go (boolean b ∷ boolean a ∷ boolean c ∷ xs) w =
          made_shows (boolean b ∷ boolean a ∷ boolean c ∷ []) xs (made_three t c a b) refl p w

-- one node: stopped before, or by the range of its code
pub node_still : (t : Token) (b : ℕ) {s : Sorting} → Fine s → s.ok ≡ false → Stepped t b s s
unfolding stepped
node_still t b {s} f e = record {
  moved = record { fine = f; grown = omega arith };
  does = λ number g v w. go number v
      w;
}
  where
    go : (number : ℕ → ℕ) (v : Run) → Shows s v → Shows s (stepped number t v)
    go number (going xs) w = never (sym e ∙ shows_ok w)
    go number (stopped p) w = w

module _ (t : Token) (b : ℕ) {s r : Sorting} where
  -- of a run that goes on
  goes_on :
      s.ok ≡ true →
      Moved s r →
      ((number : ℕ → ℕ) → b ≡ leaf_byte number t → (xs : List Expression) → Shows s (going xs)
      → Shows r (applied number t xs)) →
      Stepped t b s r
  unfolding stepped
  goes_on o m f = record { moved = m; does = λ number g v w. go number g v w }
    where
      go : (number : ℕ → ℕ) → b ≡ leaf_byte number t → (v : Run) → Shows s v
          → Shows r (stepped number t v)
      go number g (going xs) w = f number g xs w
      go number g (stopped p) w = never (sym (shows_stopped w) ∙ o)

  pub node_leaf_put : Asked s t.code → s.ok ≡ true → t.code < 40 → Put s 0 false b r → Stepped t b s r
  unfolding is_vector stack_bytes
  node_leaf_put a o l p =
      goes_on o p.moved
      (λ number g xs w.
      rw (at_leaf number t xs l)
      (p.puts [] xs (boolean (atom number t)) refl w refl
      (made_leaf number t a.known l ∙ ap (λ (c : ℕ). c ∷ []) (sym g))))

  pub node_two_took :
      s.ok ≡ true → 40 ≤ t.code → t.code < 60 → Took (takes_two t) s r → Stepped t b s r
  node_two_took o l h k =
      goes_on o k.moved (λ number g xs w. rw (at_two number t xs l h) (k.does xs w))

  pub node_three_took :
      s.ok ≡ true → 60 ≤ t.code → t.code < 64 → Took (takes_three t) s r → Stepped t b s r
  node_three_took o l h k =
      goes_on o k.moved (λ number g xs w. rw (at_three number t xs l h) (k.does xs w))

  pub node_one_took : s.ok ≡ true → 64 ≤ t.code → Took (takes_one t) s r → Stepped t b s r
  node_one_took o l k = goes_on o k.moved (λ number g xs w. rw (at_one number t xs l) (k.does xs w))
