-- A contradictory alternative never answers yes.
--   contradictory_not_yes        from any row, whatever the states, if they are codes below 8
--   contradictory_row_not_yes    so at no row
-- That it may answer unknown is an example in Readings.antt.
use Rattle.std.specs.Prelude.{if◌then◌else◌}
use mathlib.Core.Path.{◌≡◌, refl, ap, sym, ◌∙◌}
use mathlib.Core.Bool.{Bool, true, false, not, ◌||◌}
use mathlib.Core.List.{List, [], ◌∷◌, ◌++◌}
use mathlib.Core.Logic.{◌⊎◌, inl, inr}
use Prim.Native.Nat.{ℕ, zero, suc, ◌+◌, ◌-◌, ◌<◌, ◌≤◌, min}
use native.Mathlib.Nat.{add-zero}
use native.Mathlib.Omega.{arith}
use lib.Dec.{eqb}
use lib.ListN.{length, get_or}
use borrow.Author.Tests.{eq-eqb, eqb-true}
use Rattle.basics.specs.Words.{some, all, least_of}
use Rattle.alf.specs.Expressions.{Boolean, name, literal, negated, binary, choice}
use Rattle.alf.specs.Expressions.{Half, pair, changes, stays}
use Rattle.alf.specs.Windows.{asked, edge_on}
use Rattle.alf.specs.Alternatives.{test, Step, Alternative, test_at, step_at, steps_from, at_row}
use Rattle.alf.specs.Alternatives.{is_name, halves, first, second, literals_at, possible, contradictory}
use Rattle.basics.proofs.Bools.{never, and_left, and_right, or_yes, equal?, below?}
use Rattle.basics.proofs.Extremes.{least_of_small}
use Rattle.alf.proofs.Steps.{asked_small, step_small, steps_small}
use Rattle.alf.proofs.RowsAreAlternatives.{row_on, row_off}

-- tests over a range and a list
some_at : (n i : ℕ) (p : ℕ → Bool) → i < n → p i ≡ true → some n p ≡ true
unfolding some
some_at zero i p l h = absurd (omega arith)
some_at (suc n) i p l h = go (some_at n i p) (equal? i n)
  where
    go : (i < n → p i ≡ true → some n p ≡ true) → (i ≡ n) ⊎ (i ≡ n → ⊥)
        → (some n p || p n) ≡ true
    go r (inl e) = ap (λ (q : Bool). some n p || q) (ap p (sym e) ∙ h) ∙ or_yes (some n p)
    go r (inr d) = rw (r (omega arith) h) refl

some_none : (n : ℕ) (p : ℕ → Bool) → ((i : ℕ) → i < n → p i ≡ false) → some n p ≡ false
unfolding some
some_none zero p h = refl
some_none (suc n) p h = rw (some_none n p (λ i l. h i (omega arith)), h n (omega arith)) refl

all_append : {A : Type 0} (p : A → Bool) (xs ys : List A) → all p xs ≡ true → all p ys ≡ true
    → all p (xs ++ ys) ≡ true
unfolding all
all_append p [] ys s t = t
all_append p (x ∷ xs) ys s t = rw (and_left (p x) _ s) (all_append p xs ys (and_right (p x) _ s) t)

-- the operand is the name itself
is_name_is : (n : ℕ) (c : Boolean) → is_name n c ≡ true → c ≡ name n
unfolding is_name
is_name_is n (name i) h = ap name (eqb-true i n h)
is_name_is n (literal s) h = never h
is_name_is n (negated a) h = never h
is_name_is n (binary o a b) h = never h
is_name_is n (choice c a b) h = never h

module _ (st : Boolean → ℕ → ℕ) (n : ℕ) where
  -- the name answers yes at row r to each of some literals
  abbrev YesTo : ℕ → List Half → Type 0
  YesTo r hs = all (λ h. eqb (asked h (st (name n) r)) 2) hs ≡ true

  yes_one : (h : Half) (r : ℕ) → asked h (st (name n) r) ≡ 2 → YesTo r (h ∷ [])
  unfolding all
  yes_one h r e = rw (eq-eqb _ 2 e) refl

  yes_none : (r : ℕ) → YesTo r []
  unfolding all
  yes_none r = refl

  yes_append : (hs gs : List Half) (r : ℕ) → YesTo r hs → YesTo r gs → YesTo r (hs ++ gs)
  yes_append hs gs r s t = all_append _ hs gs s t

  one_half : (h : Half) (c : Boolean) (r : ℕ) → asked h (st c r) ≡ 2
      → YesTo r (if is_name n c then h ∷ [] else [])
  one_half h c r y = go (is_name n c) refl
    where
      go : (q : Bool) → is_name n c ≡ q → YesTo r (if q then h ∷ [] else [])
      go true e = yes_one h r (ap (λ (d : Boolean). asked h (st d r)) (sym (is_name_is n c e)) ∙ y)
      go false e = yes_none r

  -- a step that answers yes from row a: each half that it asks of the name, at the row where it asks, is answered yes
  module _ (which : Half → Half → Half) (a r : ℕ)
      (there : (f t : Half) (c : Boolean) → min (asked f (st c a)) (asked t (st c (a + 1))) ≡ 2
      → asked (which f t) (st c r) ≡ 2) where
    step_yes : (s : Step) → step_at st s a ≡ 2 → YesTo r (halves which n s)
    unfolding step_at least_of test_at edge_on halves
    step_yes [] y = yes_none r
    step_yes (test (pair f t) c ∷ s) y =
        let u = asked_small f (st c a) in
        let v = asked_small t (st c (a + 1)) in
        let w = least_of_small (test_at st a) s in
        yes_append _ (halves which n s) r
        (one_half (which f t) c r (there f t c (omega arith)))
        (step_yes s (omega arith))
    step_yes (test changes c ∷ s) y = let w = least_of_small (test_at st a) s in step_yes s (omega arith)
    step_yes (test stays c ∷ s) y = let w = least_of_small (test_at st a) s in step_yes s (omega arith)

  first_yes : (s : Step) (a : ℕ) → step_at st s a ≡ 2 → YesTo a (first n s)
  first_yes s a =
      step_yes (λ f t. f) a a
      (λ f t c h. let u = asked_small f (st c a) in let v = asked_small t (st c (a + 1)) in omega arith) s

  second_yes : (s : Step) (a : ℕ) → step_at st s a ≡ 2 → YesTo (a + 1) (second n s)
  second_yes s a =
      step_yes (λ f t. t) a (a + 1)
      (λ f t c h. let u = asked_small f (st c a) in let v = asked_small t (st c (a + 1)) in omega arith) s

  -- so an alternative that answers yes has each literal answered yes, at each row of its window
  literals_yes : (x : Alternative) (a j : ℕ) → steps_from st x a ≡ 2 → YesTo (a + j) (literals_at n x j)
  unfolding steps_from literals_at halves
  literals_yes [] a zero y = yes_none (a + zero)
  literals_yes [] a (suc j) y = yes_none (a + suc j)
  literals_yes (s ∷ x) a zero y =
      let w = steps_small st x (a + 1) in
      let u = step_small st s a in
      rw add-zero (first_yes s a (omega arith))
  literals_yes (s ∷ x) a (suc zero) y =
      let w = steps_small st x (a + 1) in
      let u = step_small st s a in
      yes_append (second n s) (first n (get_or x 0 [])) (a + 1)
      (second_yes s a (omega arith))
      (rw add-zero at (literals_yes x (a + 1) zero (omega arith)))
  literals_yes (s ∷ x) a (suc (suc j)) y =
      let w = steps_small st x (a + 1) in
      let u = step_small st s a in
      let e : a + 1 + suc j ≡ a + suc (suc j) = omega arith in
      rw e at (literals_yes x (a + 1) (suc j) (omega arith))

-- what a state below 8 answers yes to is possible
possible_yes : (hs : List Half) (s : ℕ) → s < 8 → all (λ h. eqb (asked h s) 2) hs ≡ true
    → possible hs ≡ true
unfolding possible
possible_yes hs s l y = some_at 8 s _ l y

module _ (st : Boolean → ℕ → ℕ) (names : ℕ) (codes : (n r : ℕ) → n < names → st (name n) r < 8)
    (x : Alternative) where
  yes_not_contradictory : (a : ℕ) → steps_from st x a ≡ 2 → contradictory names x ≡ false
  unfolding contradictory
  yes_not_contradictory a y =
      some_none names _ (λ n l. some_none (length x + 1) _
      (λ j m. ap not (possible_yes _ _ (codes n (a + j) l) (literals_yes st n x a j y))))

  pub contradictory_not_yes : contradictory names x ≡ true → (a : ℕ) → steps_from st x a ≡ 2 → ⊥
  contradictory_not_yes h a y = never (sym (yes_not_contradictory a y) ∙ h)

  pub contradictory_row_not_yes : contradictory names x ≡ true → (i : ℕ) → at_row st i x ≡ 2 → ⊥
  contradictory_row_not_yes h i y = go (below? i (length x))
    where
      go : (i < length x) ⊎ (length x ≤ i) → ⊥
      go (inl l) = let e = row_off st i x l in omega arith
      go (inr l) = contradictory_not_yes h (i - length x) (sym (row_on st i x l) ∙ y)
