-- A run over the nodes of a tree comes to what the tree is sorted as. Main names: run_append, run_stopped, run_tree.
use mathlib.Core.Path.{◌≡◌, refl, sym, ap, ◌∙◌}
use mathlib.Core.List.{List, [], ◌∷◌, ◌++◌}
use Prim.Native.Nat.{ℕ, ◌≤◌, ◌<◌}
use native.Mathlib.Omega.{arith}
use borrow.Author.Tests.{lt-ltb, le-ltb}
use Rattle.alf.specs.Expressions.{Expression, boolean}
use Rattle.grammar.specs.declared.Token.{Token}
use Rattle.grammar.specs.Grammar.{Tree, nodes}
use Rattle.grammar.specs.Written.{Formed, leaf_is, one_is, two_is, three_is}
use Rattle.sorting.specs.Sorts.{Sorted, is, faulty, atom, of_one, of_two, of_three, given, sorted}
use Rattle.sorting.specs.Passes.{Run, going, stopped, settled, takes_one, takes_two, takes_three, applied, stepped}
use Rattle.sorting.specs.Passes.{run}
use Rattle.sorting.proofs.NodeCodes.{Coded, operand_code, prefix_code, question_code, binary_code}

module _ (number : ℕ → ℕ) where
  pub run_append : (ts us : List Token) (v : Run) → run number (ts ++ us) v ≡ run number us (run number ts v)
  unfolding run
  run_append [] us v = refl
  run_append (t ∷ ts) us v = run_append ts us (stepped number t v)

  pub run_stopped : (ts : List Token) (p : ℕ) → run number ts (stopped p) ≡ stopped p
  unfolding run stepped
  run_stopped [] p = refl
  run_stopped (t ∷ ts) p = run_stopped ts p

  pub run_last : (ts : List Token) (t : Token) (v : Run)
      → run number (ts ++ (t ∷ [])) v ≡ stepped number t (run number ts v)
  unfolding run
  run_last ts t v = run_append ts (t ∷ []) v

  -- a node by its code
  module _ (t : Token) (xs : List Expression) where
    pub at_leaf : t.code < 40 → applied number t xs ≡ going (boolean (atom number t) ∷ xs)
    unfolding applied
    at_leaf h = rw (lt-ltb t.code 40 h)

    pub at_two : 40 ≤ t.code → t.code < 60 → applied number t xs ≡ takes_two t xs
    unfolding applied
    at_two l h = rw (le-ltb t.code 40 l, lt-ltb t.code 60 h)

    pub at_three : 60 ≤ t.code → t.code < 64 → applied number t xs ≡ takes_three t xs
    unfolding applied
    at_three l h = rw (le-ltb t.code 40 (omega arith), le-ltb t.code 60 l, lt-ltb t.code 64 h)

    pub at_one : 64 ≤ t.code → applied number t xs ≡ takes_one t xs
    unfolding applied
    at_one l =
        rw (le-ltb t.code 40 (omega arith), le-ltb t.code 60 (omega arith), le-ltb t.code 64 l)

  -- operands that are there, or stopped
  one_step :
      (t : Token) (r : Sorted) (xs : List Expression) →
      64 ≤ t.code →
      stepped number t (settled r xs) ≡ settled (given r (of_one t)) xs
  unfolding stepped settled given takes_one
  one_step t (is x) xs l = at_one t (x ∷ xs) l
  one_step t (faulty p) xs l = refl

  two_step :
      (t : Token) (x : Expression) (r : Sorted) (xs : List Expression) →
      Coded t.code 40 60 →
      stepped number t (settled r (x ∷ xs)) ≡ settled (given r (of_two t x)) xs
  unfolding stepped settled given takes_two
  two_step t x (is y) xs k = at_two t (y ∷ x ∷ xs) k.low k.high
  two_step t x (faulty p) xs k = refl

  three_step :
      (t : Token) (z x : Expression) (r : Sorted) (xs : List Expression) →
      Coded t.code 60 64 →
      stepped number t (settled r (x ∷ z ∷ xs)) ≡ settled (given r (of_three t z x)) xs
  unfolding stepped settled given takes_three
  three_step t z x (is y) xs k = at_three t (y ∷ x ∷ z ∷ xs) k.low k.high
  three_step t z x (faulty p) xs k = refl

  -- what follows an operand, in a run and in `sorted`
  follow :
      (ts : List Token) (r : Sorted) (f : Expression → Sorted) (xs : List Expression) →
      ((x : Expression) → run number ts (going (x ∷ xs)) ≡ settled (f x) xs) →
      run number ts (settled r xs) ≡ settled (given r f) xs
  unfolding settled given
  follow ts (is x) f xs h = h x
  follow ts (faulty p) f xs h = run_stopped ts p

  follow_under :
      (ts : List Token) (r : Sorted) (f : Expression → Sorted) (z : Expression) (xs : List Expression) →
      ((x : Expression) → run number ts (going (x ∷ z ∷ xs)) ≡ settled (f x) xs) →
      run number ts (settled r (z ∷ xs)) ≡ settled (given r f) xs
  unfolding settled given
  follow_under ts (is x) f z xs h = h x
  follow_under ts (faulty p) f z xs h = run_stopped ts p

  pub run_tree :
      {e : Tree} → Formed e → (xs : List Expression) →
      run number (nodes e) (going xs) ≡ settled (sorted number e) xs
  unfolding nodes sorted run stepped settled
  run_tree (leaf_is {t = t} k) xs = at_leaf t xs (operand_code _ k).high
  run_tree (one_is {t = t} {a = a} k p) xs =
      run_last (nodes a) t (going xs)
      ∙ ap (stepped number t) (run_tree p xs)
      ∙ one_step t (sorted number a) xs (prefix_code _ k).1
  run_tree (two_is {t = t} {a = a} {b = b} k p q) xs =
      run_last (nodes a ++ nodes b) t (going xs)
      ∙ ap (stepped number t)
      (run_append (nodes a) (nodes b) (going xs) ∙ ap (run number (nodes b)) (run_tree p xs))
      ∙ sym (run_last (nodes b) t (settled (sorted number a) xs))
      ∙ follow (nodes b ++ (t ∷ [])) (sorted number a) _ xs
      (λ x. run_last (nodes b) t (going (x ∷ xs))
      ∙ ap (stepped number t) (run_tree q (x ∷ xs))
      ∙ two_step t x (sorted number b) xs (binary_code _ _ k))
  run_tree (three_is {t = t} {c = c} {a = a} {b = b} k o p q) xs =
      run_last ((nodes c ++ nodes a) ++ nodes b) t (going xs)
      ∙ ap (stepped number t)
      (run_append (nodes c ++ nodes a) (nodes b) (going xs)
      ∙ ap (run number (nodes b))
      (run_append (nodes c) (nodes a) (going xs) ∙ ap (run number (nodes a)) (run_tree o xs)))
      ∙ sym (run_last (nodes b) t _)
      ∙ sym (run_append (nodes a) (nodes b ++ (t ∷ [])) (settled (sorted number c) xs))
      ∙ follow (nodes a ++ (nodes b ++ (t ∷ []))) (sorted number c) _ xs
      (λ z. run_append (nodes a) (nodes b ++ (t ∷ [])) (going (z ∷ xs))
      ∙ ap (run number (nodes b ++ (t ∷ []))) (run_tree p (z ∷ xs))
      ∙ follow_under (nodes b ++ (t ∷ [])) (sorted number a) _ z xs
      (λ x. run_last (nodes b) t (going (x ∷ z ∷ xs))
      ∙ ap (stepped number t) (run_tree q (x ∷ z ∷ xs))
      ∙ three_step t z x (sorted number b) xs (question_code _ k)))
