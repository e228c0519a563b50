-- The faults of a tree in their order, and the first of them: row 7 of the table is what `sorted` comes to.
--   faults_agree           no fault where there is an expression, else the place of the first fault comes first
--   row_seven, seven_never the table's row, from what `sorted` comes to
use mathlib.Core.Path.{◌≡◌, refl}
use mathlib.Core.List.{List, [], ◌∷◌, ◌++◌}
use Prim.Native.Nat.{ℕ}
use native.Mathlib.Omega.{arith}
use Rattle.alf.specs.declared.Sort.{Sort}
use Rattle.alf.specs.Expressions.{Expression}
use Rattle.grammar.specs.Grammar.{Tree, leaf, one, two, three}
use Rattle.sorting.specs.Sorts.{Sorted, is, faulty, of_one, of_two, of_three, given, asked, sorted, sorted_for}
use Rattle.reader.specs.Reading.{fault, own, faults, faults_for, unsorted}

pub data Agree : Sorted → List ℕ → Type 0 where
  clean : {x : Expression} → Agree (is x) []
  dirty : {p : ℕ} {more : List ℕ} → Agree (faulty p) (p ∷ more)

fault_agree : (q : Sorted) → Agree q (fault q)
unfolding fault
fault_agree (is x) = clean
fault_agree (faulty p) = dirty

-- an operand, and what comes behind its faults
agree_after :
    {q : Sorted} {fs : List ℕ} (f : Expression → Sorted) (rest : Sorted → List ℕ) →
    Agree q fs →
    ((x : Expression) → Agree (f x) (rest (is x))) →
    Agree (given q f) (fs ++ rest q)
unfolding given
agree_after f rest (clean {x = x}) h = h x
agree_after f rest dirty h = dirty

module _ (number : ℕ → ℕ) where
  pub faults_agree : (e : Tree) → Agree (sorted number e) (faults number e)
  unfolding sorted faults own
  faults_agree (leaf t) = clean
  faults_agree (one t a) =
      agree_after (of_one t) (λ q. own q (λ x. fault (of_one t x))) (faults_agree a) (λ x. fault_agree (of_one t x))
  faults_agree (two t a b) =
      agree_after (λ x. given (sorted number b) (of_two t x))
      (λ q. faults number b ++ own q (λ x. own (sorted number b) (λ y. fault (of_two t x y))))
      (faults_agree a)
      (λ x. agree_after (of_two t x) (λ q. own q (λ y. fault (of_two t x y))) (faults_agree b)
      (λ y. fault_agree (of_two t x y)))
  faults_agree (three t c a b) =
      agree_after (λ z. given (sorted number a) (λ x. given (sorted number b) (of_three t z x)))
      (λ q. faults number a ++ (faults number b ++
      own q (λ z. own (sorted number a) (λ x. own (sorted number b) (λ y. fault (of_three t z x y))))))
      (faults_agree c)
      (λ z. agree_after (λ x. given (sorted number b) (of_three t z x))
      (λ q. faults number b ++ own q (λ x. own (sorted number b) (λ y. fault (of_three t z x y))))
      (faults_agree a)
      (λ x. agree_after (of_three t z x) (λ q. own q (λ y. fault (of_three t z x y))) (faults_agree b)
      (λ y. fault_agree (of_three t z x y))))

  pub call_agree : (sort : Sort) (bytes : ℕ) (e : Tree)
      → Agree (sorted_for sort bytes number e) (faults_for sort bytes number e)
  unfolding sorted_for faults_for own
  call_agree sort bytes e =
      agree_after (asked sort bytes) (λ q. own q (λ x. fault (asked sort bytes x))) (faults_agree e)
      (λ x. fault_agree (asked sort bytes x))

-- the table's row
first_fault_lem : {fs : List ℕ} {p : ℕ} → Agree (faulty p) fs → unsorted fs p
first_fault_lem dirty =
    record { which = 0; first = record { given = omega arith; before = λ i l h. absurd (omega arith) }; there = refl }

no_fault : {fs : List ℕ} {x : Expression} {p : ℕ} → Agree (is x) fs → unsorted fs p → ⊥
no_fault clean f = let h = f.first.given in omega arith

pub row_seven : {q : Sorted} {fs : List ℕ} {p : ℕ} → Agree q fs → q ≡ faulty p → unsorted fs p
row_seven a e = first_fault_lem (rw e at a)

pub seven_never : {q : Sorted} {fs : List ℕ} {x : Expression} {p : ℕ} → Agree q fs → q ≡ is x
    → unsorted fs p → ⊥
seven_never a e = no_fault (rw e at a)
