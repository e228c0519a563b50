-- The list of an expression's states at the rows of a window, and an edge or a condition of it.
--   States, states_first, states_next    the list, row after row
--   edge_none, edge_one                  an edge on a window of more events, and of one
--   leaf_condition, leaf_edge            a leaf by its byte
--   far_first, far_again, far_next       a condition's answer so far: at its first row, and at one more
--   held_more                            on the window
use Prim.Native.Nat.{ℕ, suc, ◌+◌, ◌-◌, ◌<◌, ◌≤◌, min}
use native.Mathlib.Omega.{arith}
use native.Mathlib.Nat.{add-zero}
use mathlib.Core.Path.{◌≡◌, refl}
use mathlib.Core.Logic.{◌⊎◌, inl, inr}
use mathlib.Core.List.{List}
use lib.ListN.{length, set, length-set}
use lib.Seq.{get_or-set_same, get_or-set_other}
use borrow.Author.Tests.{lt-ltb, le-ltb, eq-eqb, ne_eqb}
use Rattle.alf.specs.Expressions.{Edge}
use Rattle.basics.specs.Words.{least}
use Rattle.alf.specs.Windows.{certainty, edge_on, held}
use Rattle.alf.specs.Decoder.{edge_at}
use Rattle.basics.proofs.Bools.{equal?}
use Rattle.evaluator.specs.Rows.{IsState}
use Rattle.answer_table.specs.Tables.{entry, edge_over, leaf_over_lem, SoFar}

-- the first n entries of a list are the states at so many rows
pub record States (c : ℕ → ℕ) (n : ℕ) (list : List ℕ) : Type 0 where
  pub is : (j : ℕ) → j < n → IsState (c j) (entry list j)
  pub long : length list ≡ 17

pub states_first : {c : ℕ → ℕ} {list : List ℕ} → length list ≡ 17 → States c 0 list
states_first h = record { is = λ j l. absurd (omega arith); long = h }

pub states_next : {c : ℕ → ℕ} {i v : ℕ} {list : List ℕ} → States c i list → i < 17 → IsState (c i) v
    → States c (i + 1) (set list i v)
states_next {c} {i} {v} {list} s l h =
    record { is = λ j k. go j k (equal? j i); long = simp length-set s.long }
  where
    go : (j : ℕ) → j < i + 1 → (j ≡ i) ⊎ (j ≡ i → ⊥) → IsState (c j) (entry (set list i v) j)
    go j k (inl e) = rw (e, get_or-set_same list i v 0 (omega (arith, s.long))) h
    go j k (inr e) = rw (get_or-set_other list i j v 0 e) (s.is j (omega arith))

module _ (e : Edge) (c : ℕ → ℕ) (a b : ℕ) where
  pub edge_none : (b ≡ a + 1 → ⊥) → 0 ≡ edge_over e c a b
  edge_none h = rw (ne_eqb _ _ h) refl

  pub edge_one : {r : ℕ} → b ≡ a + 1 → r ≡ edge_on e (c a) (c b) → r ≡ edge_over e c a b
  edge_one h g = rw (eq-eqb _ _ h) g

module _ (k : ℕ) (c : ℕ → ℕ) (a b : ℕ) {r : ℕ} where
  pub leaf_condition : k < 64 → r ≡ held c a b → r ≡ leaf_over_lem k c a b
  unfolding leaf_over_lem
  leaf_condition h g = rw (lt-ltb _ _ h) g

  pub leaf_edge : 64 ≤ k → r ≡ edge_over (edge_at (k - 64)) c a b → r ≡ leaf_over_lem k c a b
  unfolding leaf_over_lem
  leaf_edge h g = rw (le-ltb _ _ h) g

-- a condition, row after row
held_one : (c : ℕ → ℕ) (a : ℕ) {r : ℕ} → r ≡ min 2 (certainty (c a)) → r ≡ held c a a
unfolding held least
held_one c a h = let e : a + 1 - a ≡ 1 = omega arith in rw (e, add-zero) h

pub held_more : (c : ℕ → ℕ) (a b : ℕ) {low r : ℕ} → a < b → low ≡ held c a (b - 1) → r ≡ min low (certainty (c b))
    → r ≡ held c a b
unfolding held least
held_more c a b l e h =
    let d : b + 1 - a ≡ suc (b - 1 + 1 - a) = omega arith in
    let f : a + (b - 1 + 1 - a) ≡ b = omega arith in
    rw (d, f, ← e) h

pub far_first : {k a r : ℕ} {c : ℕ → ℕ} → r ≡ min 2 (certainty (c a)) → SoFar k c a a r
far_first h = record { is = λ l. held_one _ _ h }

pub far_again : {k a m low : ℕ} {c : ℕ → ℕ} → SoFar k c a m low → SoFar k c a (m + 1 - 1) low
far_again {m = m} h = let e : m + 1 - 1 ≡ m = omega arith in rw e h

pub far_next : {k a b r : ℕ} {c : ℕ → ℕ} → r ≡ leaf_over_lem k c a b → SoFar k c a b r
unfolding leaf_over_lem
far_next h = record { is = λ l. rw (lt-ltb _ _ l) at h }
