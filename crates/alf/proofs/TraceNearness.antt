-- Nearness (Nearness.antt) for traces: a row's answer depends on the names' states in the last K+1 rows.
--   SameRows         rows i and j of two traces, and the K rows before each, hold the same states; near the start as
--   many
--   rows_near        so a vector expression of at most K steps answers the same, and tries as many alternatives
--   corrected_other, corrected_row     a correction changes row r and no other
--   correction_elsewhere               so the answers before r and after r+K stay
use mathlib.Core.Path.{◌≡◌, refl, ap, sym, ◌∙◌}
use mathlib.Core.List.{List, [], ◌∷◌, ◌++◌}
use mathlib.Core.Logic.{◌⊎◌, inl, inr}
use Prim.Native.Nat.{ℕ, suc, ◌+◌, ◌-◌, ◌*◌, ◌<◌, ◌≤◌, min}
use native.Mathlib.Nat.{suc-mul, mul-le-mul_right}
use native.Mathlib.Omega.{arith}
use lib.ListN.{length, get_or, take, drop, get_or-append}
use lib.Seq.{get_or-take, get_or-drop, get_or-append-add, length-take-le}
use Rattle.basics.specs.Words.{greatest_of}
use Rattle.alf.specs.declared.Rules.{Rules}
use Rattle.alf.specs.Expressions.{Vector, Over, VectorOver}
use Rattle.alf.specs.Values.{row_of, state_at}
use Rattle.alf.specs.Windows.{row_answer}
use Rattle.alf.specs.Alternatives.{Alternative, alternatives, steps_of, tries}
use Rattle.alf.specs.Traces.{corrected}
use Rattle.basics.proofs.Bools.{below?}
use Rattle.basics.proofs.AllEntries.{All, none, more, all_weaken}
use Rattle.alf.proofs.Lifting.{Steps}
use Rattle.alf.proofs.WindowsAreAlternatives.{every_has_steps}
use Rattle.alf.proofs.RowsAreAlternatives.{same_answer}
use Rattle.alf.proofs.Growth.{some_alternative}
use Rattle.alf.proofs.Conditions.{Asks, alternatives_ask, over_asked}
use Rattle.alf.proofs.Values.{state_same}
use Rattle.alf.proofs.Nearness.{Near, answers_near, tries_near}

-- no alternative has more than K steps, and K is at least 1
within_greatest : (xs : List Alternative) → All (λ x. length x ≤ greatest_of length xs) xs
unfolding greatest_of
within_greatest [] = none
within_greatest (x ∷ xs) = more {x = x} (omega arith) (all_weaken (λ y h. omega arith) (within_greatest xs))

pub steps_within : (p : Vector) → All (λ x. length x ≤ steps_of p) (alternatives p)
unfolding steps_of
steps_within p = within_greatest (alternatives p)

first_steps : (xs : List Alternative) → 0 < length xs → Steps xs → 0 < greatest_of length xs
unfolding greatest_of
first_steps [] h none = absurd (omega arith)
first_steps (x ∷ xs) h (more k s) = omega arith

pub steps_pos : (p : Vector) → 0 < steps_of p
unfolding steps_of
steps_pos p = first_steps (alternatives p) (some_alternative p) (every_has_steps p)

pub record SameRows (names K : ℕ) (states states' : List ℕ) (i j : ℕ) : Type 0 where
  pub room : min i K ≡ min j K
  pub same : (d n : ℕ) → d ≤ K → d ≤ i → n < names
      → row_of names states (i - d) n ≡ row_of names states' (j - d) n

module _ (names : ℕ) (p : Vector) (over : VectorOver names p) (states states' : List ℕ) (i j : ℕ)
    (s : SameRows names (steps_of p) states states' i j) where
  near : (ρ : Rules) → Near (Over names) (state_at ρ names states) (state_at ρ names states') (steps_of p) i j
  near ρ = record { room = s.room; agree = λ d h k c o. state_same names _ _ (λ n l. s.same d n h k l) _ c o }

  asks : All (Asks (Over names)) (alternatives p)
  asks = alternatives_ask (Over names) p (over_asked names p over)

  pub rows_near : (ρ : Rules) → row_answer (state_at ρ names states) p i ≡ row_answer (state_at ρ names states') p j
  rows_near ρ =
      same_answer (state_at ρ names states) p i
      ∙ answers_near _ _ _ (steps_of p) i j (alternatives p) (steps_pos p) (near ρ) asks (steps_within p)
      ∙ sym (same_answer (state_at ρ names states') p j)

  pub rows_near_tries : (ρ : Rules) →
      tries (state_at ρ names states) (alternatives p) i ≡ tries (state_at ρ names states') (alternatives p) j
  rows_near_tries ρ = tries_near _ _ _ (steps_of p) i j (alternatives p) (steps_pos p) (near ρ) asks (steps_within p)

-- A corrected trace.
module _ (names : ℕ) (states new : List ℕ) (r : ℕ)
    (whole : r * names + names ≤ length states) (full : length new ≡ names) where
  front : length (take (r * names) states) ≡ r * names
  front = length-take-le (r * names) states (omega arith)

  pub corrected_row : (n : ℕ) → n < names → row_of names (corrected names states r new) r n ≡ get_or new n 0
  unfolding corrected
  corrected_row n h =
      ap (λ (k : ℕ). get_or (take (r * names) states ++ (new ++ drop (r * names + names) states)) (k + n) 0)
      (sym front)
      ∙ get_or-append-add (take (r * names) states) _ n 0
      ∙ get_or-append new _ 0 n (omega arith)

  before : (i n : ℕ) → i < r → n < names
      → row_of names (corrected names states r new) i n ≡ row_of names states i n
  unfolding corrected
  before i n l h =
      let m : suc i * names ≤ r * names = mul-le-mul_right names l in
      let e : i * names + n < r * names = omega (arith, suc-mul i names) in
      get_or-append (take (r * names) states) _ 0 (i * names + n) (omega (arith, front))
      ∙ get_or-take (r * names) states (i * names + n) 0 e

  after : (i n : ℕ) → r < i → n < names
      → row_of names (corrected names states r new) i n ≡ row_of names states i n
  unfolding corrected
  after i n l h =
      let m : suc r * names ≤ i * names = mul-le-mul_right names l in
      let k = suc-mul r names in
      let rest = i * names + n - (r * names + names) in
      let e : i * names + n ≡ r * names + (names + rest) = omega arith in
      let w : r * names + names + rest ≡ i * names + n = omega arith in
      ap (λ (q : ℕ). get_or (take (r * names) states ++ (new ++ drop (r * names + names) states)) q 0)
      (e ∙ ap (λ (q : ℕ). q + (names + rest)) (sym front))
      ∙ get_or-append-add (take (r * names) states) _ (names + rest) 0
      ∙ ap (λ (q : ℕ). get_or (new ++ drop (r * names + names) states) (q + rest) 0) (sym full)
      ∙ get_or-append-add new _ rest 0
      ∙ get_or-drop (r * names + names) states rest 0
      ∙ ap (λ (q : ℕ). get_or states q 0) w

  pub corrected_other : (i n : ℕ) → (i ≡ r → ⊥) → n < names
      → row_of names (corrected names states r new) i n ≡ row_of names states i n
  corrected_other i n d h = go (below? i r)
    where
      go : (i < r) ⊎ (r ≤ i) → row_of names (corrected names states r new) i n ≡ row_of names states i n
      go (inl l) = before i n l h
      go (inr l) = after i n (omega (arith, d)) h

  pub correction_elsewhere : (ρ : Rules) (p : Vector) → VectorOver names p → (i : ℕ) → (i < r) ⊎ (r + steps_of p < i)
      → row_answer (state_at ρ names (corrected names states r new)) p i ≡ row_answer (state_at ρ names states) p i
  correction_elsewhere ρ p o i w =
      rows_near names p o (corrected names states r new) states i i
      (record { room = refl; same = λ d n h k l. corrected_other (i - d) n (apart w d h k) l }) _
    where
      apart : (i < r) ⊎ (r + steps_of p < i) → (d : ℕ) → d ≤ steps_of p → d ≤ i → i - d ≡ r → ⊥
      apart (inl l) d h k e = omega arith
      apart (inr l) d h k e = omega arith
