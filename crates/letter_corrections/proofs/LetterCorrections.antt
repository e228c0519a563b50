-- What `correct_letters` comes to, case by case, and that it is one thing.
--   row_fits                        the row stands in the states
--   stored_refused, stored_told     15 or 19; or the row's new states
--   letters_18, letters_stored      18, or what comes then
--   codes_fit, codes_stored         the letters' codes at the front of a list
--   letters_unique                  any two results, and the memory at exit, coincide
use Rattle.std.specs.Prelude.{Err, Ok}
use Prim.Native.Nat.{ℕ, ◌+◌, ◌*◌, ◌≤◌}
use native.Mathlib.Nat.{suc-mul, mul-le-mul_right}
use native.Mathlib.Omega.{arith}
use mathlib.Core.Path.{◌≡◌, refl, ap, ◌∙◌}
use mathlib.Core.Bool.{true}
use mathlib.Core.Logic.{inl, inr}
use mathlib.Core.List.{List, map}
use lib.ListN.{length, take, length-map}
use Rattle.basics.specs.Refusing.{refusal}
use Rattle.basics.specs.declared.Refusal.{Refusal}
use Rattle.basics.specs.Refusing.{Outcome}
use Rattle.alf.specs.Refusals.{Order, RefusedWith, Passed, Comes}
use Rattle.alf.specs.Traces.{corrected}
use Rattle.alf.proofs.Outcomes.{at_fixed, first_fixed}
use Rattle.basics.specs.Memory.{placed, Put, Holds}
use Rattle.basics.proofs.Stores.{put_placed}
use Rattle.judging.specs.Orders.{Verdict}
use Rattle.judging.specs.Orders.{order, codes_correction, JudgesCorrection}
use Rattle.basics.specs.Memory.{after}
use Rattle.judging.proofs.Verdicts.{judged_good, judged_not}
use Rattle.call_laws.proofs.Unique.{outcome_unique}
use Rattle.basics.proofs.Memory.{after_unique}
use Rattle.state_letters.specs.Letters.{state_of}
use Rattle.letter_corrections.specs.Correcting.{LettersFit, letters_order, CorrectsLetters, Stores}

-- 18 and 10 are not asked
only_rest : (rest : Order) (n p : ℕ) → RefusedWith (order (true ≡ true) (true ≡ true) rest) n p
    → RefusedWith rest n p
unfolding RefusedWith
only_rest rest n p (inl x) = absurd (x.1.given refl)
only_rest rest n p (inr (m, inl x)) = absurd (x.1.given refl)
only_rest rest n p (inr (m, inr (l, x))) = x

-- new states for a row
module _ {k n : ℕ} {states : List ℕ} {row : ℕ} {new : List ℕ} {v : Verdict}
    (f : LettersFit k n (length states) (length new)) (j : JudgesCorrection true true states new n row v) where
  pub stored_refused : {r : Refusal} → v ≡ Err r → Stores k n states row new states (Err r)
  unfolding Comes after
  stored_refused {r} e =
      let h = judged_not j.is e in
      record { comes = record { by = only_rest _ _ _ h.by; bare = h.bare }; memory = refl }

  pub row_fits : v ≡ (Ok tt) → row * k + k ≤ length states
  row_fits e =
      let there = (judged_good j.is e).1.2.2 in
      omega (arith, mul-le-mul_right k there, suc-mul row k, f.rows.all)

  pub stored_told : {states' : List ℕ} {at : ℕ} → v ≡ (Ok tt) → Put states (row * k) new states' at
      → Stores k n states row new states' (Ok 1)
  unfolding Comes Passed after placed corrected
  stored_told e s =
      record {
        comes = ((judged_good j.is e).0.1.1, refl);
        memory = put_placed s (omega (arith, row_fits e, f.full)) ∙ rw f.full refl;
      }

-- letters
module _ {k n : ℕ} {states : List ℕ} {row : ℕ} {letters : List ℕ} where
  pub letters_18 : {r : Outcome} → (LettersFit k n (length states) (length letters) → ⊥)
      → r ≡ Err (refusal 18 0) → CorrectsLetters k n states row letters states r
  unfolding Comes RefusedWith after
  letters_18 h e =
      rw e
      (record { comes = record { by = inl (refl, record { given = h; there = refl }); bare = refl }; memory = refl })

comes_all : (k n : ℕ) (states : List ℕ) (row : ℕ) (letters : List ℕ)
    → LettersFit k n (length states) (length letters)
    → (r : Outcome) → Comes (codes_correction states (map state_of letters) n row) (λ m. m ≡ 1) r
    → Comes (letters_order k n states row letters) (λ m. m ≡ 1) r
unfolding Comes Passed RefusedWith
comes_all k n states row letters f (Ok m) x = ((λ p a. a.given f, x.0), x.1)
comes_all k n states row letters f (Err q) x =
    record { by = inr (λ p a. a.given f, x.by); bare = x.bare }

-- behind 18
module _ {k n : ℕ} (states letters : List ℕ) (f : LettersFit k n (length states) (length letters)) where
  pub letters_stored : {row : ℕ} {states' : List ℕ} {r : Outcome}
      → Stores k n states row (map state_of letters) states' r
      → CorrectsLetters k n states row letters states' r
  letters_stored {row} {r = r} s =
      record { comes = comes_all k n states row letters f r s.comes; memory = s.memory }

-- as codes at the front of a list
module _ {k n : ℕ} (states : List ℕ) (letters : List ℕ) {list : List ℕ} {m : ℕ}
    (h : Holds list m (map state_of letters)) where
  pub codes_fit : LettersFit k n (length states) (length letters)
      → LettersFit k n (length states) (length (take m list))
  codes_fit f =
      record { rows = f.rows; full = ap length h.front ∙ length-map letters state_of ∙ f.full }

  pub codes_stored : {row : ℕ} {states' : List ℕ} {r : Outcome}
      → Stores k n states row (take m list) states' r
      → Stores k n states row (map state_of letters) states' r
  codes_stored s = rw h.front at s

pub letters_unique : {k n : ℕ} {states : List ℕ} {row : ℕ} {letters x y : List ℕ} {r s : Outcome}
    → CorrectsLetters k n states row letters x r → CorrectsLetters k n states row letters y s
    → (r ≡ s) × (x ≡ y)
letters_unique {k} {n} {states} {row} {letters} a b =
    let e = outcome_unique (letters_order k n states row letters) 1
    (at_fixed _ _, (first_fixed _, (first_fixed _, (at_fixed _ _, tt)))) _ _ a.comes b.comes in
    (e, after_unique _ states e a.memory b.memory)
