-- Times and states in one list each: what stands at row r is what the record of row r holds.
--   time_of_times, codes_of_states   row r's time and codes
--   time_fits                        a time fits into its bytes
--   times_small, states_small        every time has 64 bits, every code is at most 7
use mathlib.Core.Path.{◌≡◌, refl, ◌∙◌}
use mathlib.Core.Bool.{Bool, true, false}
use mathlib.Core.List.{List, [], ◌∷◌, ◌++◌}
use Prim.Native.Nat.{ℕ, zero, suc, ◌+◌, ◌-◌, ◌*◌, ◌^◌, ◌≤◌, ◌<◌}
use native.Mathlib.Omega.{arith}
use lib.Dec.{eqb, ltb}
use lib.ListN.{length, get_or, take, drop, length-drop, get_or-append, get_or-eq_default}
use lib.Seq.{take_all, take-append-le, drop-append-le, drop_at, get_or_at, get_or-append-add, get_or-take, get_or-drop}
use borrow.Author.Tests.{eqb-true, eqb-false, ltb-true, ltb-false}
use Rattle.trace_format.specs.Format.{codes_of, Fits}
use Rattle.trace_format.proofs.RowByRow.{room_for}
use Rattle.trace_format.proofs.MarkBytes.{row_kind}
use Rattle.trace_format.proofs.Numbers.{number_small, fits_small}
use Rattle.trace_format.specs.Records.{place, width_in, time_in, codes_in, GoodRow}
use Rattle.record_copies.specs.HeldLists.{times_of, states_of}
use Rattle.record_checks.proofs.GoodRecords.{good_row}
use Rattle.record_copies.proofs.Copying.{times_length, states_length, codes_length}

-- a law of each element of two lists is one of their join
join_all :
    (P : ℕ → Type 0) (xs ys : List ℕ) →
    ((i : ℕ) → P (get_or xs i 0)) →
    ((i : ℕ) → P (get_or ys i 0)) →
    (i : ℕ) →
    P (get_or (xs ++ ys) i 0)
join_all P xs ys f g i = go (ltb i (length xs)) refl
  where
    go : (b : Bool) → ltb i (length xs) ≡ b → P (get_or (xs ++ ys) i 0)
    go true e = rw (get_or-append xs ys 0 i (ltb-true i (length xs) e)) (f i)
    go false e =
        let l : length xs + (i - length xs) ≡ i = omega (arith, ltb-false i (length xs) e) in
        let s : get_or (xs ++ ys) i 0 ≡ get_or ys (i - length xs) 0 =
        rw l at (get_or-append-add xs ys (i - length xs) 0)
        in rw s (g (i - length xs))

none_all : (P : ℕ → Type 0) → P 0 → (i : ℕ) → P (get_or [] i 0)
none_all P z zero = z
none_all P z (suc i) = z

one_all : (P : ℕ → Type 0) (x : ℕ) → P 0 → P x → (i : ℕ) → P (get_or (x ∷ []) i 0)
one_all P x z h zero = h
one_all P x z h (suc i) = none_all P z i

module _ (file : List ℕ) (k n : ℕ) (rows : (r : ℕ) → r < n → GoodRow file k r) where
  pub time_of_times : (m r : ℕ) → r < m → get_or (times_of file k m) r 0 ≡ time_in file k r
  unfolding times_of
  time_of_times zero r h = absurd (omega arith)
  time_of_times (suc m) r h = go (eqb r m) refl (time_of_times m r)
    where
      go :
          (b : Bool) →
          eqb r m ≡ b →
          (r < m → get_or (times_of file k m) r 0 ≡ time_in file k r) →
          get_or (times_of file k m ++ (time_in file k m ∷ [])) r 0 ≡ time_in file k r
      go true e ih =
          rw (eqb-true r m e) (get_or_at (times_of file k m) (time_in file k m) [] 0 m (times_length file k n rows m))
      go false e ih =
          let l : r < m = omega (arith, eqb-false r m e) in
          get_or-append (times_of file k m) (time_in file k m ∷ []) 0 r
          (omega (arith, times_length file k n rows m)) ∙ ih l

  pub codes_of_states : (m r : ℕ) → m ≤ n → r < m → codes_of k (states_of file k m) r ≡ codes_in file k r
  unfolding codes_of states_of
  codes_of_states zero r g h = absurd (omega arith)
  codes_of_states (suc m) r g h = go (eqb r m) refl (codes_of_states m r (omega arith))
    where
      size : length (states_of file k m) ≡ m * k
      size = states_length file k n rows m (omega arith)

      go :
          (b : Bool) →
          eqb r m ≡ b →
          (r < m → take k (drop (r * k) (states_of file k m)) ≡ codes_in file k r) →
          take k (drop (r * k) (states_of file k m ++ codes_in file k m)) ≡ codes_in file k r
      go true e ih =
          rw (eqb-true r m e, drop_at (states_of file k m) (codes_in file k m) (m * k) size)
          (take_all k (codes_in file k m) (omega (arith, codes_length file k n rows m g)))
      go false e ih =
          let l : r < m = omega (arith, eqb-false r m e) in
          let room : r * k + k ≤ length (states_of file k m) = omega (arith, room_for r m k l, size) in
          let s : r * k ≤ length (states_of file k m) = omega arith in
          let t : k ≤ length (drop (r * k) (states_of file k m)) = rw length-drop (omega arith) in
          rw (drop-append-le (r * k) (states_of file k m) (codes_in file k m) s)
          (take-append-le k (drop (r * k) (states_of file k m)) (codes_in file k m) t ∙ ih l)

  pub time_fits : ((i : ℕ) → get_or file i 0 < 256) → (r : ℕ) → r < n → Fits (width_in file k r) (time_in file k r)
  unfolding time_in
  time_fits bytes r h =
      record {
        kind = row_kind _ _ (good_row file k r (rows r h)).mark;
        small = number_small file bytes (width_in file k r) (place file k r + 2);
      }

  pub times_small : ((i : ℕ) → get_or file i 0 < 256) → (m : ℕ) → m ≤ n → (i : ℕ) → get_or (times_of file k m) i 0 < 2 ^ 64
  unfolding times_of
  times_small bytes zero h i = none_all (λ x. x < 2 ^ 64) (omega arith) i
  times_small bytes (suc m) h i =
      join_all (λ x. x < 2 ^ 64) (times_of file k m) _ (times_small bytes m (omega arith))
      (one_all (λ x. x < 2 ^ 64) _ (omega arith) (fits_small (time_fits bytes m h))) i

  code_at : (r i : ℕ) → i < k
      → get_or (codes_in file k r) i 0 ≡ get_or file (place file k r + 2 + width_in file k r + i) 0
  unfolding codes_in
  code_at r i l =
      let p : ℕ = place file k r + 2 + width_in file k r in
      get_or-take k (drop p file) i 0 l ∙ get_or-drop p file i 0

  code_small : (r : ℕ) → r < n → (i : ℕ) → get_or (codes_in file k r) i 0 ≤ 7
  code_small r h i = go (ltb i k) refl
    where
      go : (b : Bool) → ltb i k ≡ b → get_or (codes_in file k r) i 0 ≤ 7
      go true e =
          let l : i < k = ltb-true i k e in
          let no : 7 < get_or file (place file k r + 2 + width_in file k r + i) 0 → ⊥ =
          λ a.
          (good_row file k r (rows r h)).codes (place file k r + 2 + width_in file k r + i)
          (record { from = omega arith; to = omega arith; above = a })
          in rw (code_at r i l) (omega arith)
      go false e =
          rw
          (get_or-eq_default (codes_in file k r) 0 {n = i}
          (omega (arith, codes_length file k n rows r h, ltb-false i k e))) (omega arith)

  pub states_small : (m : ℕ) → m ≤ n → (i : ℕ) → get_or (states_of file k m) i 0 ≤ 7
  unfolding states_of
  states_small zero h i = none_all (λ x. x ≤ 7) (omega arith) i
  states_small (suc m) h i =
      join_all (λ x. x ≤ 7) (states_of file k m) (codes_in file k m) (states_small m (omega arith)) (code_small m h) i
