-- Two parts of the states are two rows of the trace, and what changes between them is what changes at the row.
--   mask_same                of two tests that agree below n
--   part_at                  an entry of a part of a list
--   row_set, row_changes     the changes of two parts are those of the row
--   row_none, row_later      row 0 has none; a later one has a row before it
use mathlib.Core.Path.{◌≡◌, refl, ap₂, sym, ◌∙◌}
use mathlib.Core.Bool.{Bool, false, not}
use mathlib.Core.List.{List}
use Prim.Native.Nat.{ℕ, zero, suc, ◌+◌, ◌-◌, ◌*◌, ◌<◌, ◌≤◌}
use native.Mathlib.Nat.{suc-mul}
use native.Mathlib.Omega.{arith}
use lib.Dec.{eqb}
use lib.ListN.{length, get_or, take, drop, length-take, length-drop}
use lib.Seq.{get_or-take, get_or-drop}
use Rattle.basics.specs.Words.{count}
use Rattle.alf.specs.Traces.{mask, changed, change_mask, change_count}
use Rattle.states.specs.Comparing.{compared, differ, Compared}
use Rattle.basics.proofs.Counts.{count_same}
use Rattle.changes.specs.Call.{RowSet}

pub mask_same : (n : ℕ) (p q : ℕ → Bool) → ((i : ℕ) → i < n → p i ≡ q i) → mask n p ≡ mask n q
unfolding mask
mask_same zero p q h = refl
mask_same (suc n) p q h = rw (mask_same n p q (λ i l. h i (omega arith)), h n (omega arith)) refl

part_at : (n at i : ℕ) (s : List ℕ) → i < n → get_or (take n (drop at s)) i 0 ≡ get_or s (at + i) 0
part_at n at i s h = get_or-take n (drop at s) i 0 h ∙ get_or-drop at s i 0

part_length : (n at : ℕ) (s : List ℕ) → at + n ≤ length s → length (take n (drop at s)) ≡ n
part_length n at s h = let l = length-take n (drop at s) in let d = length-drop at s in omega arith

both_rows : (x y names : ℕ) → x ≡ names → y ≡ names → names ≤ 32 → compared x y ≡ names
both_rows x y names e f h = omega arith

pub row_set : (names : ℕ) (states : List ℕ) (r set many : ℕ) → names ≤ 32
    → suc r * names + names ≤ length states
    → Compared (take names (drop (r * names) states)) (take names (drop (suc r * names) states)) set many
    → RowSet names states (suc r) set many
unfolding change_mask change_count changed
row_set names states r set many few room c =
    let e = suc-mul r names in
    let old = part_length names (r * names) states (omega arith) in
    let new = part_length names (suc r * names) states room in
    let n = both_rows _ _ names old new few in
    record {
      changed = c.changed ∙ rw n (mask_same names _ _ same);
      number = c.number ∙ rw n (count_same names _ _ same);
    }
  where
    same : (i : ℕ) → i < names
        → differ (take names (drop (r * names) states)) (take names (drop (suc r * names) states)) i
        ≡ changed names states (suc r) i
    same i h =
        ap₂ (λ (x y : ℕ). not (eqb x y))
        (part_at names (r * names) i states h)
        (part_at names (suc r * names) i states h)

-- row 0 has none
none_changed : (n : ℕ) → mask n (λ i. false) ≡ 0
unfolding mask
none_changed zero = refl
none_changed (suc n) = let e = none_changed n in omega arith

none_counted : (n : ℕ) → count n (λ i. false) ≡ 0
unfolding count
none_counted zero = refl
none_counted (suc n) = let e = none_counted n in omega arith

pub row_none : (names : ℕ) (states : List ℕ) (row : ℕ) → row ≡ 0 → RowSet names states row 0 0
unfolding change_mask change_count changed
row_none names states row e =
    rw e (record { changed = sym (none_changed names); number = sym (none_counted names) })

pub row_later : (row names : ℕ) → (row ≡ 0 → ⊥) → names ≤ row * names
row_later zero names n = absurd (n refl)
row_later (suc r) names n = omega (arith, suc-mul r names)

-- as the code cuts the two rows out
pub row_changes : (names : ℕ) (states : List ℕ) (row set many : ℕ) → names ≤ 32 → (row ≡ 0 → ⊥)
    → row * names + names ≤ length states
    → Compared
    (take (row * names - (row * names - names)) (drop (row * names - names) states))
    (take (row * names + names - row * names) (drop (row * names) states)) set many
    → RowSet names states row set many
row_changes names states zero set many few n room c = absurd (n refl)
row_changes names states (suc r) set many few n room c =
    let e = suc-mul r names in
    let from : suc r * names - names ≡ r * names = omega arith in
    let old : suc r * names - r * names ≡ names = omega arith in
    let new : suc r * names + names - suc r * names ≡ names = omega arith in
    row_set names states r set many few room (rw (from, old, new) at c)
