-- Laws of entries that are written from a rule: what stands in a list that was gone through, or is being gone through.
--   writing_ahead, front_ahead                             entries that are not yet written are as they were
--   over_length, over_inside, over_before, over_behind     of a list that is written from a rule
--   front_inside                                           from the front on
--   over_filled                                            a part that is filled with one number
--   over_end, over_same                                    at the end of a loop; two rules that agree write the same
use mathlib.Core.Path.{◌≡◌, refl, ap, ◌∙◌}
use mathlib.Core.List.{List, ◌∷◌}
use Prim.Native.Nat.{ℕ, zero, suc, ◌+◌, ◌<◌, ◌≤◌}
use borrow.Rule.Slice.PartMut.{put_mid}
use native.Mathlib.Nat.{zero-add}
use native.Mathlib.Omega.{arith}
use lib.ListN.{length, get_or, take, drop, replicate, length-take, length-drop}
use lib.Seq.{sets, length-take-le}
use Rattle.basics.specs.Words.{listed}
use Rattle.basics.proofs.Listed.{listed_length, listed_at, listed_same, ruling_end}
use Rattle.basics.proofs.Stores.{Writing, sets_copied, sets_length, sets_before, sets_behind, sets_inside}
use Rattle.state_columns.specs.Entries.{Over}

module _ {d : List ℕ} {at : ℕ} {w l : List ℕ} {i : ℕ} (g : Writing d at w l i) where
  pub writing_ahead : (j : ℕ) → at + i ≤ j → get_or l j 0 ≡ get_or d j 0
  writing_ahead j h =
      ap (λ (t : List ℕ). get_or t j 0) g.is
      ∙ sets_behind d at (take i w) j (omega (arith, length-take-le i w g.within))

module _ {d w l : List ℕ} {i : ℕ} (g : Writing d 0 w l i) where
  pub front_ahead : get_or l i 0 ≡ get_or d i 0
  front_ahead = writing_ahead g i (omega arith)

module _ {l : List ℕ} {at n : ℕ} {f : ℕ → ℕ} {l' : List ℕ} (g : Over l at n f l') where
  long : length (listed 0 n f) ≡ n
  long = listed_length 0 n f

  pub over_length : length l' ≡ length l
  over_length = ap length g.is ∙ sets_length l at (listed 0 n f)

  pub over_inside : (i : ℕ) → i < n → at + n ≤ length l → get_or l' (at + i) 0 ≡ f i
  over_inside i h r =
      ap (λ (t : List ℕ). get_or t (at + i) 0) g.is
      ∙ sets_inside l at (listed 0 n f) i (omega (arith, long)) (omega (arith, long))
      ∙ (rw zero-add at (listed_at 0 n i f 0 h))

  pub over_before : (i : ℕ) → i < at → get_or l' i 0 ≡ get_or l i 0
  over_before i h = ap (λ (t : List ℕ). get_or t i 0) g.is ∙ sets_before l at (listed 0 n f) i h

  pub over_behind : (i : ℕ) → at + n ≤ i → get_or l' i 0 ≡ get_or l i 0
  over_behind i h =
      ap (λ (t : List ℕ). get_or t i 0) g.is ∙ sets_behind l at (listed 0 n f) i (omega (arith, long))

module _ {l : List ℕ} {n : ℕ} {f : ℕ → ℕ} {l' : List ℕ} (g : Over l 0 n f l') where
  pub front_inside : (i : ℕ) → i < n → n ≤ length l → get_or l' i 0 ≡ f i
  front_inside i h r = rw zero-add at (over_inside g i h (omega arith))

replicated : (a n v : ℕ) → replicate n v ≡ listed a n (λ i. v)
unfolding listed
replicated a zero v = refl
replicated a (suc n) v = ap (λ (l : List ℕ). v ∷ l) (replicated (a + 1) n v)

pub over_filled : (d : List ℕ) (at k n v : ℕ) (ys : List ℕ) → ys ≡ replicate (length (take k (drop at d))) v
    → k ≡ n → at + n ≤ length d → Over d at n (λ i. v) (put_mid at k d ys)
over_filled d at k n v ys e h r =
    let m : length (take k (drop at d)) ≡ n = omega (arith, length-take k (drop at d), length-drop at d) in
    record {
      is =
          sets_copied d at k (listed 0 n (λ i. v)) ys (rw m at e ∙ replicated 0 n v)
          (omega (arith, listed_length 0 n (λ (i : ℕ). v))) (omega (arith, listed_length 0 n (λ (i : ℕ). v)));
    }

pub over_end : {d : List ℕ} {at n : ℕ} {f : ℕ → ℕ} {l : List ℕ} {i : ℕ} → Writing d at (listed 0 n f) l i
    → n ≤ i → Over d at n f l
over_end {f = f} g h = record { is = ruling_end 0 f g h }

pub over_same : {l : List ℕ} {at n : ℕ} {f : ℕ → ℕ} {l' : List ℕ} (g : ℕ → ℕ) → Over l at n f l'
    → ((i : ℕ) → i < n → f i ≡ g i) → Over l at n g l'
over_same {l} {at} {n} {f} g o h =
    record { is = o.is ∙ ap (sets l at) (listed_same f g 0 n (λ i k. h i (omega arith))) }
