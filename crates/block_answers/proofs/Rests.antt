-- A list of which the first 16 entries are there, and the others are written block by block.
--   Rest                              the entries from 16 to a place are written
--   rest_first, rest_next, rest_end   before the first block, a block more, all of them
use mathlib.Core.Path.{◌≡◌, refl, sym, ap, ◌∙◌}
use mathlib.Core.List.{List}
use mathlib.Core.Logic.{◌⊎◌, inl, inr}
use Prim.Native.Nat.{ℕ, ◌+◌, ◌-◌, ◌<◌, ◌≤◌}
use native.Mathlib.Nat.{zero-add}
use native.Mathlib.Omega.{arith}
use lib.ListN.{length, get_or}
use lib.Seq.{ext_get_or}
use Rattle.basics.specs.Words.{listed}
use Rattle.basics.specs.Memory.{front}
use Rattle.basics.proofs.Bools.{below?}
use Rattle.basics.proofs.Listed.{listed_length, listed_at}
use Rattle.basics.proofs.Stores.{sets_front, sets_behind, front_length, front_at}
use Rattle.state_columns.specs.Entries.{Over}
use Rattle.state_columns.proofs.Overs.{over_length, over_inside, over_before, over_behind}

-- of a list the rows from 16 to `from` are written by the rule f
pub record Rest (f : ℕ → ℕ) (l₁ l : List ℕ) (from : ℕ) : Type 0 where
  pub long : length l ≡ length l₁
  pub inside : (j : ℕ) → 16 ≤ j → j < from → get_or l j 0 ≡ f j
  pub before : (j : ℕ) → j < 16 → get_or l j 0 ≡ get_or l₁ j 0
  pub behind : (j : ℕ) → from ≤ j → get_or l j 0 ≡ get_or l₁ j 0

module _ {f : ℕ → ℕ} where
  pub rest_first : (l : List ℕ) → Rest f l l 16
  rest_first l =
      record {
        long = refl;
        inside = λ j h k. absurd (omega arith);
        before = λ j h. refl;
        behind = λ j h. refl;
      }

  module _ {l₁ l : List ℕ} {from : ℕ} (g : Rest f l₁ l from) where
    pub rest_next : {m : ℕ} {l' : List ℕ} → 16 ≤ from → from + m ≤ length l → Over l from m (λ i. f (from + i)) l'
        → Rest f l₁ l' (from + m)
    rest_next {m} {l'} h r o =
        record {
          long = over_length o ∙ g.long;
          inside = λ j k q. go j k q (below? j from);
          before = λ j k. over_before o j (omega arith) ∙ g.before j k;
          behind = λ j k. over_behind o j k ∙ g.behind j (omega arith);
        }
      where
        go : (j : ℕ) → 16 ≤ j → j < from + m → (j < from) ⊎ (from ≤ j) → get_or l' j 0 ≡ f j
        go j k q (inl z) = over_before o j z ∙ g.inside j k z
        go j k q (inr z) =
            let e : from + (j - from) ≡ j = omega arith in
            rw e at (over_inside o (j - from) (omega arith) r)

    pub rest_end : (l₀ : List ℕ) {n : ℕ} → n ≤ from → 16 ≤ n → n ≤ length l₀ → l₁ ≡ front (listed 0 16 f) l₀
        → from ≤ n → l ≡ front (listed 0 n f) l₀
    rest_end l₀ {n} h k r e u =
        ext_get_or 0 l (front (listed 0 n f) l₀) (g.long ∙ first_long ∙ sym (front_length l₀ (listed 0 n f) all))
        (λ i j. go i (below? i 16) (below? i n))
      where
        all : length (listed 0 n f) ≤ length l₀
        all = omega (arith, listed_length 0 n f)

        first : length (listed 0 16 f) ≤ length l₀
        first = omega (arith, listed_length 0 16 f)

        first_long : length l₁ ≡ length l₀
        first_long = ap length e ∙ front_length l₀ (listed 0 16 f) first

        -- an entry at the front, and one behind it
        at : (w i : ℕ) → i < w → w ≤ length l₀ → get_or (front (listed 0 w f) l₀) i 0 ≡ f i
        at w i q v =
            front_at l₀ (listed 0 w f) i (omega (arith, listed_length 0 w f))
            ∙ (rw zero-add at (listed_at 0 w i f 0 q))

        past : (w i : ℕ) → w ≤ i → w ≤ length l₀ → get_or (front (listed 0 w f) l₀) i 0 ≡ get_or l₀ i 0
        past w i q v =
            ap (λ (t : List ℕ). get_or t i 0) (sym (sets_front l₀ (listed 0 w f) (omega (arith, listed_length 0 w f))))
            ∙ sets_behind l₀ 0 (listed 0 w f) i (omega (arith, listed_length 0 w f))

        old : (i : ℕ) → get_or l₁ i 0 ≡ get_or (front (listed 0 16 f) l₀) i 0
        old i = ap (λ (t : List ℕ). get_or t i 0) e

        go : (i : ℕ) → (i < 16) ⊎ (16 ≤ i) → (i < n) ⊎ (n ≤ i)
            → get_or l i 0 ≡ get_or (front (listed 0 n f) l₀) i 0
        go i (inl z) q = g.before i z ∙ old i ∙ at 16 i z (omega arith) ∙ sym (at n i (omega arith) r)
        go i (inr z) (inl y) = g.inside i z (omega arith) ∙ sym (at n i y r)
        go i (inr z) (inr y) =
            g.behind i (omega arith) ∙ old i ∙ past 16 i z (omega arith) ∙ sym (past n i y r)
