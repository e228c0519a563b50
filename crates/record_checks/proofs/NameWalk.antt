-- The walk over the name records that stand before another: where each starts, what its name is, and whether it is new.
-- Main names: Walk, walk_start, walk_more, name_is.
use mathlib.Core.Path.{◌≡◌, refl, sym, ◌∙◌}
use mathlib.Core.Bool.{Bool, true, false}
use mathlib.Core.List.{List}
use Prim.Native.Nat.{ℕ, zero, suc, ◌+◌, ◌-◌, ◌≤◌, ◌<◌}
use native.Mathlib.Omega.{arith}
use native.Mathlib.Numerals.{add-one}
use lib.Dec.{eqb}
use lib.ListN.{get_or, take, drop}
use borrow.Author.Tests.{eqb-true, eqb-false}
use borrow.Author.Count.{below_none, below_more}
use Rattle.trace_format.specs.Records.{name_end, name_in}
use Rattle.trace_format.specs.Parts.{ByteIs}
use Rattle.record_checks.specs.Steps.{NameStands}

module _ (file : List ℕ) where
  pub end_zero : name_end file 0 ≡ 0
  unfolding name_end
  end_zero = refl

  pub end_suc : (j : ℕ) → name_end file (suc j) ≡ name_end file j + 3 + get_or file (name_end file j + 2) 0
  unfolding name_end
  end_suc j = refl

  pub end_mono : (j k : ℕ) → j ≤ k → name_end file j ≤ name_end file k
  end_mono j zero h = let e : j ≡ 0 = omega arith in rw e (omega arith)
  end_mono j (suc k) h = go (eqb j (suc k)) refl (λ l. end_mono j k l)
    where
      go : (b : Bool) → eqb j (suc k) ≡ b → (j ≤ k → name_end file j ≤ name_end file k)
          → name_end file j ≤ name_end file
          (suc k)
      go true e ih = rw (eqb-true j (suc k) e) (omega arith)
      go false e ih = omega (arith, ih (omega (arith, eqb-false j (suc k) e)), end_suc k)

  module _ (j : ℕ) {q b : ℕ} (there : q ≡ name_end file j) (byte : ByteIs (get_or file (q + 2) 0) b) where
    pub next_name : q + 3 + b ≡ name_end file (j + 1)
    next_name = rw (byte.is, there, add-one) (sym (end_suc j))

    pub name_is : take (q + 3 + b - (q + 3)) (drop (q + 3) file) ≡ name_in file j
    unfolding name_in
    name_is = let e : q + 3 + b - (q + 3) ≡ b = omega arith in rw (e, byte.is, there)

-- the walk has come to name j, at q, on its way to name k, at `at`
pub record Walk (file : List ℕ) (k at q j : ℕ) : Type 0 where
  pub there : q ≡ name_end file j
  pub low : j ≤ k
  pub ahead : j < k → q + 3 + get_or file (q + 2) 0 ≤ at
  pub new : (i : ℕ) → i < j → name_in file i ≡ name_in file k → ⊥

ahead_of : (file : List ℕ) (k at q j : ℕ) → at ≡ name_end file k → q ≡ name_end file j → j < k
    → q + 3 + get_or file
    (q + 2) 0 ≤ at
ahead_of file k at q j e f h = rw (e, f, ← end_suc file j) (end_mono file (suc j) k h)

module _ {file : List ℕ} {k at : ℕ} (here : NameStands file k at) where
  pub walk_start : Walk file k at 0 0
  walk_start =
      record {
        there = sym (end_zero file);
        low = omega arith;
        ahead = ahead_of file k at 0 0 here.there (sym (end_zero file));
        new = below_none _;
      }

  pub walk_more :
      {q j b : ℕ} →
      Walk file k at q j →
      j < k →
      ByteIs (get_or file (q + 2) 0) b →
      (name_in file j ≡ name_in file k → ⊥) →
      Walk file k at (q + 3 + b) (j + 1)
  walk_more {q} {j} {b} w h byte other =
      let e : q + 3 + b ≡ name_end file (j + 1) = next_name file j w.there byte in
      record {
        there = e;
        low = omega arith;
        ahead = ahead_of file k at (q + 3 + b) (j + 1) here.there e;
        new = below_more _ _ w.new other;
      }

-- what a comparison of two parts tells of the names
module _
    (file : List ℕ) (j k : ℕ) {q b at n : ℕ}
    (there : q ≡ name_end file j) (byte : ByteIs (get_or file (q + 2) 0) b)
    (there' : at ≡ name_end file k) (byte' : ByteIs (get_or file (at + 2) 0) n)
    {r : Bool}
    (y : r ≡ true → take (q + 3 + b - (q + 3)) (drop (q + 3) file)
    ≡ take (at + 3 + n - (at + 3)) (drop (at + 3) file))
    (z : take (q + 3 + b - (q + 3)) (drop (q + 3) file) ≡ take (at + 3 + n - (at + 3)) (drop (at + 3) file)
    → r ≡ true)
  where
    pub same_names : r ≡ true → name_in file j ≡ name_in file k
    same_names e = sym (name_is file j there byte) ∙ y e ∙ name_is file k there' byte'

    pub other_names : r ≡ false → name_in file j ≡ name_in file k → ⊥
    other_names e f =
        let t : r ≡ true = z (name_is file j there byte ∙ f ∙ sym (name_is file k there' byte')) in
        let u : ◌≡◌ {A = ℕ} 0 1 = cc in
        omega arith
