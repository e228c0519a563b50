-- The rows that the walk over a step writes.
--   among_none, among_more      no later row is one of the run's; one row more
--   rowed                       a table with a row from a rule, or as it was
--   rowed_own, rowed_other      its entries in that row, and in the other rows
--   rowed_long, rowed_behind    its length; nothing stands behind that row
--   settled_kept, settled_blank what is settled stays as it was in the rows that are none of the run's
use Rattle.std.specs.Prelude.{if◌then◌else◌}
use Prim.Native.Nat.{ℕ, zero, suc, ◌+◌, ◌*◌, ◌/◌, ◌%◌, ◌<◌, ◌≤◌}
use native.Mathlib.Omega.{arith}
use native.Mathlib.Nat.{zero-add}
use native.Mathlib.Numerals.{add-one}
use mathlib.Core.Path.{◌≡◌, refl, ap, ◌∙◌}
use mathlib.Core.Bool.{Bool, true, false, ◌&&◌, ◌||◌}
use mathlib.Core.List.{List}
use mathlib.Core.Logic.{◌⊎◌, inl, inr}
use lib.Dec.{eqb}
use lib.ListN.{length, get_or, set, get_or-eq_default}
use lib.Seq.{sets, get_or-set_same, get_or-set_other}
use borrow.Author.Tests.{ne_eqb}
use Rattle.basics.specs.Words.{some, listed}
use Rattle.basics.proofs.Bools.{below?}
use Rattle.basics.proofs.Listed.{listed_at, listed_length}
use Rattle.basics.proofs.Stores.{sets_length, sets_before, sets_behind, sets_inside}
use Rattle.steady_pins.specs.Walking.{cell, among, settled_entry, Settled}

-- the rows of the run
pub among_none : (rows : List ℕ) (many r : ℕ) → ((k : ℕ) → k < many → get_or rows k 0 < r) → among rows many r ≡ false
unfolding some
among_none rows zero r h = refl
among_none rows (suc n) r h =
    let u = h n (omega arith) in
    rw (among_none rows n r (λ k l. h k (omega arith)), ne_eqb (get_or rows n 0) r (λ e. omega arith)) refl

among_same : (rows : List ℕ) (n many v r : ℕ) → n ≤ many → among (set rows many v) n r ≡ among rows n r
unfolding some
among_same rows zero many v r l = refl
among_same rows (suc n) many v r l =
    rw (among_same rows n many v r (omega arith), get_or-set_other rows many n v 0 (λ e. omega arith)) refl

pub among_more : (rows : List ℕ) (many v r : ℕ) → many < length rows
    → among (set rows many v) (many + 1) r ≡ (among rows many r || eqb v r)
unfolding some
among_more rows many v r l =
    rw (add-one, among_same rows many many v r (omega arith), get_or-set_same rows many v 0 l) refl

-- a table with a row from a rule, or as it was
abbrev pub rowed : Bool → List ℕ → ℕ → (ℕ → ℕ) → List ℕ
rowed q l row f = if q then sets l (row * 32) (listed 0 32 f) else l

module _ (l : List ℕ) (row : ℕ) (f : ℕ → ℕ) where
  pub rowed_long : (q : Bool) → length (rowed q l row f) ≡ length l
  rowed_long true = sets_length l (row * 32) (listed 0 32 f)
  rowed_long false = refl

  pub rowed_own : (q : Bool) (n : ℕ) → n < 32 → row * 32 + 32 ≤ length l
      → cell (rowed q l row f) row n ≡ (if q then f n else cell l row n)
  rowed_own true n u h =
      let e = listed_length 0 32 f in
      sets_inside l (row * 32) (listed 0 32 f) n (omega arith) (omega arith)
      ∙ listed_at 0 32 n f 0 u
      ∙ ap f (zero-add n)
  rowed_own false n u h = refl

  pub rowed_behind : (q : Bool) (i : ℕ) → row * 32 + 32 ≤ i → get_or (rowed q l row f) i 0 ≡ get_or l i 0
  rowed_behind true i h = sets_behind l (row * 32) (listed 0 32 f) i (omega (arith, listed_length 0 32 f))
  rowed_behind false i h = refl

  rowed_before : (q : Bool) (i : ℕ) → i < row * 32 → get_or (rowed q l row f) i 0 ≡ get_or l i 0
  rowed_before true i h = sets_before l (row * 32) (listed 0 32 f) i h
  rowed_before false i h = refl

  pub rowed_other : (q : Bool) (r n : ℕ) → (r ≡ row → ⊥) → n < 32 → cell (rowed q l row f) r n ≡ cell l r n
  rowed_other q r n d u = go (below? r row) (below? row r)
    where
      go : (r < row) ⊎ (row ≤ r) → (row < r) ⊎ (r ≤ row) → cell (rowed q l row f) r n ≡ cell l r n
      go (inl a) b = rowed_before q (r * 32 + n) (omega arith)
      go (inr a) (inl b) = rowed_behind q (r * 32 + n) (omega arith)
      go (inr a) (inr b) = absurd (d (omega arith))

-- what is settled stays as it was in the rows that are none of the run's
module _ {on changing : Bool} {before after rows : List ℕ} {many : ℕ} {l m : List ℕ}
    (s : Settled on changing before after rows many l m) where
  pub settled_kept : (r n : ℕ) → r < 256 → n < 32 → among rows many r ≡ false → cell m r n ≡ cell l r n
  unfolding settled_entry
  settled_kept r n a b e = s.entry r n a b ∙ rw e (go on)
    where
      go : (q : Bool) → settled_entry (q && false) changing (get_or before n 0) (get_or after n 0) (cell l r n) ≡ cell l r n
      go true = refl
      go false = refl

  pub settled_blank : (at : ℕ) → length l ≡ 8192 → ((k : ℕ) → k < many → get_or rows k 0 < at)
      → ((i : ℕ) → at * 32 ≤ i → get_or l i 0 ≡ 0) → (i : ℕ) → at * 32 ≤ i → get_or m i 0 ≡ 0
  settled_blank at h low none i a = go (below? i 8192)
    where
      go : (i < 8192) ⊎ (8192 ≤ i) → get_or m i 0 ≡ 0
      go (inl u) =
          let e : i / 32 * 32 + i % 32 ≡ i = omega arith in
          rw e at
          (settled_kept (i / 32) (i % 32) (omega arith) (omega arith)
          (among_none rows many (i / 32) (λ k b. let c = low k b in omega arith)))
          ∙ none i a
      go (inr u) = get_or-eq_default m 0 {n = i} (omega (arith, s.long))
