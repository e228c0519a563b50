-- The rows of a run's steps, as the loops write them: row by row for one name, then name by name.
--   column_first, column_next, column_end   one name's place in the rows so far
--   named_still, named_held, named_missing, named_new     one name, by what was tested
--   Settling                                the first names are settled
--   settling_first, settling_rows, settling_next, settling_end
--   settled_off, settled_none               nothing is done if a step of the run does not change, or if it has no steps
--   by_cells, settled_alone                 tables with the same entries; nothing is done if nothing comes after
use Rattle.std.specs.Prelude.{if◌then◌else◌}
use Prim.Native.Nat.{ℕ, ◌+◌, ◌*◌, ◌/◌, ◌%◌, ◌<◌, ◌≤◌}
use native.Mathlib.Omega.{arith}
use native.Mathlib.Numerals.{add-one}
use mathlib.Core.Path.{◌≡◌, refl, ap, sym, ◌∙◌}
use mathlib.Core.Bool.{Bool, true, false, ◌&&◌, ◌||◌}
use mathlib.Core.List.{List}
use mathlib.Core.Logic.{◌⊎◌, inl, inr}
use lib.Dec.{eqb, ltb}
use lib.ListN.{length, get_or, set, replicate, length-set}
use lib.Seq.{get_or-set_same, get_or-set_other, ext_get_or}
use borrow.Author.Tests.{eq-eqb, ne_eqb, lt-ltb, le-ltb}
use Rattle.basics.specs.Words.{some}
use Rattle.basics.proofs.Bools.{equal?, below?}
use Rattle.steady_pins.specs.Walking.{cell, among, over, settled_entry, Settled, Rows, NameRows, Column, Named}
use Rattle.steady_pins.proofs.BesideLike.{zeros}

among_next : (rows : List ℕ) (j r : ℕ) → among rows (j + 1) r ≡ (among rows j r || eqb (get_or rows j 0) r)
unfolding some
among_next rows j r = rw add-one refl

-- one name's place in one row more
pub column_first : {rows l : List ℕ} {n v : ℕ} → Column rows 0 n v l l
unfolding some
column_first = record { long = refl; entry = λ r k u w. refl }

module _ {rows : List ℕ} {j n v : ℕ} {l l' : List ℕ} (u : n < 32) (low : get_or rows j 0 < 256) (long : length l ≡ 8192)
    (c : Column rows j n v l l') where
  pub column_next : Column rows (j + 1) n v l (set l' (get_or rows j 0 * 32 + n) v)
  column_next =
      record {
        long = length-set l' (get_or rows j 0 * 32 + n) v ∙ c.long;
        entry = λ r k a b.
            rw (among_next rows j r)
            (go r k a b (among rows j r) (c.entry r k a b) (equal? r (get_or rows j 0)) (equal? k n));
      }
    where
      go : (r k : ℕ) → r < 256 → k < 32 → (x : Bool) → cell l' r k ≡ (if x && eqb k n then v else cell l r k)
          → (r ≡ get_or rows j 0) ⊎ (r ≡ get_or rows j 0 → ⊥) → (k ≡ n) ⊎ (k ≡ n → ⊥)
          → cell (set l' (get_or rows j 0 * 32 + n) v) r k
          ≡ (if (x || eqb (get_or rows j 0) r) && eqb k n then v else cell l r k)
      go r k a b x e (inl d) (inl f) =
          rw (eq-eqb (get_or rows j 0) r (sym d), eq-eqb k n f)
          (ap (λ (i : ℕ). get_or (set l' (get_or rows j 0 * 32 + n) v) i 0) (omega arith)
          ∙ get_or-set_same l' (get_or rows j 0 * 32 + n) v 0 (omega (arith, c.long))
          ∙ hit x)
        where
          hit : (x : Bool) → v ≡ (if (x || true) && true then v else cell l r k)
          hit true = refl
          hit false = refl
      go r k a b x e (inl d) (inr f) =
          get_or-set_other l' (get_or rows j 0 * 32 + n) (r * 32 + k) v 0 (λ i. f (omega arith))
          ∙ e
          ∙ rw (ne_eqb k n f) (miss x (x || eqb (get_or rows j 0) r))
        where
          miss : (x y : Bool) → (if x && false then v else cell l r k) ≡ (if y && false then v else cell l r k)
          miss true true = refl
          miss true false = refl
          miss false true = refl
          miss false false = refl
      go r k a b x e (inr d) q =
          get_or-set_other l' (get_or rows j 0 * 32 + n) (r * 32 + k) v 0 (λ i. d (omega arith))
          ∙ e
          ∙ rw (ne_eqb (get_or rows j 0) r (λ i. d (sym i))) (same x)
        where
          same : (x : Bool) → (if x && eqb k n then v else cell l r k)
              ≡ (if (x || false) && eqb k n then v else cell l r k)
          same true = refl
          same false = refl

pub column_end : {rows : List ℕ} {many j n v : ℕ} {l l' : List ℕ} → Column rows j n v l l' → j ≤ many → many ≤ j
    → Column rows many n v l l'
column_end {many = many} {j = j} c a b = let e : many ≡ j = omega arith in rw e c

-- one name, by what was tested
module _ {changing : Bool} {before after : ℕ} {rows : List ℕ} {many n : ℕ} {l : List ℕ} where
  by_column : {v : ℕ} {l' : List ℕ} → ((old : ℕ) → v ≡ settled_entry true changing before after old)
      → Column rows many n v l l' → Named changing before after rows many n l l'
  unfolding settled_entry
  by_column {v} h c =
      record { long = c.long; entry = λ r k a b. c.entry r k a b ∙ go (among rows many r) (eqb k n) (cell l r k) }
    where
      go : (x y : Bool) (old : ℕ) → (if x && y then v else old)
          ≡ (if y then settled_entry x changing before after old else old)
      go true true old = h old
      go true false old = refl
      go false true old = refl
      go false false old = refl

  as_before : ((old : ℕ) → old ≡ settled_entry true changing before after old)
      → Named changing before after rows many n l l
  unfolding settled_entry
  as_before h = record { long = refl; entry = λ r k a b. go (among rows many r) (eqb k n) (cell l r k) }
    where
      go : (x y : Bool) (old : ℕ) → old ≡ (if y then settled_entry x changing before after old else old)
      go true true old = h old
      go true false old = refl
      go false true old = refl
      go false false old = refl

  pub named_still : {l' : List ℕ} → changing ≡ false → Column rows many n 0 l l'
      → Named changing before after rows many n l l'
  unfolding settled_entry
  named_still e c = by_column (λ old. rw e refl) c

  module _ (e : changing ≡ true) where
    pub named_held : (before ≡ 0 → ⊥) → Named changing before after rows many n l l
    unfolding settled_entry
    named_held d = as_before (λ old. rw (e, ne_eqb before 0 d) refl)

    module _ (d : before ≡ 0) where
      pub named_missing : after ≡ 0 → Named changing before after rows many n l l
      unfolding settled_entry over
      named_missing f = as_before (λ old. rw (e, eq-eqb before 0 d, eq-eqb after 0 f) refl)

      pub named_new : {l' : List ℕ} → (after ≡ 0 → ⊥) → Column rows many n after l l'
          → Named changing before after rows many n l l'
      unfolding settled_entry over
      named_new f c = by_column (λ old. rw (e, eq-eqb before 0 d, ne_eqb after 0 f) refl) c

-- the first j names are settled
pub record Settling (changing : Bool) (before after rows : List ℕ) (many : ℕ) (l l' : List ℕ) (j : ℕ) : Type 0 where
  pub long : length l' ≡ length l
  pub entry : (r k : ℕ) → r < 256 → k < 32
      → cell l' r k
      ≡ (if ltb k j then settled_entry (among rows many r) changing (get_or before k 0) (get_or after k 0) (cell l r k)
      else cell l r k)

module _ {changing : Bool} {before after rows : List ℕ} {many : ℕ} {l : List ℕ} where
  pub settling_first : Settling changing before after rows many l l 0
  settling_first = record { long = refl; entry = λ r k a b. rw (le-ltb k 0 (omega arith)) refl }

  module _ {l' : List ℕ} {j : ℕ} (g : Settling changing before after rows many l l' j) where
    pub settling_rows : Rows rows many l → j < 32 → NameRows j rows many l'
    settling_rows h u =
        record { name = u; fit = record { few = h.few; low = h.low; long = g.long ∙ h.long } }

    pub settling_next : {l'' : List ℕ} → Named changing (get_or before j 0) (get_or after j 0) rows many j l' l''
        → Settling changing before after rows many l l'' (j + 1)
    settling_next {l''} c =
        record {
          long = c.long ∙ g.long;
          entry = λ r k a b. c.entry r k a b ∙ go r k (g.entry r k a b) (equal? k j) (below? k j);
        }
      where
        now : ℕ → ℕ → ℕ
        now r k = settled_entry (among rows many r) changing (get_or before k 0) (get_or after k 0) (cell l r k)

        go : (r k : ℕ) → cell l' r k ≡ (if ltb k j then now r k else cell l r k)
            → (k ≡ j) ⊎ (k ≡ j → ⊥) → (k < j) ⊎ (j ≤ k)
            → (if eqb k j
            then settled_entry (among rows many r) changing (get_or before j 0) (get_or after j 0) (cell l' r k)
            else cell l' r k)
            ≡ (if ltb k (j + 1) then now r k else cell l r k)
        go r k e (inl d) q =
            let f : cell l' r k ≡ cell l r k = e ∙ rw (le-ltb k j (omega arith)) refl in
            rw (eq-eqb k j d, lt-ltb k (j + 1) (omega arith), f, d) refl
        go r k e (inr d) (inl u) =
            rw (ne_eqb k j d, lt-ltb k (j + 1) (omega arith)) (e ∙ rw (lt-ltb k j u) refl)
        go r k e (inr d) (inr u) =
            rw (ne_eqb k j d, le-ltb k (j + 1) (omega arith)) (e ∙ rw (le-ltb k j u) refl)

    pub settling_end : {on : Bool} → on ≡ true → 32 ≤ j → Settled on changing before after rows many l l'
    settling_end h u =
        record {
          long = g.long;
          entry = λ r k a b. rw h (g.entry r k a b ∙ rw (lt-ltb k j (omega arith)) refl);
        }

-- nothing to do
module _ {on changing : Bool} {before after rows : List ℕ} where
  pub settled_off : {many : ℕ} {l : List ℕ} → on ≡ false → Settled on changing before after rows many l l
  unfolding settled_entry
  settled_off h = record { long = refl; entry = λ r n a b. rw h refl }

  pub settled_none : {l : List ℕ} → Settled on changing before after rows 0 l l
  unfolding settled_entry some
  settled_none {l} =
      record { long = refl; entry = λ r n a b. go on (get_or before n 0) (get_or after n 0) (cell l r n) }
    where
      go : (q : Bool) (x y z : ℕ) → z ≡ settled_entry (q && false) changing x y z
      go true x y z = refl
      go false x y z = refl

settled_still : (q : Bool) (x y old : ℕ) → y ≡ 0 → settled_entry q true x y old ≡ old
unfolding settled_entry over
settled_still q x y old e = rw (eq-eqb y 0 e) (go q (eqb x 0))
  where
    go : (q z : Bool) → (if q then (if true then (if z then old else old) else 0) else old) ≡ old
    go true true = refl
    go true false = refl
    go false z = refl

-- two tables with the same entries are the same
pub by_cells : (l m : List ℕ) → length l ≡ 8192 → length m ≡ length l
    → ((r n : ℕ) → r < 256 → n < 32 → cell m r n ≡ cell l r n) → m ≡ l
by_cells l m h w f = ext_get_or 0 m l w (λ i u. at i (omega arith))
  where
    at : (i : ℕ) → i < 8192 → get_or m i 0 ≡ get_or l i 0
    at i u =
        let e : i / 32 * 32 + i % 32 ≡ i = omega arith in
        rw e at (f (i / 32) (i % 32) (omega arith) (omega arith))

pub settled_alone : {on : Bool} {before rows : List ℕ} {many : ℕ} {l m : List ℕ} → length l ≡ 8192
    → Settled on true before (replicate 32 0) rows many l m → m ≡ l
settled_alone {on} {before} {rows} {many} {l} {m} h s =
    by_cells l m h s.long
    (λ r n u v. s.entry r n u v
    ∙ settled_still (on && among rows many r) (get_or before n 0) (get_or (replicate 32 0) n 0) (cell l r n) (zeros n 32))
