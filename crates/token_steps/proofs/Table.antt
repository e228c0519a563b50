-- The table of spellings as the code has it, a row of four bytes for each, and a search in it.
--   entry                           row i of the table is entry i of the spellings, by a computed test
--   row_begins, find_hit, find_miss, find_end   one turn of the search, and its end
use mathlib.Core.Path.{◌≡◌, refl, sym, ◌∙◌}
use mathlib.Core.Bool.{Bool, true, false, ◌&&◌}
use mathlib.Core.List.{List, [], ◌∷◌}
use Prim.Native.Nat.{ℕ, suc, ◌+◌, ◌≤◌, ◌<◌}
use native.Mathlib.Omega.{arith}
use Rattle.std.specs.Prelude.{Err}
use native.Mathlib.Numerals.{add-one}
use lib.Dec.{eqb, ltb}
use lib.ListN.{length, get_or, drop, drop_of_length-le}
use lib.Seq.{drop-cons}
use borrow.Author.Tests.{eqb-true, ltb-true}
use Rattle.basics.specs.Words.{same}
use Rattle.basics.proofs.Bools.{and_left, and_right}
use Rattle.basics.proofs.Entries.{same_sound}
use Rattle.token_steps.specs.Spelling.{Spelling, ◌means◌, spellings}
use Rattle.token_steps.specs.Steps.{starts, first_of, step}
use Rattle.token_steps.specs.Inner.{word_of, rows}
use Rattle.basics.proofs.Ranges.{all_from_law}

abbrev nothing : Spelling
nothing = [] means 0

-- byte j of row i
abbrev pub cell : ℕ → ℕ → ℕ
cell i j = get_or (get_or (rows spellings) i []) j 0

abbrev pub word : ℕ → List ℕ
word i = word_of (cell i 0) (cell i 1) (cell i 2)

pub record Entry (i : ℕ) : Type 0 where
  pub bytes : word i ≡ (get_or spellings i nothing).bytes
  pub code : cell i 3 ≡ (get_or spellings i nothing).code
  pub first : 0 < cell i 0

abbrev entry_test : ℕ → Bool
entry_test i =
    same (word i) (get_or spellings i nothing).bytes &&
    (eqb (cell i 3) (get_or spellings i nothing).code && ltb 0 (cell i 0))

entry_of : (i : ℕ) → entry_test i ≡ true → Entry i
entry_of i t =
    let bytes = same (word i) (get_or spellings i nothing).bytes in
    let code = eqb (cell i 3) (get_or spellings i nothing).code in
    let rest = and_right bytes _ t in
    record {
      bytes = same_sound _ _ (and_left bytes _ t);
      code = eqb-true _ _ (and_left code _ rest);
      first = ltb-true _ _ (and_right code _ rest);
    }

pub entry : (i : ℕ) → i < 26 → Entry i
unfolding same spellings word_of
entry i h = entry_of i (all_from_law entry_test 0 26 i refl (omega arith) (omega arith))

first_hit :
    (e : Spelling) (es : List Spelling) (bs : List ℕ) →
    starts e.bytes bs ≡ true →
    first_of (e ∷ es) bs ≡ step e.code (length e.bytes)
unfolding first_of
first_hit e es bs h = rw h

first_miss :
    (e : Spelling) (es : List Spelling) (bs : List ℕ) →
    starts e.bytes bs ≡ false →
    first_of (e ∷ es) bs ≡ first_of es bs
unfolding first_of
first_miss e es bs h = rw h

many : length spellings ≡ 26
unfolding spellings
many = refl

module _ (bs : List ℕ) (i : ℕ) (inv : first_of (drop i spellings) bs ≡ first_of spellings bs) where
  next : i < 26 → first_of (get_or spellings i nothing ∷ drop (suc i) spellings) bs ≡ first_of spellings bs
  next h = rw (drop-cons spellings i nothing (omega (arith, many))) at inv

  -- the row that the code has at hand
  module _ {row : List ℕ} (is : row ≡ get_or (rows spellings) i []) (h : i < 26) where
    pub row_begins : 0 < get_or row 0 0
    row_begins = rw is (entry i h).first

    pub find_hit :
        true ≡ starts (word_of (get_or row 0 0) (get_or row 1 0) (get_or row 2 0)) bs →
        {n : ℕ} →
        n ≡ length (word_of (get_or row 0 0) (get_or row 1 0) (get_or row 2 0)) →
        step (get_or row 3 0) n ≡ first_of spellings bs
    find_hit s {n} e =
        let k = entry i h in
        let w = rw is at s in
        rw (e, is, k.code, k.bytes) (sym (first_hit _ _ bs (rw k.bytes at (sym w))) ∙ next h)

    pub find_miss :
        false ≡ starts (word_of (get_or row 0 0) (get_or row 1 0) (get_or row 2 0)) bs →
        first_of (drop (i + 1) spellings) bs ≡ first_of spellings bs
    find_miss s =
        let k = entry i h in
        let w = rw is at s in
        rw add-one (sym (first_miss _ _ bs (rw k.bytes at (sym w))) ∙ next h)

  pub find_end : 26 ≤ i → Err 0 ≡ first_of spellings bs
  unfolding first_of
  find_end h = rw (drop_of_length-le spellings {i = i} (omega (arith, many))) at inv
