-- The line of some signs, word by word.
--   line_start, line_going, line_done   nothing is written, the next word is to be written, all is
--   gap_none, gap_some                  the blank before a word
use Prim.Native.Nat.{ℕ, ◌+◌, ◌<◌, ◌≤◌}
use native.Mathlib.Omega.{arith}
use native.Mathlib.Numerals.{add-one}
use mathlib.Core.Path.{◌≡◌, sym, ap, ◌∙◌}
use mathlib.Core.List.{List, [], ◌∷◌, ◌++◌, append-nil}
use lib.ListN.{length, get_or, take, drop, drop_of_length-le}
use lib.Seq.{drop-cons, length-take-le, get_or-take}
use borrow.Author.Tests.{ne_eqb}
use Rattle.spelling.specs.Signs.{word, gap, line_from}
use Rattle.spelling.specs.Inner.{Lining}
use Rattle.basics.specs.Memory.{Put}
use Rattle.basics.proofs.PartByPart.{Going, going_start, going_parts, going_end}

-- the line, word by word
line_next : (names xs : List ℕ) (i : ℕ) → i < length xs
    → line_from names i (drop i xs)
    ≡ gap i ++ (word names (get_or xs i 0) ++ (line_from names (i + 1) (drop (i + 1) xs) ++ []))
unfolding line_from
line_next names xs i h =
    rw (append-nil, add-one i)
    (ap (line_from names i) (drop-cons xs i 0 h))

module _ (names list : List ℕ) (count i : ℕ) (there : count ≤ length list) {out₀ w out : List ℕ}
    {at : ℕ} where
  pub line_going : i < count
      → Going out₀ 0 w (line_from names i (drop i (take count list)) ∷ []) out at
      → Going out₀ 0 w
      (gap i ∷ word names (get_or list i 0) ∷ line_from names (i + 1) (drop (i + 1) (take count list)) ∷ []) out at
  line_going k g =
      let l = length-take-le count list there in
      going_parts
      (append-nil _ ∙ line_next names (take count list) i (omega arith) ∙ rw (get_or-take count list i 0 k)) g

  pub line_done : count ≤ i → Going out₀ 0 w (line_from names i (drop i (take count list)) ∷ []) out at
      → Put out₀ 0 w out at
  unfolding line_from
  line_done k g =
      let l = length-take-le count list there in
      let m : length (take count list) ≤ i = omega arith in
      let e : drop i (take count list) ≡ [] = drop_of_length-le _ m in
      going_end (going_parts (rw e) g)

pub gap_none : (i : ℕ) → i ≡ 0 → gap i ≡ []
gap_none i e = rw e

pub gap_some : (i : ℕ) → (i ≡ 0 → ⊥) → gap i ≡ 32 ∷ []
gap_some i f = rw (ne_eqb i 0 f)

pub line_start : {names list : List ℕ} {count : ℕ} {out : List ℕ} → Lining names list count out
    → Going out 0 (line_from names 0 (take count list)) (line_from names 0 (take count list) ∷ []) out 0
line_start h = going_start _ (sym (append-nil _)) h.room
