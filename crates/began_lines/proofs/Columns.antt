-- The first two columns are those of document 01's listing.
--   cells                    the two, as they stand in a line
--   two_cells, three_cells   a line of either listing begins with them
--   lines_listed, counts_listed    document 01's listing, row by row
--   listing_cells, began_cells     the two listings, each from the same cells, with the same last line
use Prim.Native.Nat.{ℕ, zero, suc, ◌+◌}
use native.Mathlib.Omega.{arith}
use mathlib.Core.Path.{◌≡◌, sym, ap, ◌∙◌}
use mathlib.Core.List.{List, [], ◌∷◌, ◌++◌, append_assoc}
use lib.Dec.{eqb}
use lib.ListN.{length, get_or, drop}
use Rattle.basics.specs.Words.{count, listed}
use Rattle.basics.specs.Text.{bytes, joined}
use Rattle.basics.proofs.Counts.{count_same}
use Rattle.basics.proofs.Listed.{listed_length, listed_same}
use Rattle.basics.proofs.Tables.{listed_at}
use Rattle.alf.specs.Beginnings.{Began}
use Rattle.figures.specs.Numbers.{decimal}
use Rattle.listing.specs.declared.lines.Column.TheVariants.{Answers}
use Rattle.listing.specs.Listing.{word, word_of, line, lines, how_many, last_line, listing}
use Rattle.listing.proofs.RowByRow.{lines_next, lines_none}
use Rattle.began_lines.specs.BeganListing.{began_word, began_line, began_lines, answering, began_listing}

-- a row's time and answer, as they stand in a line
unfoldable pub cells : ℕ → ℕ → List ℕ
cells time answer = decimal time ++ (bytes " " ++ word answer)

module _ (time answer : ℕ) where
  behind : (w : List ℕ) → decimal time ++ (bytes " " ++ (word answer ++ w)) ≡ cells time answer ++ w
  unfolding cells
  behind w =
      ap (λ (l : List ℕ). decimal time ++ l) (sym (append_assoc (bytes " ") (word answer) w))
      ∙ sym (append_assoc (decimal time) (bytes " " ++ word answer) w)

  pub two_cells : line Answers time answer ≡ cells time answer ++ bytes "\n"
  unfolding line word_of joined bytes
  two_cells = behind (10 ∷ [])

  pub three_cells : (since : Began)
      → began_line time answer since ≡ cells time answer ++ joined (bytes " " ∷ began_word since ∷ bytes "\n" ∷ [])
  unfolding began_line joined bytes
  three_cells since = behind (32 ∷ (began_word since ++ (10 ∷ [])))

-- document 01's lines, row by row
lines_from : (times codes : List ℕ) (k i : ℕ) → i + k ≡ length times → length codes ≡ length times
    → lines Answers (drop i times) (drop i codes)
    ≡ joined (listed i k (λ j. line Answers (get_or times j 0) (get_or codes j 0)))
unfolding joined listed
lines_from times codes zero i e l = lines_none Answers times codes i (omega arith)
lines_from times codes (suc k) i e l =
    lines_next Answers times codes i (omega arith) (omega arith)
    ∙ ap (λ (x : List ℕ). line Answers (get_or times i 0) (get_or codes i 0) ++ x)
    (lines_from times codes k (i + 1) (omega arith) l)

module _ (times : List ℕ) (answers : ℕ → ℕ) where
  abbrev n : ℕ
  n = length times

  pub lines_listed : lines Answers times (listed 0 n answers)
      ≡ joined (listed 0 n (λ i. line Answers (get_or times i 0) (answers i)))
  lines_listed =
      lines_from times (listed 0 n answers) n 0 (omega arith) (listed_length 0 n answers)
      ∙ ap joined
      (listed_same _ _ 0 n
      (λ i h. ap (λ (a : ℕ). line Answers (get_or times i 0) a) (listed_at n i answers 0 (omega arith))))

  pub counts_listed : (a : ℕ) → how_many (listed 0 n answers) a ≡ answering answers n a
  unfolding how_many
  counts_listed a =
      ap (λ (k : ℕ). count k (λ i. eqb (get_or (listed 0 n answers) i 0) a)) (listed_length 0 n answers)
      ∙ count_same n _ _ (λ i k. ap (λ (x : ℕ). eqb x a) (listed_at n i answers 0 k))

  -- the last line of both
  abbrev pub totals : List ℕ
  totals = last_line (answering answers n 1) (answering answers n 0) (answering answers n 2)

  pub listing_cells : listing times (listed 0 n answers)
      ≡ joined
      (bytes "time answer\n"
      ∷ joined (listed 0 n (λ i. cells (get_or times i 0) (answers i) ++ bytes "\n"))
      ∷ totals ∷ [])
  unfolding listing
  listing_cells =
      rw (counts_listed 1, counts_listed 0, counts_listed 2, lines_listed)
      (ap (λ (x : List ℕ). joined (bytes "time answer\n" ∷ x ∷ totals ∷ []))
      (ap joined (listed_same _ _ 0 n (λ i h. two_cells (get_or times i 0) (answers i)))))

  pub began_cells : (begans : ℕ → Began) → began_listing times answers begans
      ≡ joined
      (bytes "time answer began\n"
      ∷ joined
      (listed 0 n
      (λ i. cells (get_or times i 0) (answers i) ++ joined (bytes " " ∷ began_word (begans i) ∷ bytes "\n" ∷ [])))
      ∷ totals ∷ [])
  unfolding began_listing began_lines
  began_cells begans =
      ap (λ (x : List ℕ). joined (bytes "time answer began\n" ∷ x ∷ totals ∷ []))
      (ap joined (listed_same _ _ 0 n (λ i h. three_cells (get_or times i 0) (answers i) (begans i))))
