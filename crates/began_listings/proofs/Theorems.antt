-- What the listing of a tree comes to.
--   began_unique    result and buffer afterwards follow from the input
--   listed_cells, began_cells     document 01's listing of a pattern and this one, each from the same cells: the first
--                                 two columns and the last line are the same
use Prim.Native.Nat.{ℕ}
use mathlib.Core.Path.{◌≡◌, sym, ◌∙◌}
use mathlib.Core.List.{List, [], ◌∷◌, ◌++◌}
use lib.ListN.{length, get_or}
use Rattle.basics.specs.Refusing.{Outcome}
use Rattle.basics.specs.Words.{listed}
use Rattle.basics.specs.Text.{bytes, joined}
use Rattle.basics.proofs.Memory.{after_unique}
use Rattle.alf.specs.declared.Rules.{Rules}
use Rattle.alf.specs.Expressions.{Vector}
use Rattle.alf.specs.Values.{state_at}
use Rattle.alf.specs.Windows.{row_answer}
use Rattle.alf.specs.Alternatives.{alternatives}
use Rattle.alf.specs.Beginnings.{began}
use Rattle.alf.specs.Traces.{total}
use Rattle.alf.proofs.Outcomes.{AllFixed, at_fixed, first_fixed, comes_unique}
use Rattle.matching_calls.specs.Matching.{expression}
use Rattle.listing.specs.Listing.{last_line}
use Rattle.tree_listings.specs.TreeTexts.{pattern_listing}
use Rattle.began_lines.specs.BeganListing.{began_word}
use Rattle.began_lines.proofs.Columns as columns
use Rattle.began_lines.proofs.Columns.{cells}
use Rattle.began_listings.specs.BeganTexts.{pattern_began, began_order, ListsBegan}

pub began_unique : {ρ : Rules} {names n : ℕ} {tree times states out x y : List ℕ} {r s : Outcome}
    → ListsBegan ρ names n tree times states out x r → ListsBegan ρ names n tree times states out y s
    → (r ≡ s) × (x ≡ y)
began_unique {ρ} {names} {n} {tree} {times} {states} {out} {r = r} {s = s} a b =
    let o = began_order ρ names n tree times states (pattern_began ρ names times states (expression ρ tree names))
    (length out) in
    let f : AllFixed
    (began_order ρ names n tree times states (pattern_began ρ names times states (expression ρ tree names)) (length out))
    = (at_fixed _ _, (at_fixed _ _, (first_fixed _, (first_fixed _, (at_fixed _ _, tt))))) in
    let e = comes_unique o _ f (λ j k p q. p ∙ sym q) r s a.comes b.comes in
    (e, after_unique _ out e a.memory b.memory)

-- the first two columns, and the last line
module _ (ρ : Rules) (k : ℕ) (times states : List ℕ) (p : Vector) where
  abbrev two_cells : ℕ → List ℕ
  two_cells i = cells (get_or times i 0) (row_answer (state_at ρ k states) p i)

  abbrev last_one : List ℕ
  last_one =
      last_line (total (state_at ρ k states) p (length times) 1) (total (state_at ρ k states) p (length times) 0)
      (total (state_at ρ k states) p (length times) 2)

  pub listed_cells : pattern_listing ρ k times states p
      ≡ joined
      (bytes "time answer\n" ∷ joined (listed 0 (length times) (λ i. two_cells i ++ bytes "\n")) ∷ last_one ∷ [])
  unfolding pattern_listing total
  listed_cells = columns.listing_cells times (row_answer (state_at ρ k states) p)

  pub began_cells : pattern_began ρ k times states p
      ≡ joined
      (bytes "time answer began\n"
      ∷ joined
      (listed 0 (length times)
      (λ i. two_cells i
      ++ joined (bytes " " ∷ began_word (began (state_at ρ k states) times (alternatives p) i) ∷ bytes "\n" ∷ [])))
      ∷ last_one ∷ [])
  unfolding pattern_began total
  began_cells =
      columns.began_cells times (row_answer (state_at ρ k states) p) (began (state_at ρ k states) times (alternatives p))
