-- What the texts of a tree come to.
--   list_unique, line_unique    result and buffer afterwards follow from the input
--   pattern_totals              the last line's numbers are the pattern's totals: how many of the rows answer yes, no
--                               and unknown
use Prim.Native.Nat.{ℕ}
use mathlib.Core.Path.{◌≡◌, refl, sym, ◌∙◌}
use mathlib.Core.List.{List, [], ◌∷◌}
use lib.ListN.{length}
use Rattle.basics.specs.Refusing.{Outcome}
use Rattle.basics.specs.Words.{listed}
use Rattle.basics.specs.Text.{bytes, joined}
use Rattle.basics.proofs.Memory.{after_unique}
use Rattle.alf.specs.declared.Rules.{Rules}
use Rattle.alf.specs.Expressions.{Vector}
use Rattle.alf.specs.Values.{state_at}
use Rattle.alf.specs.Windows.{row_answer}
use Rattle.alf.specs.Traces.{total}
use Rattle.alf.specs.Refusals.{Comes}
use Rattle.alf.proofs.Outcomes.{AllFixed, at_fixed, first_fixed, comes_unique}
use Rattle.matching_calls.specs.Matching.{expression}
use Rattle.listing.specs.declared.lines.Column.TheVariants.{Answers}
use Rattle.listing.specs.Listing.{lines, last_line, listing}
use Rattle.column_listings.proofs.Theorems.{listed_totals}
use Rattle.tree_listings.specs.TreeTexts.{pattern_listing, totals_line, text_order, ListsTree, LinesTree}

-- an outcome by such an order is one
text_unique : (ρ : Rules) (lists : Type 0) (names : ℕ) (tree states text : List ℕ) (room : ℕ) (r s : Outcome)
    → Comes (text_order ρ lists names tree states text room) (λ m. m ≡ length text) r
    → Comes (text_order ρ lists names tree states text room) (λ m. m ≡ length text) s
    → r ≡ s
text_unique ρ lists names tree states text room r s a b =
    let f : AllFixed (text_order ρ lists names tree states text room) =
    (at_fixed _ _, (at_fixed _ _, (first_fixed _, (at_fixed _ _, tt)))) in
    comes_unique (text_order ρ lists names tree states text room) _ f (λ j k p q. p ∙ sym q) r s a b

module _ {names n : ℕ} {tree states out x y : List ℕ} {r s : Outcome} where
  pub list_unique : {ρ : Rules} {times : List ℕ} → ListsTree ρ names n tree times states out x r
      → ListsTree ρ names n tree times states out y s
      → (r ≡ s) × (x ≡ y)
  list_unique {ρ} {times} a b =
      let shown = pattern_listing ρ names times states (expression ρ tree names) in
      let e = text_unique ρ _ names tree states shown (length out) r s a.comes b.comes in
      (e, after_unique _ out e a.memory b.memory)

  pub line_unique : {ρ : Rules} {shown : List ℕ} → LinesTree ρ names n tree states shown out x r
      → LinesTree ρ names n tree states shown out y s
      → (r ≡ s) × (x ≡ y)
  line_unique {ρ} {shown} a b =
      let line = totals_line ρ names n states shown (expression ρ tree names) in
      let e = text_unique ρ _ names tree states line (length out) r s a.comes b.comes in
      (e, after_unique _ out e a.memory b.memory)

-- the listing of a pattern, its last line by the totals
pub pattern_totals : (ρ : Rules) (k : ℕ) (times states : List ℕ) (p : Vector)
    → pattern_listing ρ k times states p
    ≡ joined
    (bytes "time answer\n"
    ∷ lines Answers times (listed 0 (length times) (row_answer (state_at ρ k states) p))
    ∷ last_line (total (state_at ρ k states) p (length times) 1) (total (state_at ρ k states) p (length times) 0)
    (total (state_at ρ k states) p (length times) 2)
    ∷ [])
unfolding pattern_listing listing
pattern_totals ρ k times states p =
    let st = state_at ρ k states in
    let n = length times in
    rw (listed_totals st p n 1, listed_totals st p n 0, listed_totals st p n 2) refl
