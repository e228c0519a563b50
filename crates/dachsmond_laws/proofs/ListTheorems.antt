-- The same as Theorems.antt for the functions that check names, match by alternatives handed in as lists, and write
-- the listing and the table's lines. Names: the function's, and `-unique`.
use mathlib.Core.Path.{◌≡◌}
use mathlib.Core.List.{List}
use Prim.Native.Nat.{ℕ, ◌/◌}
use lib.ListN.{length}
use Rattle.alf.specs.declared.Rules.{Rules}
use Rattle.alf.specs.Refusals.{Comes}
use Rattle.names.specs.Check.{names_order}
use Rattle.names.proofs.Unique.{names_unique}
use Rattle.timed_queue.specs.declared.queues.Queue.{Queue}
use Rattle.listed_acceptance.specs.Fitting.{ListedFits}
use Rattle.listed_calls.specs.Listed.{ListedMatch, ListedAll, ListedTotals}
use Rattle.listed_acceptance.proofs.Fitting as fitting
use Rattle.listed_calls.proofs.Unique as listed
use Rattle.table_lines.specs.Table.{heading_line, refused_line, total_line}
use Rattle.tree_listings.specs.TreeTexts.{ListsTree, LinesTree}
use Rattle.tree_listings.proofs.Theorems as trees
use Rattle.figures.specs.Delivering.{Delivers}
use Rattle.figures.proofs.Delivering.{delivers_unique}
use Rattle.telling.specs.declared.Told.{Told}
use Rattle.telling.specs.declared.Matched.{Matched}
use Rattle.telling.specs.declared.Counted.{Counted}
use Rattle.telling.specs.declared.Pushed.{Pushed}
use Rattle.telling.specs.Handing.{Hands, told}
use Rattle.telling.specs.Matching.{told_match, told_counts, told_push}
use Rattle.telling.specs.Listed.{ListedPushes}
use Rattle.telling.proofs.Unique.{from_both, hands_unique}

-- names
pub check_names_unique : (names : List ℕ) {r s : Told}
    → Hands (Comes (names_order names) (λ k. k ≡ length names / 32)) told r
    → Hands (Comes (names_order names) (λ k. k ≡ length names / 32)) told s → r ≡ s
check_names_unique names x y = hands_unique (names_unique names) x y

-- alternatives in lists
module _ {tree steps tests edges operands : List ℕ} where
  pub listed_fits_unique : {names : ℕ} {r s : Told} → Hands (ListedFits names tree steps tests edges operands) told r
      → Hands (ListedFits names tree steps tests edges operands) told s → r ≡ s
  listed_fits_unique x y = hands_unique (λ a b p q. fitting.listed_fits_unique p q) x y

  module _ {names n : ℕ} {states : List ℕ} where
    pub listed_match_row_unique : {ρ : Rules} {times : List ℕ} {row : ℕ} {r s : Matched}
        → Hands (ListedMatch ρ names n tree steps tests edges operands states times row) told_match r
        → Hands (ListedMatch ρ names n tree steps tests edges operands states times row) told_match s → r ≡ s
    listed_match_row_unique x y = hands_unique (λ a b p q. listed.listed_match_unique p q) x y

    pub listed_match_all_unique : {ρ : Rules} {times answers tried given began a t g c b u h d : List ℕ} {r s : Told}
        → Hands (ListedAll ρ names n tree steps tests edges operands states times answers tried given began a t g c)
        told
        r
        → Hands (ListedAll ρ names n tree steps tests edges operands states times answers tried given began b u h d)
        told
        s
        → (r ≡ s) × (a ≡ b) × (t ≡ u) × (g ≡ h) × (c ≡ d)
    listed_match_all_unique x y = (
      hands_unique (λ a b p q. (listed.listed_all_unique p q).0) x y,
      from_both (λ a b p q. (listed.listed_all_unique p q).1) x y,
      from_both (λ a b p q. (listed.listed_all_unique p q).2) x y,
      from_both (λ a b p q. (listed.listed_all_unique p q).3) x y,
      from_both (λ a b p q. (listed.listed_all_unique p q).4) x y,
    )

    pub listed_counted_unique : {ρ : Rules} {r s : Counted}
        → Hands (ListedTotals ρ names n tree steps tests edges operands states) told_counts r
        → Hands (ListedTotals ρ names n tree steps tests edges operands states) told_counts s → r ≡ s
    listed_counted_unique x y = hands_unique (λ a b p q. listed.listed_totals_unique p q) x y

  pub listed_pushed_unique : {ρ : Rules} {names : ℕ} {queue : Queue} {time : ℕ} {row : List ℕ} {r s : Pushed}
      → Hands (ListedPushes ρ names tree steps tests edges operands queue time row) told_push r
      → Hands (ListedPushes ρ names tree steps tests edges operands queue time row) told_push s → r ≡ s
  listed_pushed_unique x y =
      hands_unique
      (λ a b p q. let e = listed.listed_push_unique p q in λ i. record { told = e.0 i; queue = e.1 i }) x y

-- the listing, and the line of a pattern
module _ {names n : ℕ} {tree states out a b : List ℕ} {r s : Told} where
  pub list_unique : {ρ : Rules} {times : List ℕ} → Hands (ListsTree ρ names n tree times states out a) told r
      → Hands (ListsTree ρ names n tree times states out b) told s
      → (r ≡ s) × (a ≡ b)
  list_unique x y = (
    hands_unique (λ a b p q. (trees.list_unique p q).0) x y,
    from_both (λ a b p q. (trees.list_unique p q).1) x y,
  )

  pub table_line_unique : {ρ : Rules} {pattern : List ℕ} → Hands (LinesTree ρ names n tree states pattern out a) told r
      → Hands (LinesTree ρ names n tree states pattern out b) told s
      → (r ≡ s) × (a ≡ b)
  table_line_unique x y = (
    hands_unique (λ a b p q. (trees.line_unique p q).0) x y,
    from_both (λ a b p q. (trees.line_unique p q).1) x y,
  )

-- another line of the table, whatever it holds
line_unique : (text out : List ℕ) {a b : List ℕ} {r s : Told}
    → Hands (Delivers text out a) told r → Hands (Delivers text out b) told s → (r ≡ s) × (a ≡ b)
line_unique text out x y = (
  hands_unique (λ a b p q. (delivers_unique text out p q).0) x y,
  from_both (λ a b p q. (delivers_unique text out p q).1) x y,
)

module _ (out : List ℕ) {a b : List ℕ} {r s : Told} where
  pub table_heading_unique : Hands (Delivers heading_line out a) told r → Hands (Delivers heading_line out b) told s
      → (r ≡ s) × (a ≡ b)
  table_heading_unique = line_unique heading_line out

  pub table_refused_unique : (pattern : List ℕ) (number place : ℕ)
      → Hands (Delivers (refused_line pattern number place) out a) told r
      → Hands (Delivers (refused_line pattern number place) out b) told s → (r ≡ s) × (a ≡ b)
  table_refused_unique pattern number place = line_unique (refused_line pattern number place) out

  pub table_total_unique : (yeses unknowns noes patterns events : ℕ)
      → Hands (Delivers (total_line yeses unknowns noes patterns events) out a) told r
      → Hands (Delivers (total_line yeses unknowns noes patterns events) out b) told s → (r ≡ s) × (a ≡ b)
  table_total_unique yeses unknowns noes patterns events =
      line_unique (total_line yeses unknowns noes patterns events) out
