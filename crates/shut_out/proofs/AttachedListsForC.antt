-- The same as AttachedForC, for the functions over alternatives handed in as lists, the listing and the table.
use contract.Lifetimes.{Lfts}
use borrow.Fn.Kinds.{Dens}
use Rattle.listed_acceptance.specs.Fitting.{ListedFits}
use Rattle.listed_calls.specs.Listed.{ListedMatch, ListedAll, ListedTotals}
use Rattle.tree_listings.specs.TreeTexts.{ListsTree, LinesTree}
use Rattle.figures.specs.Delivering.{Delivers}
use Rattle.table_lines.specs.Table.{heading_line, refused_line, total_line}
use Rattle.telling.specs.Handing.{Hands, told}
use Rattle.telling.specs.Matching.{told_match, told_counts, queue_of_lem, told_push}
use Rattle.telling.specs.Listed.{ListedPushes}
use Rattle.telling.specs.declared.Told.{Told}
use Rattle.telling.specs.declared.Matched.{Matched}
use Rattle.telling.specs.declared.Counted.{Counted}
use Rattle.telling.specs.declared.Pushed.{Pushed}
use Rattle.dachsmond.proofs.listed.dachsmond_listed_fits.Reads as listed_fits_says
use Rattle.dachsmond.proofs.listed.dachsmond_listed_fits.Kinds as listed_fits_kinds
use Rattle.dachsmond.proofs.listed.dachsmond_listed_match_row.Reads as listed_match_row_says
use Rattle.dachsmond.proofs.listed.dachsmond_listed_match_row.Kinds as listed_match_row_kinds
use Rattle.dachsmond.proofs.listed.dachsmond_listed_match_all.Reads as listed_match_all_says
use Rattle.dachsmond.proofs.listed.dachsmond_listed_match_all.Kinds as listed_match_all_kinds
use Rattle.dachsmond.proofs.listed.dachsmond_listed_totals.Reads as listed_totals_says
use Rattle.dachsmond.proofs.listed.dachsmond_listed_totals.Kinds as listed_totals_kinds
use Rattle.dachsmond.proofs.listed.dachsmond_listed_push.Reads as listed_push_says
use Rattle.dachsmond.proofs.listed.dachsmond_listed_push.Kinds as listed_push_kinds
use Rattle.dachsmond.proofs.listings.dachsmond_list.Reads as list_says
use Rattle.dachsmond.proofs.listings.dachsmond_list.Kinds as list_kinds
use Rattle.dachsmond.proofs.listings.dachsmond_table_heading.Reads as table_heading_says
use Rattle.dachsmond.proofs.listings.dachsmond_table_heading.Kinds as table_heading_kinds
use Rattle.dachsmond.proofs.listings.dachsmond_table_line.Reads as table_line_says
use Rattle.dachsmond.proofs.listings.dachsmond_table_line.Kinds as table_line_kinds
use Rattle.dachsmond.proofs.listings.dachsmond_table_refused.Reads as table_refused_says
use Rattle.dachsmond.proofs.listings.dachsmond_table_refused.Kinds as table_refused_kinds
use Rattle.dachsmond.proofs.listings.dachsmond_table_total.Reads as table_total_says
use Rattle.dachsmond.proofs.listings.dachsmond_table_total.Kinds as table_total_kinds

pub listed_fits : (κs : Lfts 5) (a : Dens κs listed_fits_kinds.ps) → listed_fits_says.Pre κs a
    × ((r : Told) (e : Dens κs listed_fits_kinds.ps) → listed_fits_says.Post κs a r e
    → Hands (ListedFits a.0 a.1.0.now a.1.1.0.now a.1.1.1.0.now
    a.1.1.1.1.0.now a.1.1.1.1.1.0.now) told r)
listed_fits κs a = (tt, λ r e p. p)

pub listed_match_row : (κs : Lfts 7) (a : Dens κs listed_match_row_kinds.ps) → listed_match_row_says.Pre κs a
    × ((r : Matched) (e : Dens κs listed_match_row_kinds.ps) → listed_match_row_says.Post κs a r e
    → Hands (ListedMatch a.0 a.1.0 a.1.1.0 a.1.1.1.0.now a.1.1.1.1.0.now
    a.1.1.1.1.1.0.now a.1.1.1.1.1.1.0.now a.1.1.1.1.1.1.1.0.now
    a.1.1.1.1.1.1.1.1.1.0.now a.1.1.1.1.1.1.1.1.0.now
    a.1.1.1.1.1.1.1.1.1.1.0) told_match r)
listed_match_row κs a = (tt, λ r e p. p)

pub listed_match_all : (κs : Lfts 11) (a : Dens κs listed_match_all_kinds.ps) → listed_match_all_says.Pre κs a
    × ((r : Told) (e : Dens κs listed_match_all_kinds.ps) → listed_match_all_says.Post κs a r e
    → Hands (ListedAll a.0 a.1.0 a.1.1.0 a.1.1.1.0.now a.1.1.1.1.0.now
    a.1.1.1.1.1.0.now a.1.1.1.1.1.1.0.now a.1.1.1.1.1.1.1.0.now
    a.1.1.1.1.1.1.1.1.1.0.now a.1.1.1.1.1.1.1.1.0.now
    a.1.1.1.1.1.1.1.1.1.1.0.now a.1.1.1.1.1.1.1.1.1.1.1.0.now
    a.1.1.1.1.1.1.1.1.1.1.1.1.0.now a.1.1.1.1.1.1.1.1.1.1.1.1.1.0.now
    e.1.1.1.1.1.1.1.1.1.1.0.now e.1.1.1.1.1.1.1.1.1.1.1.0.now
    e.1.1.1.1.1.1.1.1.1.1.1.1.0.now e.1.1.1.1.1.1.1.1.1.1.1.1.1.0.now) told r)
listed_match_all κs a = (tt, λ r e p. p)

pub listed_totals : (κs : Lfts 6) (a : Dens κs listed_totals_kinds.ps) → listed_totals_says.Pre κs a
    × ((r : Counted) (e : Dens κs listed_totals_kinds.ps) → listed_totals_says.Post κs a r e
    → Hands (ListedTotals a.0 a.1.0 a.1.1.0 a.1.1.1.0.now a.1.1.1.1.0.now
    a.1.1.1.1.1.0.now a.1.1.1.1.1.1.0.now a.1.1.1.1.1.1.1.0.now
    a.1.1.1.1.1.1.1.1.0.now) told_counts r)
listed_totals κs a = (tt, λ r e p. p)

pub listed_push : (κs : Lfts 6) (a : Dens κs listed_push_kinds.ps) → listed_push_says.Pre κs a
    × ((r : Pushed) (e : Dens κs listed_push_kinds.ps) → listed_push_says.Post κs a r e
    → Hands (ListedPushes a.0 a.1.0 a.1.1.0.now a.1.1.1.0.now a.1.1.1.1.0.now
    a.1.1.1.1.1.0.now a.1.1.1.1.1.1.0.now (queue_of_lem a.1.1.1.1.1.1.1.0)
    a.1.1.1.1.1.1.1.1.0 a.1.1.1.1.1.1.1.1.1.0.now) told_push r)
listed_push κs a = (tt, λ r e p. p)

pub list : (κs : Lfts 4) (a : Dens κs list_kinds.ps) → list_says.Pre κs a
    × ((r : Told) (e : Dens κs list_kinds.ps) → list_says.Post κs a r e
    → Hands (ListsTree a.0 a.1.0 a.1.1.0 a.1.1.1.0.now a.1.1.1.1.0.now
    a.1.1.1.1.1.0.now
    a.1.1.1.1.1.1.0.now e.1.1.1.1.1.1.0.now) told r)
list κs a = (tt, λ r e p. p)

pub table_heading : (κs : Lfts 1) (a : Dens κs table_heading_kinds.ps) → table_heading_says.Pre κs a
    × ((r : Told) (e : Dens κs table_heading_kinds.ps) → table_heading_says.Post κs a r e
    → Hands (Delivers heading_line a.0.now e.0.now) told r)
table_heading κs a = (tt, λ r e p. p)

pub table_line : (κs : Lfts 4) (a : Dens κs table_line_kinds.ps) → table_line_says.Pre κs a
    × ((r : Told) (e : Dens κs table_line_kinds.ps) → table_line_says.Post κs a r e
    → Hands (LinesTree a.0 a.1.0 a.1.1.0 a.1.1.1.0.now a.1.1.1.1.0.now
    a.1.1.1.1.1.0.now
    a.1.1.1.1.1.1.0.now e.1.1.1.1.1.1.0.now) told r)
table_line κs a = (tt, λ r e p. p)

pub table_refused : (κs : Lfts 2) (a : Dens κs table_refused_kinds.ps) → table_refused_says.Pre κs a
    × ((r : Told) (e : Dens κs table_refused_kinds.ps) → table_refused_says.Post κs a r e
    → Hands (Delivers (refused_line a.0.now a.1.0 a.1.1.0) a.1.1.1.0.now
    e.1.1.1.0.now) told r)
table_refused κs a = (tt, λ r e p. p)

pub table_total : (κs : Lfts 1) (a : Dens κs table_total_kinds.ps) → table_total_says.Pre κs a
    × ((r : Told) (e : Dens κs table_total_kinds.ps) → table_total_says.Post κs a r e
    → Hands (Delivers (total_line a.0 a.1.0 a.1.1.0 a.1.1.1.0 a.1.1.1.1.0)
    a.1.1.1.1.1.0.now e.1.1.1.1.1.0.now) told r)
table_total κs a = (tt, λ r e p. p)
