-- The same as Attached, for the calls over alternatives handed in as lists, the listing, and the four lines of the
-- table.
use contract.Lifetimes.{Lfts}
use borrow.Fn.Kinds.{Dens}
use Rattle.basics.specs.Refusing.{Outcome}
use Rattle.matching_calls.specs.Matching.{Matching}
use Rattle.matching_calls.specs.Matching.{Counting}
use Rattle.queue_calls.specs.declared.pushing.Pushing.{Pushing}
use Rattle.listed_acceptance.specs.Fitting.{ListedFits}
use Rattle.listed_calls.specs.Listed.{ListedMatch, ListedAll, ListedTotals, ListedPush}
use Rattle.tree_listings.specs.TreeTexts.{ListsTree, LinesTree}
use Rattle.figures.specs.Delivering.{Delivers}
use Rattle.table_lines.specs.Table.{heading_line, refused_line, total_line}
use Rattle.listed_acceptance.proofs.accepting.count_listed.Reads as listed_fits_says
use Rattle.listed_acceptance.proofs.accepting.count_listed.Kinds as listed_fits_kinds
use Rattle.listed_calls.proofs.listed.match_row.Reads as listed_match_row_says
use Rattle.listed_calls.proofs.listed.match_row.Kinds as listed_match_row_kinds
use Rattle.listed_calls.proofs.listed.match_all.Reads as listed_match_all_says
use Rattle.listed_calls.proofs.listed.match_all.Kinds as listed_match_all_kinds
use Rattle.listed_calls.proofs.listed.totals.Reads as listed_totals_says
use Rattle.listed_calls.proofs.listed.totals.Kinds as listed_totals_kinds
use Rattle.listed_calls.proofs.listed.push.Reads as listed_push_says
use Rattle.listed_calls.proofs.listed.push.Kinds as listed_push_kinds
use Rattle.tree_listings.proofs.listings.list.Reads as list_says
use Rattle.tree_listings.proofs.listings.list.Kinds as list_kinds
use Rattle.table_lines.proofs.lines.write_heading.Reads as table_heading_says
use Rattle.table_lines.proofs.lines.write_heading.Kinds as table_heading_kinds
use Rattle.tree_listings.proofs.lines.write_totals.Reads as table_line_says
use Rattle.tree_listings.proofs.lines.write_totals.Kinds as table_line_kinds
use Rattle.table_lines.proofs.lines.write_refused.Reads as table_refused_says
use Rattle.table_lines.proofs.lines.write_refused.Kinds as table_refused_kinds
use Rattle.table_lines.proofs.lines.write_total.Reads as table_total_says
use Rattle.table_lines.proofs.lines.write_total.Kinds as table_total_kinds

pub listed_fits : (κs : Lfts 5) (a : Dens κs listed_fits_kinds.ps) → listed_fits_says.Pre κs a
    × ((r : Outcome) (e : Dens κs listed_fits_kinds.ps) → listed_fits_says.Post κs a r e
    → ListedFits a.0 a.1.0.now a.1.1.0.now a.1.1.1.0.now a.1.1.1.1.0.now
    a.1.1.1.1.1.0.now r)
listed_fits κs a = (tt, λ r e p. p)

pub listed_match_row : (κs : Lfts 7) (a : Dens κs listed_match_row_kinds.ps) → listed_match_row_says.Pre κs a
    × ((r : Matching) (e : Dens κs listed_match_row_kinds.ps) → listed_match_row_says.Post κs a r e
    → ListedMatch a.0 a.1.0 a.1.1.0 a.1.1.1.0.now a.1.1.1.1.0.now
    a.1.1.1.1.1.0.now a.1.1.1.1.1.1.0.now a.1.1.1.1.1.1.1.0.now
    a.1.1.1.1.1.1.1.1.1.0.now a.1.1.1.1.1.1.1.1.0.now
    a.1.1.1.1.1.1.1.1.1.1.0.0 r)
listed_match_row κs a = (tt, λ r e p. p)

pub listed_match_all : (κs : Lfts 11) (a : Dens κs listed_match_all_kinds.ps) → listed_match_all_says.Pre κs a
    × ((r : Outcome) (e : Dens κs listed_match_all_kinds.ps) → listed_match_all_says.Post κs a r e
    → ListedAll a.0 a.1.0 a.1.1.0 a.1.1.1.0.now a.1.1.1.1.0.now
    a.1.1.1.1.1.0.now a.1.1.1.1.1.1.0.now a.1.1.1.1.1.1.1.0.now
    a.1.1.1.1.1.1.1.1.1.0.now a.1.1.1.1.1.1.1.1.0.now
    a.1.1.1.1.1.1.1.1.1.1.0.now a.1.1.1.1.1.1.1.1.1.1.1.0.now
    a.1.1.1.1.1.1.1.1.1.1.1.1.0.now a.1.1.1.1.1.1.1.1.1.1.1.1.1.0.now
    e.1.1.1.1.1.1.1.1.1.1.0.now e.1.1.1.1.1.1.1.1.1.1.1.0.now
    e.1.1.1.1.1.1.1.1.1.1.1.1.0.now e.1.1.1.1.1.1.1.1.1.1.1.1.1.0.now r)
listed_match_all κs a = (tt, λ r e p. p)

pub listed_totals : (κs : Lfts 6) (a : Dens κs listed_totals_kinds.ps) → listed_totals_says.Pre κs a
    × ((r : Counting) (e : Dens κs listed_totals_kinds.ps) → listed_totals_says.Post κs a r e
    → ListedTotals a.0 a.1.0 a.1.1.0 a.1.1.1.0.now a.1.1.1.1.0.now
    a.1.1.1.1.1.0.now a.1.1.1.1.1.1.0.now a.1.1.1.1.1.1.1.0.now a.1.1.1.1.1.1.1.1.0.now r)
listed_totals κs a = (tt, λ r e p. p)

pub listed_push : (κs : Lfts 6) (a : Dens κs listed_push_kinds.ps) → listed_push_says.Pre κs a
    × ((r : Pushing) (e : Dens κs listed_push_kinds.ps) → listed_push_says.Post κs a r e
    → ListedPush a.0 a.1.0 a.1.1.0.now a.1.1.1.0.now a.1.1.1.1.0.now
    a.1.1.1.1.1.0.now a.1.1.1.1.1.1.0.now a.1.1.1.1.1.1.1.0
    a.1.1.1.1.1.1.1.1.0.0
    a.1.1.1.1.1.1.1.1.1.0.now r.told r.queue)
listed_push κs a = (tt, λ r e p. p)

pub list : (κs : Lfts 4) (a : Dens κs list_kinds.ps) → list_says.Pre κs a
    × ((r : Outcome) (e : Dens κs list_kinds.ps) → list_says.Post κs a r e
    → ListsTree a.0 a.1.0 a.1.1.0 a.1.1.1.0.now a.1.1.1.1.0.now
    a.1.1.1.1.1.0.now
    a.1.1.1.1.1.1.0.now e.1.1.1.1.1.1.0.now r)
list κs a = (tt, λ r e p. p)

pub table_heading : (κs : Lfts 1) (a : Dens κs table_heading_kinds.ps) → table_heading_says.Pre κs a
    × ((r : Outcome) (e : Dens κs table_heading_kinds.ps) → table_heading_says.Post κs a r e
    → Delivers heading_line a.0.now e.0.now r)
table_heading κs a = (tt, λ r e p. p)

pub table_line : (κs : Lfts 4) (a : Dens κs table_line_kinds.ps) → table_line_says.Pre κs a
    × ((r : Outcome) (e : Dens κs table_line_kinds.ps) → table_line_says.Post κs a r e
    → LinesTree a.0 a.1.0 a.1.1.0 a.1.1.1.0.now a.1.1.1.1.0.now
    a.1.1.1.1.1.0.now
    a.1.1.1.1.1.1.0.now e.1.1.1.1.1.1.0.now r)
table_line κs a = (tt, λ r e p. p)

pub table_refused : (κs : Lfts 2) (a : Dens κs table_refused_kinds.ps) → table_refused_says.Pre κs a
    × ((r : Outcome) (e : Dens κs table_refused_kinds.ps) → table_refused_says.Post κs a r e
    → Delivers (refused_line a.0.now a.1.0.number a.1.0.place) a.1.1.0.now e.1.1.0.now r)
table_refused κs a = (tt, λ r e p. p)

pub table_total : (κs : Lfts 1) (a : Dens κs table_total_kinds.ps) → table_total_says.Pre κs a
    × ((r : Outcome) (e : Dens κs table_total_kinds.ps) → table_total_says.Post κs a r e
    → Delivers (total_line a.0.yes a.0.unknown a.0.no a.0.patterns a.0.events) a.1.0.now e.1.0.now r)
table_total κs a = (tt, λ r e p. p)
