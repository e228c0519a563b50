-- The same as Exported, for the functions over alternatives handed in as lists, the listing and the table.
use contract.Lifetimes.{Lfts}
use borrow.Fn.Kinds.{Dens}
use Rattle.telling.specs.declared.Told.{Told}
use Rattle.telling.specs.declared.Matched.{Matched}
use Rattle.telling.specs.declared.Counted.{Counted}
use Rattle.telling.specs.declared.Pushed.{Pushed}
use Rattle.dachsmond.proofs.listed.dachsmond_listed_fits.Reads as listed_fits_says
use Rattle.dachsmond_c.proofs.listed.dachsmond_listed_fits.Reads as listed_fits_exported
use Rattle.dachsmond_c.proofs.listed.dachsmond_listed_fits.Kinds as listed_fits_kinds
use Rattle.dachsmond.proofs.listed.dachsmond_listed_match_row.Reads as listed_match_row_says
use Rattle.dachsmond_c.proofs.listed.dachsmond_listed_match_row.Reads as listed_match_row_exported
use Rattle.dachsmond_c.proofs.listed.dachsmond_listed_match_row.Kinds as listed_match_row_kinds
use Rattle.dachsmond.proofs.listed.dachsmond_listed_match_all.Reads as listed_match_all_says
use Rattle.dachsmond_c.proofs.listed.dachsmond_listed_match_all.Reads as listed_match_all_exported
use Rattle.dachsmond_c.proofs.listed.dachsmond_listed_match_all.Kinds as listed_match_all_kinds
use Rattle.dachsmond.proofs.listed.dachsmond_listed_totals.Reads as listed_totals_says
use Rattle.dachsmond_c.proofs.listed.dachsmond_listed_totals.Reads as listed_totals_exported
use Rattle.dachsmond_c.proofs.listed.dachsmond_listed_totals.Kinds as listed_totals_kinds
use Rattle.dachsmond.proofs.listed.dachsmond_listed_push.Reads as listed_push_says
use Rattle.dachsmond_c.proofs.listed.dachsmond_listed_push.Reads as listed_push_exported
use Rattle.dachsmond_c.proofs.listed.dachsmond_listed_push.Kinds as listed_push_kinds
use Rattle.dachsmond.proofs.listings.dachsmond_list.Reads as list_says
use Rattle.dachsmond_c.proofs.listings.dachsmond_list.Reads as list_exported
use Rattle.dachsmond_c.proofs.listings.dachsmond_list.Kinds as list_kinds
use Rattle.dachsmond.proofs.listings.dachsmond_table_heading.Reads as table_heading_says
use Rattle.dachsmond_c.proofs.listings.dachsmond_table_heading.Reads as table_heading_exported
use Rattle.dachsmond_c.proofs.listings.dachsmond_table_heading.Kinds as table_heading_kinds
use Rattle.dachsmond.proofs.listings.dachsmond_table_line.Reads as table_line_says
use Rattle.dachsmond_c.proofs.listings.dachsmond_table_line.Reads as table_line_exported
use Rattle.dachsmond_c.proofs.listings.dachsmond_table_line.Kinds as table_line_kinds
use Rattle.dachsmond.proofs.listings.dachsmond_table_refused.Reads as table_refused_says
use Rattle.dachsmond_c.proofs.listings.dachsmond_table_refused.Reads as table_refused_exported
use Rattle.dachsmond_c.proofs.listings.dachsmond_table_refused.Kinds as table_refused_kinds
use Rattle.dachsmond.proofs.listings.dachsmond_table_total.Reads as table_total_says
use Rattle.dachsmond_c.proofs.listings.dachsmond_table_total.Reads as table_total_exported
use Rattle.dachsmond_c.proofs.listings.dachsmond_table_total.Kinds as table_total_kinds

pub listed_fits : (κs : Lfts 5) (a : Dens κs listed_fits_kinds.ps) → listed_fits_exported.Pre κs a
    × ((r : Told) (e : Dens κs listed_fits_kinds.ps) → listed_fits_exported.Post κs a r e
    → listed_fits_says.Post κs a r e)
listed_fits κs a = (tt, λ r e p. p)

pub listed_match_row : (κs : Lfts 7) (a : Dens κs listed_match_row_kinds.ps) → listed_match_row_exported.Pre κs a
    × ((r : Matched) (e : Dens κs listed_match_row_kinds.ps) → listed_match_row_exported.Post κs a r e
    → listed_match_row_says.Post κs a r e)
listed_match_row κs a = (tt, λ r e p. p)

pub listed_match_all : (κs : Lfts 11) (a : Dens κs listed_match_all_kinds.ps) → listed_match_all_exported.Pre κs a
    × ((r : Told) (e : Dens κs listed_match_all_kinds.ps) → listed_match_all_exported.Post κs a r e
    → listed_match_all_says.Post κs a r e)
listed_match_all κs a = (tt, λ r e p. p)

pub listed_totals : (κs : Lfts 6) (a : Dens κs listed_totals_kinds.ps) → listed_totals_exported.Pre κs a
    × ((r : Counted) (e : Dens κs listed_totals_kinds.ps) → listed_totals_exported.Post κs a r e
    → listed_totals_says.Post κs a r e)
listed_totals κs a = (tt, λ r e p. p)

pub listed_push : (κs : Lfts 6) (a : Dens κs listed_push_kinds.ps) → listed_push_exported.Pre κs a
    × ((r : Pushed) (e : Dens κs listed_push_kinds.ps) → listed_push_exported.Post κs a r e
    → listed_push_says.Post κs a r e)
listed_push κs a = (tt, λ r e p. p)

pub list : (κs : Lfts 4) (a : Dens κs list_kinds.ps) → list_exported.Pre κs a
    × ((r : Told) (e : Dens κs list_kinds.ps) → list_exported.Post κs a r e → list_says.Post κs a r e)
list κs a = (tt, λ r e p. p)

pub table_heading : (κs : Lfts 1) (a : Dens κs table_heading_kinds.ps) → table_heading_exported.Pre κs a
    × ((r : Told) (e : Dens κs table_heading_kinds.ps) → table_heading_exported.Post κs a r e
    → table_heading_says.Post κs a r e)
table_heading κs a = (tt, λ r e p. p)

pub table_line : (κs : Lfts 4) (a : Dens κs table_line_kinds.ps) → table_line_exported.Pre κs a
    × ((r : Told) (e : Dens κs table_line_kinds.ps) → table_line_exported.Post κs a r e → table_line_says.Post κs a r e)
table_line κs a = (tt, λ r e p. p)

pub table_refused : (κs : Lfts 2) (a : Dens κs table_refused_kinds.ps) → table_refused_exported.Pre κs a
    × ((r : Told) (e : Dens κs table_refused_kinds.ps) → table_refused_exported.Post κs a r e
    → table_refused_says.Post κs a r e)
table_refused κs a = (tt, λ r e p. p)

pub table_total : (κs : Lfts 1) (a : Dens κs table_total_kinds.ps) → table_total_exported.Pre κs a
    × ((r : Told) (e : Dens κs table_total_kinds.ps) → table_total_exported.Post κs a r e
    → table_total_says.Post κs a r e)
table_total κs a = (tt, λ r e p. p)
