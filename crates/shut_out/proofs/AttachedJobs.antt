-- The same as Attached, for the calls that go from a text to what is asked of it, and the two beside them that take no
-- text: the alternatives of a tree as lines, and the listing of values.
--   count_text_lem, table_line, add, no_sums_lem          the totals of a text, its line, the sums of a table
--   correct_letters, row_number_lem                   the correction by letters, and the row number that digits are
--   alternatives_text, write_alternatives_lem         the alternatives of a text, of a tree
--   list_text, list_began_text, values_text, list_values_lem     listings
-- `add`, `no_sums_lem` and `row_number_lem` are equations: what they give is what is defined, and they refuse nothing.
use Prim.Native.Nat.{ℕ}
use mathlib.Core.Path.{◌≡◌}
use contract.Lifetimes.{Lfts}
use borrow.Fn.Kinds.{Dens}
use Rattle.basics.specs.Refusing.{Outcome}
use Rattle.matching_calls.specs.Matching.{Counting}
use Rattle.table_lines.specs.declared.lines.Sums.{Sums}
use Rattle.column_listings.specs.Calls.{ValuesText}
use Rattle.alternative_listings.specs.declared.Lines.{Lines}
use Rattle.alternative_listings.specs.Calls.{WritesAlternatives}
use Rattle.row_listings.specs.Listings.{ListsPattern, ListsValues}
use Rattle.began_texts.specs.TextBegan.{ListsBeganText}
use Rattle.jobs.specs.declared.table.Line.{Line}
use Rattle.jobs.specs.Sums.{Adding}
use Rattle.jobs.specs.Counting.{CountsText}
use Rattle.jobs.specs.Lines.{TableLine}
use Rattle.jobs.specs.Sums.{no_sums, added_to}
use Rattle.letter_corrections.specs.Correcting.{CorrectsLetters}
use Rattle.letter_corrections.specs.RowNumbers.{row_number}
use Rattle.alternative_listings.specs.AlternativesText.{RewritesText}
use Rattle.jobs.proofs.counting.count_text.Reads as count_text_says
use Rattle.jobs.proofs.counting.count_text.Kinds as count_text_kinds
use Rattle.jobs.proofs.table.table_line.Reads as table_line_says
use Rattle.jobs.proofs.table.table_line.Kinds as table_line_kinds
use Rattle.jobs.proofs.sums.add.Reads as add_says
use Rattle.jobs.proofs.sums.add.Kinds as add_kinds
use Rattle.jobs.proofs.sums.no_sums.Reads as no_sums_says
use Rattle.jobs.proofs.sums.no_sums.Kinds as no_sums_kinds
use Rattle.letter_corrections.proofs.correcting.correct_letters.Reads as correct_letters_says
use Rattle.letter_corrections.proofs.correcting.correct_letters.Kinds as correct_letters_kinds
use Rattle.letter_corrections.proofs.correcting.row_number.Reads as row_number_says
use Rattle.letter_corrections.proofs.correcting.row_number.Kinds as row_number_kinds
use Rattle.alternative_listings.proofs.texts.alternatives_text.Reads as alternatives_text_says
use Rattle.alternative_listings.proofs.texts.alternatives_text.Kinds as alternatives_text_kinds
use Rattle.alternative_listings.proofs.write_alternatives.Reads as write_alternatives_says
use Rattle.alternative_listings.proofs.write_alternatives.Kinds as write_alternatives_kinds
use Rattle.began_texts.proofs.listings.list_began_text.Reads as list_began_text_says
use Rattle.began_texts.proofs.listings.list_began_text.Kinds as list_began_text_kinds
use Rattle.row_listings.proofs.listings.list_text.Reads as list_text_says
use Rattle.row_listings.proofs.listings.list_text.Kinds as list_text_kinds
use Rattle.row_listings.proofs.listings.values_text.Reads as values_text_says
use Rattle.row_listings.proofs.listings.values_text.Kinds as values_text_kinds
use Rattle.column_listings.proofs.listings.list_values.Reads as list_values_says
use Rattle.column_listings.proofs.listings.list_values.Kinds as list_values_kinds

pub count_text_lem : (κs : Lfts 3) (a : Dens κs count_text_kinds.ps) → count_text_says.Pre κs a
    × ((r : Counting) (e : Dens κs count_text_kinds.ps) → count_text_says.Post κs a r e
    → CountsText a.0 a.1.0.now a.1.1.0 a.1.1.1.0.now a.1.1.1.1.0.now r)
count_text_lem κs a = (tt, λ r e p. p)

pub table_line : (κs : Lfts 4) (a : Dens κs table_line_kinds.ps) → table_line_says.Pre κs a
    × ((r : Line) (e : Dens κs table_line_kinds.ps) → table_line_says.Post κs a r e
    → TableLine a.0 a.1.0.now a.1.1.0 a.1.1.1.0.now a.1.1.1.1.0.now
    a.1.1.1.1.1.0.now
    e.1.1.1.1.1.0.now r)
table_line κs a = (tt, λ r e p. p)

pub add : (κs : Lfts 0) (a : Dens κs add_kinds.ps) → add_says.Pre κs a
    × ((r : Adding) (e : Dens κs add_kinds.ps) → add_says.Post κs a r e → r ≡ added_to a.0 a.1.0)
add κs a = (tt, λ r e p. p)

pub no_sums_lem : (κs : Lfts 0) (a : Dens κs no_sums_kinds.ps) → no_sums_says.Pre κs a
    × ((r : Sums) (e : Dens κs no_sums_kinds.ps) → no_sums_says.Post κs a r e → r ≡ no_sums a.0)
no_sums_lem κs a = (tt, λ r e p. p)

pub correct_letters : (κs : Lfts 2) (a : Dens κs correct_letters_kinds.ps) → correct_letters_says.Pre κs a
    × ((r : Outcome) (e : Dens κs correct_letters_kinds.ps) → correct_letters_says.Post κs a r e
    → CorrectsLetters a.0 a.1.0 a.1.1.0.now a.1.1.1.0.0 a.1.1.1.1.0.now
    e.1.1.0.now r)
correct_letters κs a = (tt, λ r e p. p)

pub row_number_lem : (κs : Lfts 1) (a : Dens κs row_number_kinds.ps) → row_number_says.Pre κs a
    × ((r : ℕ) (e : Dens κs row_number_kinds.ps) → row_number_says.Post κs a r e
    → r ≡ row_number a.0.now)
row_number_lem κs a = (tt, λ r e p. p)

pub alternatives_text : (κs : Lfts 3) (a : Dens κs alternatives_text_kinds.ps) → alternatives_text_says.Pre κs a
    × ((r : Lines) (e : Dens κs alternatives_text_kinds.ps) → alternatives_text_says.Post κs a r e
    → RewritesText a.0 a.1.0.now a.1.1.0.now a.1.1.1.0.now e.1.1.1.0.now r)
alternatives_text κs a = (tt, λ r e p. p)

pub write_alternatives_lem : (κs : Lfts 3) (a : Dens κs write_alternatives_kinds.ps) → write_alternatives_says.Pre κs a
    × ((r : Lines) (e : Dens κs write_alternatives_kinds.ps) → write_alternatives_says.Post κs a r e
    → WritesAlternatives a.0 a.1.0.now a.1.1.0.now a.1.1.1.0.now e.1.1.1.0.now r)
write_alternatives_lem κs a = (tt, λ r e p. p)

pub list_text : (κs : Lfts 5) (a : Dens κs list_text_kinds.ps) → list_text_says.Pre κs a
    × ((r : Outcome) (e : Dens κs list_text_kinds.ps) → list_text_says.Post κs a r e
    → ListsPattern a.0 a.1.0.now a.1.1.0.now a.1.1.1.0.now a.1.1.1.1.0.now
    a.1.1.1.1.1.0.now
    e.1.1.1.1.1.0.now r)
list_text κs a = (tt, λ r e p. p)

pub list_began_text : (κs : Lfts 5) (a : Dens κs list_began_text_kinds.ps) → list_began_text_says.Pre κs a
    × ((r : Outcome) (e : Dens κs list_began_text_kinds.ps) → list_began_text_says.Post κs a r e
    → ListsBeganText a.0 a.1.0.now a.1.1.0.now a.1.1.1.0.now a.1.1.1.1.0.now
    a.1.1.1.1.1.0.now
    e.1.1.1.1.1.0.now r)
list_began_text κs a = (tt, λ r e p. p)

pub values_text : (κs : Lfts 5) (a : Dens κs values_text_kinds.ps) → values_text_says.Pre κs a
    × ((r : Outcome) (e : Dens κs values_text_kinds.ps) → values_text_says.Post κs a r e
    → ListsValues a.0 a.1.0.now a.1.1.0.now a.1.1.1.0.now a.1.1.1.1.0.now
    a.1.1.1.1.1.0.now
    e.1.1.1.1.1.0.now r)
values_text κs a = (tt, λ r e p. p)

pub list_values_lem : (κs : Lfts 3) (a : Dens κs list_values_kinds.ps) → list_values_says.Pre κs a
    × ((r : Outcome) (e : Dens κs list_values_kinds.ps) → list_values_says.Post κs a r e
    → ValuesText a.0.now a.1.0.now a.1.1.0.now e.1.1.0.now r)
list_values_lem κs a = (tt, λ r e p. p)
