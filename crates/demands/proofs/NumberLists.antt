-- Lists of numbers, as orders have them: of two orders, row by row, of a file's record.
--   one_passes                     what each number of a list passes, one among them passes
--   all_both                       what each number of two lists passes, each of both passes
--   numbers_both                   of two orders, one after the other
--   rows_numbers_lem, rows_in_table    of rows that are asked row by row
--   record_numbers_lem, of_a_file, of_its_room    of a record by its mark, and of the room for a trace
use Prim.Native.Nat.{ℕ, zero, suc}
use mathlib.Core.Path.{◌≡◌, refl, ap, ◌∙◌}
use mathlib.Core.Bool.{Bool, true, false, ◌||◌}
use mathlib.Core.List.{List, [], ◌∷◌, ◌++◌}
use lib.Dec.{eqb}
use borrow.Author.Tests.{eqb-true}
use Rattle.basics.specs.Words.{all}
use Rattle.basics.proofs.Bools.{never, and_left, and_right}
use Rattle.alf.specs.States.{among}
use Rattle.alf.specs.Refusals.{Order, numbers_of}
use Rattle.trace_format.specs.declared.Mark.{Mark}
use Rattle.trace_format.specs.declared.Mark.TheVariants as mark
use Rattle.trace_format.specs.Records.{contents, marked_order}
use Rattle.trace_writer.specs.Writing as files
use Rattle.demands.specs.CallNumbers.{record_numbers, room_numbers, file_numbers, row_by_row}
use Rattle.demands.specs.Numbers.{in_table}

pub one_passes : (p : ℕ → Bool) (ns : List ℕ) (n : ℕ) → all p ns ≡ true → among n ns ≡ true → p n ≡ true
unfolding all among
one_passes p [] n a m = never m
one_passes p (k ∷ ns) n a m =
    go (eqb n k) refl (one_passes p ns n (and_right (p k) (all p ns) a)) m
  where
    go : (q : Bool) → eqb n k ≡ q → (among n ns ≡ true → p n ≡ true) → (q || among n ns) ≡ true → p n ≡ true
    go true e f h = rw (eqb-true n k e) (and_left (p k) (all p ns) a)
    go false e f h = f h

pub all_both : (p : ℕ → Bool) (ns ms : List ℕ) → all p ns ≡ true → all p ms ≡ true → all p (ns ++ ms) ≡ true
unfolding all
all_both p [] ms a b = b
all_both p (n ∷ ns) ms a b = rw (and_left (p n) _ a) (all_both p ns ms (and_right (p n) _ a) b)

pub numbers_both : (o o' : Order) → numbers_of (o ++ o') ≡ numbers_of o ++ numbers_of o'
unfolding numbers_of
numbers_both [] o' = refl
numbers_both (c ∷ o) o' = ap (λ ns. c.number ∷ ns) (numbers_both o o')

-- Trace writing: row by row.
one_more_row : (n : ℕ) → row_by_row n ++ (13 ∷ 15 ∷ []) ≡ row_by_row (suc n)
unfolding row_by_row
one_more_row zero = refl
one_more_row (suc n) = ap (λ ns. 13 ∷ 15 ∷ ns) (one_more_row n)

pub rows_numbers_lem : (k : ℕ) (times states : List ℕ) (first n : ℕ)
    → numbers_of (files.rows_order k times states first n) ≡ row_by_row n
unfolding numbers_of files.rows_order row_by_row
rows_numbers_lem k times states first zero = refl
rows_numbers_lem k times states first (suc n) =
    numbers_both (files.rows_order k times states first n) _
    ∙ ap (λ ns. ns ++ (13 ∷ 15 ∷ [])) (rows_numbers_lem k times states first n)
    ∙ one_more_row n

pub rows_in_table : (n : ℕ) → all in_table (row_by_row n ++ (9 ∷ [])) ≡ true
unfolding all in_table row_by_row
rows_in_table zero = refl
rows_in_table (suc n) = rows_in_table n

-- A file's record, by its mark.
pub record_numbers_lem : (file : List ℕ) (k r : ℕ) (m : Mark) → numbers_of (marked_order file k r m) ≡ record_numbers m
unfolding numbers_of contents record_numbers
record_numbers_lem file k r mark.Name = refl
record_numbers_lem file k r (mark.Row w) = refl
record_numbers_lem file k r mark.End = refl
record_numbers_lem file k r mark.Other = refl

pub of_a_file : (m : Mark) → all (λ n. among n file_numbers) (record_numbers m) ≡ true
unfolding all among record_numbers
of_a_file mark.Name = refl
of_a_file (mark.Row w) = refl
of_a_file mark.End = refl
of_a_file mark.Other = refl

pub of_its_room : all (λ n. among n file_numbers) room_numbers ≡ true
unfolding all among
of_its_room = refl
