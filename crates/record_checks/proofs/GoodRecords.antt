-- What a good record is, in facts: each `Good` and its facts are one and the same.
--   good_name, good_row, good_end     the facts of a good record
--   name_good, row_good, end_good     a record with the facts is good
--   name_first, other_bad             a good name stands before the rows; a mark that is none is of no good record
use mathlib.Core.Path.{◌≡◌, refl, sym, subst}
use mathlib.Core.List.{List}
use Prim.Native.Nat.{ℕ, ◌+◌, ◌-◌, ◌<◌, ◌≤◌}
use native.Mathlib.Omega.{arith}
use lib.ListN.{length, get_or}
use Rattle.alf.specs.Names.{is_name}
use Rattle.alf.specs.Refusals.{Passed}
use Rattle.alf.proofs.Orders.{none_first}
use Rattle.trace_format.specs.declared.Mark.{Mark}
use Rattle.trace_format.specs.declared.Mark.TheVariants.{Name, Row, End, Other}
use Rattle.trace_format.specs.Records.{place, time_in, name_in, number_at, mark_here, width_in, Due, size_of, contents}
use Rattle.trace_format.specs.Records.{record_order, marked_order, GoodName, BadCode, Good, GoodRow}
use Rattle.record_checks.specs.Steps.{Above}
use Rattle.basics.proofs.Stable.{lt_stable, eq_stable, true_stable}

pub record NameFacts (file : List ℕ) (k : ℕ) : Type 0 where
  pub mark : mark_here file k 0 ≡ Name
  pub few : k < 32
  pub fits : place file k 0 + 3 + get_or file (place file k 0 + 2) 0 ≤ length file
  pub good : GoodName file k

pub record RowFacts (file : List ℕ) (k r : ℕ) : Type 0 where
  pub mark : mark_here file k r ≡ Row (width_in file k r)
  pub named : 1 ≤ k
  pub few : r < 65535
  pub fits : place file k r + 2 + width_in file k r + k ≤ length file
  pub above : Above file k r
  pub codes : (p : ℕ) → BadCode file k r p → ⊥

pub record EndFacts (file : List ℕ) (k r : ℕ) : Type 0 where
  pub mark : mark_here file k r ≡ End
  pub some : 1 ≤ r
  pub last : place file k r + 6 ≡ length file
  pub counted : number_at 4 file (place file k r + 2) ≡ r

-- the order of a record by its mark
marked_by : (file : List ℕ) (k r : ℕ) {m : Mark} → mark_here file k r ≡ m → Passed (record_order file k r)
    → Passed (marked_order file k r m)
marked_by file k r e p = subst (λ (m : Mark). Passed (marked_order file k r m)) e p

by_mark : (file : List ℕ) (k r : ℕ) {m : Mark} → mark_here file k r ≡ m → Passed (marked_order file k r m)
    → Passed (record_order file k r)
by_mark file k r e p = subst (λ (m : Mark). Passed (marked_order file k r m)) (sym e) p

-- the first three checks of a record
module _ (file : List ℕ) (k r : ℕ) (m : Mark) (passed : Passed (marked_order file k r m)) where
  due : (Due k r m → ⊥) → ⊥
  unfolding Passed
  due n = passed.1.0 (place file k r) (record { given = n; there = refl })

  whole : place file k r + size_of file k r m ≤ length file
  unfolding Passed
  whole =
      let n : length file < place file k r + size_of file k r m → ⊥ =
      λ h. passed.1.1.0 (length file) (record { given = h; there = refl })
      in omega arith

  inner : Passed (contents file k r m)
  unfolding Passed
  inner = passed.1.1.1

module _ (file : List ℕ) (k r : ℕ) (m : Mark) where
  pub passing :
      Due k r m →
      place file k r + 2 ≤ length file →
      place file k r + size_of file k r m ≤ length file →
      Passed (contents file k r m) →
      Passed (marked_order file k r m)
  unfolding Passed
  passing d h f c =
      ((λ p a. omega (arith, a.given)), ((λ p a. a.given d), ((λ p a. omega (arith, a.given)), c)))

pub name_first : (file : List ℕ) (k r : ℕ) → Good Name file k r → r ≡ 0
unfolding Due
name_first file k r g = eq_stable r 0 (λ n. due file k r Name (rw g.mark at g.passed) (λ d. n d.0))

pub other_bad : (file : List ℕ) (k r : ℕ) → Good Other file k r → ⊥
unfolding Due
other_bad file k r g = due file k r Other (rw g.mark at g.passed) (λ d. d)

module _ (file : List ℕ) (k : ℕ) (g : Good Name file k 0) where
  name_passed : Passed (marked_order file k 0 Name)
  name_passed = rw g.mark at g.passed

  name_few : k < 32
  unfolding Due
  name_few = lt_stable k 32 (λ n. due file k 0 Name name_passed (λ d. n d.1))

  name_fits : place file k 0 + 3 + get_or file (place file k 0 + 2) 0 ≤ length file
  unfolding size_of
  name_fits = omega (arith, whole file k 0 Name name_passed)

  name_held : (GoodName file k → ⊥) → ⊥
  unfolding Passed contents
  name_held n = (inner file k 0 Name name_passed).0 (place file k 0 + 2) (record { given = n; there = refl })

  pub good_name : NameFacts file k
  good_name =
      record {
        mark = g.mark;
        few = name_few;
        fits = name_fits;
        good =
            record {
              named = true_stable (is_name (name_in file k)) (λ n. name_held (λ h. n h.named));
              new = λ j l e. name_held (λ h. h.new j l e);
            };
      }

module _ (file : List ℕ) (k r : ℕ) (g : GoodRow file k r) where
  row_passed : Passed (marked_order file k r (Row (width_in file k r)))
  row_passed = marked_by file k r g.mark g.passed

  row_due : (1 ≤ k) × (r < 65535)
  unfolding Due
  row_due = (
    lt_stable 0 k (λ n. due file k r (Row (width_in file k r)) row_passed (λ d. n d.0)),
    lt_stable r 65535 (λ n. due file k r (Row (width_in file k r)) row_passed (λ d. n d.1)),
  )

  row_fits : place file k r + 2 + width_in file k r + k ≤ length file
  unfolding size_of
  row_fits = omega (arith, whole file k r (Row (width_in file k r)) row_passed)

  row_above : Above file k r
  unfolding Passed contents
  row_above h =
      lt_stable (time_in file k (r - 1)) (time_in file k r)
      (λ n.
      (inner file k r (Row (width_in file k r)) row_passed).0 (place file k r + 2)
      (record { given = (h, omega (arith, n)); there = refl }))

  row_codes : (p : ℕ) → BadCode file k r p → ⊥
  unfolding Passed contents
  row_codes = none_first (BadCode file k r) (inner file k r (Row (width_in file k r)) row_passed).1.0

  pub good_row : RowFacts file k r
  good_row =
      record {
        mark = g.mark;
        named = row_due.0;
        few = row_due.1;
        fits = row_fits;
        above = row_above;
        codes = row_codes;
      }

module _ (file : List ℕ) (k r : ℕ) (g : Good End file k r) where
  end_passed : Passed (marked_order file k r End)
  end_passed = rw g.mark at g.passed

  end_some : 1 ≤ r
  unfolding Due
  end_some = lt_stable 0 r (λ n. due file k r End end_passed n)

  end_last : place file k r + 6 ≡ length file
  unfolding size_of Passed contents
  end_last =
      let n : place file k r + 6 < length file → ⊥ =
      λ h. (inner file k r End end_passed).1.0 (place file k r + 6) (record { given = h; there = refl })
      in omega (arith, whole file k r End end_passed)

  end_counted : number_at 4 file (place file k r + 2) ≡ r
  unfolding Passed contents
  end_counted =
      eq_stable (number_at 4 file (place file k r + 2)) r
      (λ n. (inner file k r End end_passed).0 (place file k r + 2) (record { given = n; there = refl }))

  pub good_end : EndFacts file k r
  good_end = record { mark = g.mark; some = end_some; last = end_last; counted = end_counted }

-- the other way round
pub name_good : (file : List ℕ) (k : ℕ) → NameFacts file k → Good Name file k 0
unfolding Due size_of contents Passed
name_good file k f =
    record {
      mark = f.mark;
      passed =
          rw f.mark
          (passing file k 0 Name (refl, f.few) (omega (arith, f.fits)) (omega (arith, f.fits))
          ((λ p a. a.given f.good), tt));
    }

pub row_good : (file : List ℕ) (k r : ℕ) → RowFacts file k r → GoodRow file k r
unfolding Due size_of contents Passed
row_good file k r f =
    record {
      mark = f.mark;
      passed =
          by_mark file k r f.mark
          (passing file k r (Row (width_in file k r)) (f.named, f.few) (omega (arith, f.fits))
          (omega (arith, f.fits)) (
            (λ p a. omega (arith, f.above a.given.0, a.given.1)),
            ((λ p a. f.codes p a.given), tt),
          ));
    }

pub end_good : (file : List ℕ) (k r : ℕ) → EndFacts file k r → Good End file k r
unfolding Due size_of contents Passed
end_good file k r f =
    record {
      mark = f.mark;
      passed =
          rw f.mark
          (passing file k r End f.some (omega (arith, f.last)) (omega (arith, f.last))
          ((λ p a. a.given f.counted), ((λ p a. omega (arith, a.given, f.last)), tt)));
    }
