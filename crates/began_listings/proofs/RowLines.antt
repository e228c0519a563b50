-- Rows matched by lists of alternatives: what is asked of a row, what it is told, its line.
--   row_asked, find_date, find_dated     a row is matched, and dated
--   number_small, row_line, row_sized, row_wording, row_put     its line
--   measured_first, measured_asked, measured_next               one row more is measured
use Rattle.std.specs.Prelude.{if◌then◌else◌}
use Prim.Native.Nat.{ℕ, ◌+◌, ◌<◌, ◌≤◌}
use native.Mathlib.Omega.{arith}
use mathlib.Core.Path.{◌≡◌, refl, ap, ◌∙◌}
use mathlib.Core.List.{List}
use lib.Dec.{eqb}
use lib.ListN.{length, get_or}
use Rattle.basics.specs.Memory.{Put, Room}
use Rattle.basics.specs.Text.{joined}
use Rattle.basics.specs.Words.{count, listed}
use Rattle.basics.proofs.Counts.{count_next, count_small}
use Rattle.alf.specs.declared.Answer.{Answer}
use Rattle.alf.specs.declared.Answer.TheVariants.{No, Yes, Unknown, NoEvent}
use Rattle.alf.specs.Beginnings.{Began}
use Rattle.alf.specs.Expressions.{Boolean}
use Rattle.alf.specs.Answers.{number_of}
use Rattle.alf.specs.Alternatives.{Alternative, answer_of}
use Rattle.alternatives.specs.InMemory.{alternatives_of_lem}
use Rattle.matcher.specs.Answers.{Matches}
use Rattle.matcher.proofs.Filling as filling
use Rattle.beginnings.specs.Times.{DateAsked, Dating}
use Rattle.beginnings.specs.Dated.{Dates}
use Rattle.beginnings.proofs.ByTries.{date_asked, dated}
use Rattle.beginnings.proofs.Counts.{counted}
use Rattle.listing.specs.Inner.{Sized, Wording}
use Rattle.began_lines.specs.BeganListing.{began_line, answering}
use Rattle.began_lines.proofs.RowTexts.{rows_measured}
use Rattle.began_listings.specs.declared.rows.Sums.{Sums}
use Rattle.began_listings.specs.Inner.{row_text, DatedRow, DatedRows, Adding, Adds, Measured}

-- a row of all rows
pub row_asked : {tree : List ℕ} {names : ℕ} {states steps tests edges operands times : List ℕ} (i : ℕ)
    → DatedRows tree names states steps tests edges operands times → i < length times
    → DatedRow tree names states steps tests edges operands times i
row_asked i a h = record { asked = filling.row_asked i a.asked h; timed = h }

-- what is found at a row may be dated, and is dated then
module _ (st : Boolean → ℕ → ℕ) {tree : List ℕ} {names : ℕ} {states steps tests edges operands times : List ℕ}
    {row : ℕ} (a : DatedRow tree names states steps tests edges operands times row) {answer : Answer} {t : ℕ}
    (m : Matches st (alternatives_of_lem tree names steps tests edges operands) row answer t) where
  pub find_date : DateAsked times steps row answer t
  find_date = date_asked st times (counted a.asked.shape) m a.timed

  pub find_dated : {answer' : Answer} {t' : ℕ} {b : Began} → Dating times steps row answer t answer' t' b
      → Dates st times (alternatives_of_lem tree names steps tests edges operands) row answer' t' b
  find_dated d = dated st times (counted a.asked.shape) m d

pub number_small : (a : Answer) → number_of a ≤ 3
unfolding number_of
number_small No = omega arith
number_small Yes = omega arith
number_small Unknown = omega arith
number_small NoEvent = omega arith

-- the line of a row
module _ (st : Boolean → ℕ → ℕ) (times : List ℕ) (xs : List Alternative) {i : ℕ} {answer : Answer} {t : ℕ} {b : Began}
    (d : Dates st times xs i answer t b) {time v : ℕ} (e : time ≡ get_or times i 0) (f : v ≡ number_of answer) where
  pub row_line : began_line time v b ≡ row_text st times xs i
  row_line = rw (e, f, d.matches.is, d.since) refl

  pub row_known : v ≤ 3
  row_known = omega (arith, f, number_small answer)

  pub row_sized : {r : ℕ} → Sized (began_line time v b) 50 r → Sized (row_text st times xs i) 50 r
  row_sized s = record { is = s.is ∙ ap length row_line; few = s.few }

  pub row_wording : (out : List ℕ) (at : ℕ) → Room out at (row_text st times xs i)
      → Wording 3 v out at (began_line time v b)
  row_wording out at h = record { known = row_known; room = omega (arith, h, ap length row_line) }

  pub row_put : {out out' : List ℕ} {at r : ℕ} → Put out at (began_line time v b) out' r
      → Put out at (row_text st times xs i) out' r
  row_put p = rw row_line at p

-- one row more is measured
module _ (st : Boolean → ℕ → ℕ) (times : List ℕ) (xs : List Alternative) where
  counts_next : (i a : ℕ) → answering (answer_of st xs) (i + 1) a
      ≡ answering (answer_of st xs) i a + (if eqb (answer_of st xs i) a then 1 else 0)
  counts_next i a = count_next i (λ j. eqb (answer_of st xs j) a)

  counts_small : (i a : ℕ) → answering (answer_of st xs) i a ≤ i
  counts_small i a = count_small i (λ j. eqb (answer_of st xs j) a)

  pub measured_first : Measured st times xs (record { size = 0; yes = 0; no = 0; unknown = 0 }) 0
  unfolding joined listed count
  measured_first = record { bytes = refl; few = omega arith; yeses = refl; noes = refl; unknowns = refl }

  module _ {m : Sums} {i : ℕ} (g : Measured st times xs m i) where
    pub measured_asked : {w : List ℕ} {size : ℕ} → i < 65535 → Sized w 50 size → Adding m size
    measured_asked h s =
        record {
          small = omega (arith, g.few);
          few = s.few;
          yeses = omega (arith, g.yeses, counts_small i 1);
          noes = omega (arith, g.noes, counts_small i 0);
          unknowns = omega (arith, g.unknowns, counts_small i 2);
        }

    pub measured_next : {v size : ℕ} {r : Sums} → v ≡ answer_of st xs i → Sized (row_text st times xs i) 50 size
        → Adds m v size r → Measured st times xs r (i + 1)
    measured_next e s a =
        record {
          bytes = a.bytes ∙ rows_measured (row_text st times xs) i g.bytes s.is;
          few = omega (arith, a.bytes, g.few, s.few);
          yeses = omega (arith, rw e at a.yeses, g.yeses, counts_next i 1);
          noes = omega (arith, rw e at a.noes, g.noes, counts_next i 0);
          unknowns = omega (arith, rw e at a.unknowns, g.unknowns, counts_next i 2);
        }

  pub measured_all : {m : Sums} {i n : ℕ} → i ≤ n → n ≤ i → Measured st times xs m i → Measured st times xs m n
  measured_all {m} {i} {n} l u g = let e : i ≡ n = omega arith in rw e at g
