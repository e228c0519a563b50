-- One place in a file: behind k names and r rows comes one record, and a file is accepted, or refused, in one way.
--   accepted_unique     how many names and rows
--   accepted_refused    not both
--   refusal_unique      one number and one place
use mathlib.Core.Path.{◌≡◌, refl, sym, ◌∙◌}
use mathlib.Core.Bool.{Bool, true, false}
use mathlib.Core.List.{List}
use Prim.Native.Nat.{ℕ, zero, suc, ◌<◌}
use native.Mathlib.Omega.{arith}
use lib.Dec.{ltb}
use borrow.Author.Tests.{ltb-true, ltb-false}
use Rattle.alf.specs.Refusals.{RefusedWith, Passed}
use Rattle.alf.proofs.Outcomes.{AllFixed, at_fixed, first_fixed, refused_passed, refused_unique}
use Rattle.trace_format.specs.declared.Mark.{Mark}
use Rattle.trace_format.specs.declared.Mark.TheVariants.{Name, Row, End, Other}
use Rattle.trace_format.specs.Records.{mark_here, width_in, record_order, contents, Good, GoodRow, Before}
use Rattle.trace_reader.specs.Reading.{Accepted, FileRefused}

-- a good record that another follows
pub record GoesOn (file : List ℕ) (k r : ℕ) : Type 0 where
  pub passed : Passed (record_order file k r)
  pub more : mark_here file k r ≡ End → ⊥

named_row : {file : List ℕ} {k : ℕ} → Good Name file k 0 → GoodRow file k 0 → ⊥
named_row g h = let e : Name ≡ Row _ = sym g.mark ∙ h.mark in let z : ◌≡◌ {A = ℕ} 0 1 = cc in omega arith

-- which of two places comes first
data Order (k r k' r' : ℕ) : Type 0 where
  same : k ≡ k' → r ≡ r' → Order k r k' r'
  names_left : k < k' → Order k r k' r'
  rows_left : k ≡ k' → r < r' → Order k r k' r'
  names_right : k' < k → Order k r k' r'
  rows_right : k ≡ k' → r' < r → Order k r k' r'

order : (k r k' r' : ℕ) → Order k r k' r'
order k r k' r' = go (ltb k k') (ltb k' k) (ltb r r') (ltb r' r) refl refl refl refl
  where
    go : (a b c d : Bool) → ltb k k' ≡ a → ltb k' k ≡ b → ltb r r' ≡ c → ltb r' r ≡ d
        → Order k r k' r'
    go true b c d e f g h = names_left (ltb-true k k' e)
    go false true c d e f g h = names_right (ltb-true k' k f)
    go false false true d e f g h =
        rows_left (omega (arith, ltb-false k k' e, ltb-false k' k f)) (ltb-true r r' g)
    go false false false true e f g h =
        rows_right (omega (arith, ltb-false k k' e, ltb-false k' k f)) (ltb-true r' r h)
    go false false false false e f g h =
        same (omega (arith, ltb-false k k' e, ltb-false k' k f))
        (omega (arith, ltb-false r r' g, ltb-false r' r h))

module _ {file : List ℕ} {k r k' r' : ℕ} (here : Before file k r) (there : Before file k' r') where
  earlier_names : k < k' → GoesOn file k r
  earlier_names h = go r refl
    where
      g : Good Name file k 0
      g = there.names k h

      go : (x : ℕ) → r ≡ x → GoesOn file k r
      go zero e =
          rw e
          (record {
            passed = g.passed;
            more = λ f. let u : Name ≡ End = sym g.mark ∙ f in let z : ◌≡◌ {A = ℕ} 0 1 = cc in omega arith;
          })
      go (suc x) e = absurd (named_row g (here.rows 0 (omega arith)))

  earlier_rows : k ≡ k' → r < r' → GoesOn file k r
  earlier_rows e h =
      let g : GoodRow file k r = rw e (there.rows r h) in
      record {
        passed = g.passed;
        more = λ f.
            let u : Row (width_in file k r) ≡ End = sym g.mark ∙ f in
            let z : ◌≡◌ {A = ℕ} 0 1 = cc in omega arith;
      }

pub accepted_unique :
    {file : List ℕ} {k n k' n' : ℕ} → Accepted file k n → Accepted file k' n' →
    (k ≡ k') × (n ≡ n')
accepted_unique {file} {k} {n} {k'} {n'} a b = go (order k n k' n')
  where
    go : Order k n k' n' → (k ≡ k') × (n ≡ n')
    go (same e f) = (e, f)
    go (names_left h) = absurd ((earlier_names a.before b.before h).more a.ends.mark)
    go (rows_left e h) = absurd ((earlier_rows a.before b.before e h).more a.ends.mark)
    go (names_right h) = absurd ((earlier_names b.before a.before h).more b.ends.mark)
    go (rows_right e h) = absurd ((earlier_rows b.before a.before (sym e) h).more b.ends.mark)

at_good :
    (file : List ℕ) (k r number p : ℕ) → Passed (record_order file k r) →
    RefusedWith (record_order file k r) number p → ⊥
at_good file k r number p = refused_passed (record_order file k r) number p

pub accepted_refused : {file : List ℕ} {k n number p : ℕ} → Accepted file k n → FileRefused file number p
    → ⊥
accepted_refused {file} {k} {n} {number} {p} a f = go (order k n f.names f.rows)
  where
    go : Order k n f.names f.rows → ⊥
    go (same d e) = at_good file f.names f.rows number p (rw (d, e) at a.ends.passed) f.refused
    go (names_left h) = (earlier_names a.before f.before h).more a.ends.mark
    go (rows_left e h) = (earlier_rows a.before f.before e h).more a.ends.mark
    go (names_right h) =
        at_good file f.names f.rows number p (earlier_names f.before a.before h).passed f.refused
    go (rows_right e h) =
        at_good file f.names f.rows number p (earlier_rows f.before a.before (sym e) h).passed f.refused

-- each row of a record's order fixes its place
contents_fixed : (file : List ℕ) (k r : ℕ) (m : Mark) → AllFixed (contents file k r m)
unfolding contents
contents_fixed file k r Name = (at_fixed _ _, tt)
contents_fixed file k r (Row w) = (at_fixed _ _, (first_fixed _, tt))
contents_fixed file k r End = (at_fixed _ _, (at_fixed _ _, tt))
contents_fixed file k r Other = tt

pub record_fixed : (file : List ℕ) (k r : ℕ) → AllFixed (record_order file k r)
record_fixed file k r =
    (at_fixed _ _, (at_fixed _ _, (at_fixed _ _, contents_fixed file k r (mark_here file k r))))

pub refusal_unique :
    {file : List ℕ} {number p number' p' : ℕ} →
    FileRefused file number p →
    FileRefused file number' p' →
    (number ≡ number') × (p ≡ p')
refusal_unique {file} {number} {p} {number'} {p'} f g = go (order f.names f.rows g.names g.rows)
  where
    go : Order f.names f.rows g.names g.rows → (number ≡ number') × (p ≡ p')
    go (same d e) =
        refused_unique (record_order file g.names g.rows) (record_fixed file g.names g.rows)
        (rw (d, e) at f.refused) g.refused
    go (names_left h) =
        absurd (at_good file f.names f.rows number p (earlier_names f.before g.before h).passed
        f.refused)
    go (rows_left e h) =
        absurd (at_good file f.names f.rows number p (earlier_rows f.before g.before e h).passed
        f.refused)
    go (names_right h) =
        absurd
        (at_good file g.names g.rows number' p' (earlier_names g.before f.before h).passed
        g.refused)
    go (rows_right e h) =
        absurd
        (at_good file g.names g.rows number' p' (earlier_rows g.before f.before (sym e) h).passed
        g.refused)
