-- What a check of the record at a cursor comes to, with the tests that the code makes.
--   undue, cut, inside, done    for any mark
--   name-..                     for `NM`
use Rattle.std.specs.Prelude.{Err, Ok}
use mathlib.Core.Path.{◌≡◌, refl, sym, ap, ◌∙◌}
use mathlib.Core.Bool.{Bool, true, false}
use mathlib.Core.List.{List}
use mathlib.Core.Logic.{inl}
use Prim.Native.Nat.{ℕ, ◌+◌, ◌-◌, ◌<◌, ◌≤◌}
use native.Mathlib.Omega.{arith}
use lib.ListN.{length, get_or, take, drop}
use Rattle.basics.specs.Deciding.{Decides}
use Rattle.basics.proofs.Deciding.{told, not_told}
use Rattle.basics.specs.Refusing.{refusal}
use Rattle.alf.specs.Names.{is_name}
use Rattle.alf.specs.Refusals.{RefusedWith, Passed}
use Rattle.record_checks.specs.declared.Cursor.{Cursor}
use Rattle.record_checks.specs.declared.Record.{Record}
use Rattle.trace_format.specs.declared.Mark.{Mark}
use Rattle.trace_format.specs.declared.Mark.TheVariants.{Name}
use Rattle.trace_format.specs.Records.{place, name_end, name_in, mark_at_lem, Due, size_of, contents, GoodName}
use Rattle.trace_format.specs.Parts.{ByteIs}
use Rattle.record_checks.specs.Steps.{Stands, StandsAt, RecordOutcome, Checks, mark_of_record, NameStands, NewName}
use Rattle.record_checks.proofs.Orders.{Is, cut_mark, not_due, cut_record, in_contents, passes}
use Rattle.record_checks.proofs.NameWalk.{name_is}

pub cut_short : {file : List ℕ} {s : Cursor} → Stands file s → {o : RecordOutcome} → Is o 14
    (length file) → length file - s.place < 2 → Checks file s o
cut_short {file} {s} st e h = cut_mark file s.names s.rows e (omega (arith, st.there))

pub stands_at :
    {file : List ℕ} {s : Cursor} →
    Stands file s →
    2 ≤ length file - s.place →
    {m m' : Mark} →
    m' ≡ mark_at_lem file s.place →
    m' ≡ m →
    StandsAt m file s
stands_at {file} {s} st h {m} {m'} e f =
    record {
      stands = st;
      marked = omega (arith, st.within);
      mark = sym (ap (mark_at_lem file) st.there) ∙ sym e ∙ f;
    }

module _ {m : Mark} {file : List ℕ} {s : Cursor} (st : StandsAt m file s) where
  marked : place file s.names s.rows + 2 ≤ length file
  marked = omega (arith, st.stands.there, st.marked)

  pub undue : {o : RecordOutcome} → Is o 11 s.place → (Due s.names s.rows m → ⊥) → Checks file s o
  undue {o} e n =
      not_due file s.names s.rows marked st.mark
      (e ∙ ap (λ (p : ℕ). Err (refusal 11 p)) st.stands.there) n

  module _ (due : Due s.names s.rows m) where
    pub cut :
        {o : RecordOutcome} →
        Is o 14 (length file) →
        length file < s.place + size_of file s.names s.rows m →
        Checks file s o
    cut e h =
        cut_record file s.names s.rows marked st.mark due e (rw (← st.stands.there) h)

    module _ (fits : s.place + size_of file s.names s.rows m ≤ length file) where
      pub inside :
          {o : RecordOutcome} (number p : ℕ) →
          Is o number p →
          RefusedWith (contents file s.names s.rows m) number p →
          Checks file s o
      inside number p e h =
          in_contents file s.names s.rows marked st.mark due (rw (← st.stands.there) fits) number p e h

      pub done : (j : Record) → m ≡ mark_of_record j → Passed (contents file s.names s.rows m) → Checks file s (Ok j)
      done = passes file s.names s.rows marked st.mark due (rw (← st.stands.there) fits)

-- `NM`
module _ {file : List ℕ} {s : Cursor} (st : StandsAt Name file s) where
  pub name_late : {o : RecordOutcome} → Is o 11 s.place → (s.rows ≡ 0 → ⊥) → Checks file s o
  unfolding Due
  name_late e n = undue st e (λ d. n d.0)

  pub name_33rd : {o : RecordOutcome} → Is o 11 s.place → 31 < s.names → Checks file s o
  unfolding Due
  name_33rd e n = undue st e (λ d. omega (arith, d.1))

  name_size_lem : size_of file s.names s.rows Name ≡ 3 + get_or file (s.place + 2) 0
  unfolding size_of
  name_size_lem = rw st.stands.there

  module _ (none : s.rows ≡ 0) (few : s.names ≤ 31) where
    name_due : Due s.names s.rows Name
    unfolding Due
    name_due = (none, omega arith)

    pub name_here : s.place ≡ name_end file s.names
    unfolding place
    name_here = st.stands.there ∙ rw none

    pub name_unmeasured : {o : RecordOutcome} → Is o 14 (length file) → length file - s.place < 3 → Checks file s o
    name_unmeasured e h = cut st name_due e (omega (arith, name_size_lem))

    module _ {n : ℕ} (byte : ByteIs (get_or file (s.place + 2) 0) n) (measured : 3 ≤ length file - s.place) where
      pub name_cut : {o : RecordOutcome} → Is o 14 (length file) → length file - (s.place + 3) < n → Checks file s o
      name_cut e h = cut st name_due e (omega (arith, name_size_lem, byte.is))

      module _ (whole : n ≤ length file - (s.place + 3)) where
        name_fits : s.place + size_of file s.names s.rows Name ≤ length file
        name_fits = omega (arith, name_size_lem, byte.is)

        pub name_stands : NameStands file s.names s.place
        name_stands = record { there = name_here; whole = omega (arith, byte.is) }

        name_bad : {o : RecordOutcome} → Is o 12 (s.place + 2) → (GoodName file s.names → ⊥) → Checks file s o
        unfolding RefusedWith contents
        name_bad e n =
            inside st name_due name_fits 12 (s.place + 2) e
            (inl (refl, record { given = n; there = ap (λ (p : ℕ). p + 2) st.stands.there }))

        module _ {b : Bool} (tested : b ≡ is_name (take (s.place + 3 + n - (s.place + 3))
            (drop (s.place + 3) file))) where
          named : b ≡ is_name (name_in file s.names)
          named = tested ∙ ap is_name (name_is file s.names name_here byte)

          pub name_not : {o : RecordOutcome} → Is o 12 (s.place + 2) → b ≡ false → Checks file s o
          name_not e f =
              name_bad e
              (λ g.
              let t : true ≡ false = sym g.named ∙ sym named ∙ f in
              let z : ◌≡◌ {A = ℕ} 0 1 = cc in
              omega arith)

          module _ {w : Bool} (new : Decides w (NewName file s.names)) where
            pub name_old : {o : RecordOutcome} → Is o 12 (s.place + 2) → w ≡ false → Checks file s o
            name_old e f = name_bad e (λ g. not_told _ new f g.new)

            pub name_good : b ≡ true → w ≡ true → Checks file s (Ok Record.Name)
            unfolding Passed contents
            name_good y z =
                done st name_due name_fits Record.Name refl
                ((λ p a. a.given (record { named = sym named ∙ y; new = told _ new z })), tt)
