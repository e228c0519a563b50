-- What the checks of a record come to, row by row of its order: a mark cut short, a mark that is not due, a record cut
-- short, its contents, and a record that passes.
-- Main names: Is, cut_mark, not_due, cut_record, in_contents, passes.
use Rattle.std.specs.Prelude.{Err, Ok}
use mathlib.Core.Path.{◌≡◌, refl, ◌∙◌}
use mathlib.Core.List.{List}
use mathlib.Core.Logic.{inl, inr}
use Prim.Native.Nat.{ℕ, ◌+◌, ◌<◌, ◌≤◌}
use native.Mathlib.Omega.{arith}
use lib.ListN.{length}
use Rattle.basics.specs.Refusing.{refusal}
use Rattle.alf.specs.Refusals.{RefusedWith, Passed}
use Rattle.alf.proofs.Orders.{plainly}
use Rattle.trace_format.specs.declared.Mark.{Mark}
use Rattle.trace_format.specs.Records.{place, mark_here, Due, size_of, contents}
use Rattle.record_checks.specs.declared.Record.{Record}
use Rattle.record_checks.specs.Steps.{mark_of_record, RecordOutcome, ChecksRecord}

-- an outcome that is this refusal
abbrev pub Is : RecordOutcome → ℕ → ℕ → Type 0
Is o number p = o ≡ Err (refusal number p)

module _ (file : List ℕ) (k r : ℕ) where
  pub cut_mark : {o : RecordOutcome} → Is o 14 (length file) → length file < place file k r + 2 → ChecksRecord
      file k r o
  unfolding ChecksRecord RefusedWith
  cut_mark e h = rw e (plainly _ 14 _ (inl (refl, record { given = h; there = refl })))

  module _ (marked : place file k r + 2 ≤ length file) where
    whole : (p : ℕ) → Rattle.alf.specs.Refusals.At (length file) (length file < place file k r + 2) p → ⊥
    whole p a = omega (arith, a.given)

    module _ {m : Mark} (mark : mark_here file k r ≡ m) where
      pub not_due : {o : RecordOutcome} → Is o 11 (place file k r) → (Due k r m → ⊥)
          → ChecksRecord file k r o
      unfolding ChecksRecord RefusedWith
      not_due e n = rw e (plainly _ 11 _ (rw mark (inr (whole, inl (refl, record { given = n; there = refl })))))

      module _ (due : Due k r m) where
        pub cut_record :
            {o : RecordOutcome} →
            Is o 14 (length file) →
            length file < place file k r + size_of file k r m →
            ChecksRecord file k r o
        unfolding ChecksRecord RefusedWith
        cut_record e h =
            rw e
            (plainly _ 14 _
            (rw mark (inr (whole, inr ((λ p a. a.given due), inl (refl, record { given = h; there = refl }))))))

        module _ (fits : place file k r + size_of file k r m ≤ length file) where
          fit : (p : ℕ) → Rattle.alf.specs.Refusals.At (length file)
              (length file < place file k r + size_of file k r m) p → ⊥
          fit p a = omega (arith, a.given)

          pub in_contents :
              {o : RecordOutcome} (number p : ℕ) →
              Is o number p →
              RefusedWith (contents file k r m) number p →
              ChecksRecord file k r o
          unfolding ChecksRecord RefusedWith
          in_contents number p e h =
              rw e (plainly _ number p (rw mark (inr (whole, inr ((λ p a. a.given due), inr (fit, h))))))

          pub passes :
              (j : Record) → m ≡ mark_of_record j → Passed (contents file k r m) → ChecksRecord file k r (Ok j)
          unfolding ChecksRecord Passed
          passes j d h =
              record { mark = mark ∙ d; passed = rw mark (whole, ((λ p a. a.given due), (fit, h))) }
