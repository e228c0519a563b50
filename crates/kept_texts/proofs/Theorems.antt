-- What keeping the pins of a text comes to.
--   keep_unique      result and table afterwards follow from the input
--   keep_stays       refused, the table is as before
use Rattle.std.specs.Prelude.{Err, Ok}
use Prim.Native.Nat.{ℕ}
use mathlib.Core.Path.{◌≡◌, ap, sym, ◌∙◌}
use mathlib.Core.List.{List}
use Rattle.basics.specs.declared.Refusal.{Refusal}
use Rattle.basics.specs.Refusing.{Outcome}
use Rattle.alf.specs.declared.Rules.{Rules}
use Rattle.alf.specs.declared.Sort.{Sort}
use Rattle.alf.specs.Expressions.{Expression}
use Rattle.alf.proofs.Outcomes.{at_fixed, refused_passed}
use Rattle.alf.proofs.Orders.{Sole, sole_both, sole_fixed}
use Rattle.tokens.proofs.ShownBytes.{refused_in_unique}
use Rattle.reader.specs.Reading.{read_order}
use Rattle.reader.proofs.Unique.{gives_unique}
use Rattle.text_laws.proofs.ReadTrees.{read_sole}
use Rattle.named_pins.specs.Pins.{named}
use Rattle.named_pins.specs.Tables.{joined}
use Rattle.kept_texts.specs.Keeping.{table_checks, keep_order, KeepsText, keeps, refuses}

module _ (ρ : Rules) (names text : List ℕ) (sort : Sort) (kept : List ℕ) where
  keep_sole : Sole (keep_order ρ names text sort kept)
  keep_sole =
      sole_both (read_order ρ names text sort) (table_checks names kept) (read_sole ρ names text sort)
      (sole_fixed (table_checks names kept) (at_fixed _ _, tt))

  pub keep_unique : {x y : List ℕ} {r s : Outcome} → KeepsText ρ names text sort kept x r
      → KeepsText ρ names text sort kept y s
      → (r ≡ s) × (x ≡ y)
  keep_unique (keeps a p g k h) (keeps b q j l i) =
      let e = gives_unique g j in
      (ap Ok (k ∙ sym l), h ∙ ap (λ (z : Expression). joined (named z) kept) e ∙ sym i)
  keep_unique (keeps a p g k h) (refuses b i) = absurd (refused_passed _ _ _ p b.by)
  keep_unique (refuses a h) (keeps b q j l i) = absurd (refused_passed _ _ _ q a.by)
  keep_unique (refuses a h) (refuses b i) =
      (ap Err (refused_in_unique text _ keep_sole a b), h ∙ sym i)

  pub keep_stays : {kept' : List ℕ} {r : Refusal} → KeepsText ρ names text sort kept kept' (Err r) → kept' ≡ kept
  keep_stays (refuses h e) = e
