-- What `keep_text` comes to, case by case.
--   keep_refused    a text that is refused
--   keep_18         a table that has not an entry for each name
--   keep_marked     the pins of the tree that is read are those of the expression given
use Rattle.std.specs.Prelude.{Err, Ok}
use Prim.Native.Nat.{ℕ, ◌≤◌}
use native.Mathlib.Omega.{arith}
use mathlib.Core.Path.{◌≡◌, refl, sym}
use mathlib.Core.Logic.{inl}
use mathlib.Core.List.{List}
use lib.ListN.{length, take}
use Rattle.basics.specs.Refusing.{refusal}
use Rattle.basics.specs.Words.{all}
use Rattle.basics.specs.Refusing.{Outcome}
use Rattle.alf.specs.declared.Rules.{Rules}
use Rattle.alf.specs.declared.Sort.{Sort}
use Rattle.alf.specs.Names.{names_in}
use Rattle.alf.specs.States.{among}
use Rattle.alf.specs.Refusals.{RefusedWith, Passed, numbers_of}
use Rattle.alf.proofs.Orders.{passed_left, passed_both}
use Rattle.names.specs.Check.{names_order}
use Rattle.names.proofs.Few.{names_few}
use Rattle.tokens.specs.Extents.{RefusedIn}
use Rattle.tokens.proofs.ShownBytes.{in_first, in_then, in_silent}
use Rattle.basics.specs.declared.Refusal.{Refusal}
use Rattle.reader.specs.declared.Read.{Read}
use Rattle.reader.specs.Reading.{read_order, ReadsText}
use Rattle.text_laws.proofs.ReadTrees.{Found, read_refused, found_front}
use Rattle.named_pins.specs.Tables.{Marks}
use Rattle.named_pins.proofs.Joined.{marks_named}
use Rattle.kept_texts.specs.Keeping.{table_checks, KeepsText, keeps, refuses}

-- 18 of a table; it shows no bytes of a text
module _ (names kept : List ℕ) where
  table_refused : (text : List ℕ) → (length kept ≡ names_in names → ⊥)
      → RefusedIn text (table_checks names kept) (refusal 18 0)
  unfolding all numbers_of among RefusedWith
  table_refused text h =
      in_silent text (table_checks names kept) refl
      (record { by = inl (refl, record { given = h; there = refl }); bare = refl })

  table_passed : length kept ≡ names_in names → Passed (table_checks names kept)
  unfolding Passed
  table_passed e = (λ p a. a.given e, tt)

module _ {ρ : Rules} {names text : List ℕ} {sort : Sort} {kept : List ℕ} where
  pub keep_refused : {r : Refusal} → ReadsText ρ names text sort (Err r) → KeepsText ρ names text sort kept kept (Err r)
  keep_refused h = refuses (in_first text (read_order ρ names text sort) _ (read_refused h)) refl

  module _ {r : Read} (f : Found ρ names text sort r) where
    pub keep_18 : {o : Outcome} → (length kept ≡ names_in names → ⊥) → o ≡ Err (refusal 18 0)
        → KeepsText ρ names text sort kept kept o
    keep_18 h e =
        rw e
        (refuses (in_then text (read_order ρ names text sort) _ f.passed (table_refused names kept text h)) refl)

    pub keep_marked : {kept' : List ℕ} → length kept ≡ names_in names → Marks (take r.len r.tree) kept kept'
        → KeepsText ρ names text sort kept kept' (Ok (names_in names))
    keep_marked e m =
        let few : names_in names ≤ 32 = names_few names (passed_left (names_order names) _ f.passed) in
        keeps f.it (passed_both (read_order ρ names text sort) _ f.passed (table_passed names kept e)) f.gives
        refl (marks_named f.it (sym (found_front f)) (omega (arith, e, few)) m)
