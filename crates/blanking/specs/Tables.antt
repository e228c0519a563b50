-- Document 02, [11], for a whole table: the calls of `keep_text` that a table of pins comes from.
--   Kept     one table from another, by the texts of patterns, which are listed, and of single pins
use Rattle.std.specs.Prelude.{Ok}
use Rattle.std.specs.Prelude.{ℕ, List, [], ◌∷◌}
use Rattle.alf.specs.declared.Rules.{Rules}
use Rattle.alf.specs.declared.Sort.TheVariants as sort
use Rattle.kept_texts.specs.Keeping.{KeepsText}

pub data Kept (ρ : Rules) (names : List ℕ) (last : List ℕ) : List ℕ → List (List ℕ) → Type 0 where
  none : Kept ρ names last last []
  pattern :
      {text kept kept' : List ℕ} {texts : List (List ℕ)} {m : ℕ} →
      KeepsText ρ names text sort.Vector kept kept' (Ok m) →
      Kept ρ names last kept' texts →
      Kept ρ names last kept (text ∷ texts)
  pin :
      {text kept kept' : List ℕ} {texts : List (List ℕ)} {m : ℕ} →
      KeepsText ρ names text sort.Boolean kept kept' (Ok m) →
      Kept ρ names last kept' texts →
      Kept ρ names last kept texts
