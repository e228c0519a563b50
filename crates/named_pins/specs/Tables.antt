-- A table of pins: a list with an entry for each pin, which is 0 where the pin is not kept.
--   keeps      whether a table keeps a pin
--   joined     a table that keeps some pins too
--   Marks      the table of what a tree names: the pins whose numbers are among its bytes. That these are the pins
--              that its expression names is a law.
use Rattle.std.specs.Prelude.{ℕ, ◌≡◌, Bool, not, List, eqb, length, get_or, if◌then◌else◌}
use Rattle.basics.specs.Words.{listed}
use Rattle.alf.specs.States.{among}

unfoldable pub keeps : List ℕ → ℕ → Bool
keeps kept n = not (eqb (get_or kept n 0) 0)

unfoldable pub joined : (ℕ → Bool) → List ℕ → List ℕ
joined pins kept = listed 0 (length kept) (λ n. if pins n then 1 else get_or kept n 0)

pub record Marks (tree kept kept' : List ℕ) : Type 0 where
  pub is : kept' ≡ joined (λ n. among n tree) kept
