-- What the leaf code on two rows promises: the definitions of Traces.antt, for rows of any length.
--   compared              how many places of two rows are compared
--   differ, differing     whether they differ at a place; the mask of the places where they do
--   Compared              the mask, and how many
use Rattle.std.specs.Prelude.{◌≡◌, Bool, List, ℕ, min, length, get_or}
use Rattle.basics.specs.Words.{count}
use Rattle.alf.specs.Traces.{differ_at, mask}

-- two rows are compared at the places that both have, at most 32
abbrev pub compared : ℕ → ℕ → ℕ
compared old new = min (min 32 old) new

-- a row as a list: the state of name i is entry i
abbrev pub differ : List ℕ → List ℕ → ℕ → Bool
differ old new = differ_at (λ i. get_or old i 0) (λ i. get_or new i 0)

abbrev pub differing : List ℕ → List ℕ → ℕ
differing old new = mask (compared (length old) (length new)) (differ old new)

pub record Compared (old new : List ℕ) (set many : ℕ) : Type 0 where
  pub changed : set ≡ differing old new
  pub number : many ≡ count (compared (length old) (length new)) (differ old new)
