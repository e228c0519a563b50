-- Document 01, "Totals, .., changes of a row: 18, 10, 15, 19": the call for the changes of a row, which is handed no
-- tree.
--   Lists, order     what 18 looks at, and the order of the call
--   RowSet, RowChanged    the set of changed variables, and what the call comes to
--   Inside           the row stands in the states
-- The set and its size are alf's change_mask and change_count.
use Rattle.std.specs.Prelude.{Err, Ok, Result}
use Rattle.states.specs.declared.changes.Changes.{Changes}
use Rattle.basics.specs.declared.Refusal.{Refusal}
use Rattle.std.specs.Prelude.{ℕ, ◌+◌, ◌*◌, ◌<◌, ◌≤◌, ◌≡◌, List, [], ◌∷◌, length}
use Rattle.alf.specs.Refusals.{Order, check, bad_lists, bad_code, no_such_row, NameCount, RowCount}
use Rattle.alf.specs.Refusals.{RefusedBy, Passed}
use Rattle.alf.specs.Traces.{change_mask, change_count}

-- the changes of a row, or a refusal
abbrev pub RowChanges : Type 0
RowChanges = Result Changes Refusal

-- 1 to 32 names, 1 to 65,535 rows, and a state for each name of each row
pub record Lists (names n states : ℕ) : Type 0 where
  pub name_count_lem : NameCount names
  pub row_count : RowCount n
  pub all : states ≡ n * names

-- 18, 15, 19
abbrev pub order : ℕ → ℕ → List ℕ → ℕ → Order
order names n states row =
    check 18 (bad_lists (Lists names n (length states)))
    ∷ check 15 (bad_code states)
    ∷ check 19 (no_such_row row n)
    ∷ []

-- the set of changed variables of a row, and how many they are
pub record RowSet (names : ℕ) (states : List ℕ) (row set many : ℕ) : Type 0 where
  pub changed : set ≡ change_mask names states row
  pub number : many ≡ change_count names states row

unfoldable pub RowChanged : ℕ → ℕ → List ℕ → ℕ → RowChanges → Type 0
RowChanged names n states row (Ok c) =
    Passed (order names n states row) × RowSet names states row c.mask c.many
RowChanged names n states row (Err r) = RefusedBy (order names n states row) r

-- for the functions inside: the row stands in the states, of 1 to 32 names
pub record Inside (names : ℕ) (states : List ℕ) (row : ℕ) : Type 0 where
  pub name_count_lem : NameCount names
  pub few : row < 65536
  pub room : row * names + names ≤ length states
