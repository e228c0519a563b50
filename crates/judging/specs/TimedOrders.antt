-- Document 02, [12]: "13 for a push or trace row whose time is not above the last, after 15". The orders of the calls
-- that take the times of the rows.
--   FirstEarly                    the first row whose time is not above the last row's
--   rises, timed_codes, timed_codes_row       the parts of an order
--   timed_order, timed_row_order     the orders of the calls: all rows, a row
--   JudgesTimed, JudgesTimedRow, ChecksTimed, ChecksTimedRow     verdicts
use Rattle.std.specs.Prelude.{ℕ, ◌-◌, ◌<◌, ◌≤◌, ◌≡◌, Bool, true, List, [], ◌∷◌, length, get_or}
use Rattle.alf.specs.declared.Rules.{Rules}
use Rattle.alf.specs.declared.Sort.TheVariants.{Vector}
use Rattle.alf.specs.Refusals.{Order, check, bad_code, early_row, no_such_row, Rising}
use Rattle.acceptance.specs.Accepted.{Accepted}
use Rattle.states.specs.FirstBadCode.{Codes}
use Rattle.judging.specs.Orders.{Verdict}
use Rattle.judging.specs.Orders.{Rows, order, Judged, Judges}

-- r is the first such row, or the number of rows where there is none
pub record FirstEarly (times : List ℕ) (r : ℕ) : Type 0 where
  pub within : r ≤ length times
  pub before : (i : ℕ) → 0 < i → i < r → get_or times (i - 1) 0 < get_or times i 0
  pub there : r < length times → (0 < r) × (get_or times r 0 ≤ get_or times (r - 1) 0)

-- 13 of the times; 15, 13; and 19
abbrev pub rises : List ℕ → Order
rises times = check 13 (early_row times) ∷ []

abbrev pub timed_codes : List ℕ → List ℕ → Order
timed_codes states times = check 15 (bad_code states) ∷ check 13 (early_row times) ∷ []

abbrev pub timed_codes_row : List ℕ → List ℕ → ℕ → ℕ → Order
timed_codes_row states times n row =
    check 15 (bad_code states) ∷ check 13 (early_row times) ∷ check 19 (no_such_row row n) ∷ []

-- a tree, all rows of a trace, and lists that are right if `lent` is so: 18, 10, 15, 13
abbrev pub timed_order : Rules → ℕ → ℕ → Type 0 → List ℕ → List ℕ → List ℕ → Order
timed_order ρ names n lent tree times states =
    order (lent × Rows names n (length states)) (Accepted ρ names Vector tree) (timed_codes states times)

-- a tree and a row of a trace: 18, 10, 15, 13, 19
abbrev pub timed_row_order : Rules → ℕ → ℕ → List ℕ → List ℕ → List ℕ → ℕ → Order
timed_row_order ρ names n tree times states row =
    order ((length times ≡ n) × Rows names n (length states)) (Accepted ρ names Vector tree)
    (timed_codes_row states times n row)

-- by two tests, whatever they stand for
pub record JudgesTimed (fits good : Bool) (states times : List ℕ) (r : Verdict) : Type 0 where
  pub is : Judges fits good (timed_codes states times) (Codes states × Rising times) r

pub record JudgesTimedRow (fits good : Bool) (states times : List ℕ) (n row : ℕ) (r : Verdict) : Type 0 where
  pub is : Judges fits good (timed_codes_row states times n row) (Codes states × Rising times × (row < n)) r

-- of a tree and a trace
pub record ChecksTimed (ρ : Rules) (names n : ℕ) (lent : Bool) (tree times states : List ℕ) (r : Verdict) : Type 0 where
  pub is : Judged (timed_order ρ names n (lent ≡ true) tree times states)
      (((lent ≡ true) × Rows names n (length states)) × Accepted ρ names Vector tree × (Codes states × Rising times)) r

pub record ChecksTimedRow (ρ : Rules) (names n : ℕ) (tree times states : List ℕ) (row : ℕ) (r : Verdict)
    : Type 0 where
  pub is : Judged (timed_row_order ρ names n tree times states row)
      (((length times ≡ n) × Rows names n (length states)) × Accepted ρ names Vector tree
      × (Codes states × Rising times × (row < n))) r
