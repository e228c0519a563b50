-- Document 01, "Totals, matching, rewriting, queue, correction, changes of a row: 18, 10, 15 (trace, then new row),
-- 19": the orders of the calls over rows.
--   Rows                          lists of rows that fit
--   order, codes, codes_row, codes_correction    the parts of an order
--   row_order, rows_order, trace_order            the orders of the calls
--   Judged                        what a verdict by an order tells
--   test, place                    the orders of single checks
--   Judges, JudgesTrace, JudgesRow, JudgesCorrection    verdicts by two tests
--   ChecksRow, ChecksRows         verdicts of a tree and a trace
use Rattle.std.specs.Prelude.{Err, Ok, Result}
use Rattle.std.specs.Prelude.{ℕ, ◌*◌, ◌<◌, ◌≡◌, Bool, true, List, [], ◌∷◌, length}
use Rattle.basics.specs.declared.Refusal.{Refusal}
use Rattle.alf.specs.declared.Rules.{Rules}
use Rattle.alf.specs.declared.Sort.{Sort}
use Rattle.alf.specs.Refusals.{Order, check, bad_lists, cannot_be, bad_code, no_such_row, NameCount, RowCount}
use Rattle.alf.specs.Refusals.{At, RefusedBy, Passed}
use Rattle.acceptance.specs.Accepted.{Accepted}
use Rattle.states.specs.FirstBadCode.{Codes}

-- what a check comes to: good, or refused
abbrev pub Verdict : Type 0
Verdict = Result (Unit {0}) Refusal

-- 1 to 32 names, n from 1 to 65,535, and a state for each name of each row
pub record Rows (names n states : ℕ) : Type 0 where
  pub name_count_lem : NameCount names
  pub row_count : RowCount n
  pub all : states ≡ n * names

-- 18, 10, and what comes then
abbrev pub order : Type 0 → Type 0 → Order → Order
order lists good rest = check 18 (bad_lists lists) ∷ check 10 (cannot_be (good → ⊥)) ∷ rest

-- 15 of a trace; and 19
abbrev pub codes : List ℕ → Order
codes states = check 15 (bad_code states) ∷ []

abbrev pub codes_row : List ℕ → ℕ → ℕ → Order
codes_row states n row = check 15 (bad_code states) ∷ check 19 (no_such_row row n) ∷ []

-- 15 of a trace, then of a new row; and 19
abbrev pub codes_correction : List ℕ → List ℕ → ℕ → ℕ → Order
codes_correction states new n row =
    check 15 (bad_code states) ∷ check 15 (bad_code new) ∷ check 19 (no_such_row row n) ∷ []

-- a tree and a row of a trace: 18, 10, 15, 19
abbrev pub row_order : Rules → ℕ → ℕ → List ℕ → Sort → List ℕ → ℕ → Order
row_order ρ names n tree sort states row =
    order (Rows names n (length states)) (Accepted ρ names sort tree) (codes_row states n row)

-- a tree, all rows of a trace, and lists lent that are right if `lent` is so: 18, 10, 15
abbrev pub rows_order : Rules → ℕ → ℕ → Type 0 → List ℕ → Sort → List ℕ → Order
rows_order ρ names n lent tree sort states =
    order (lent × Rows names n (length states)) (Accepted ρ names sort tree) (codes states)

-- a tree and all rows of a trace, where no list is lent beside them
abbrev pub trace_order : Rules → ℕ → ℕ → List ℕ → Sort → List ℕ → Order
trace_order ρ names n tree sort states =
    order (Rows names n (length states)) (Accepted ρ names sort tree) (codes states)

-- A verdict by an order: good, and some facts are so; or refused.
pub data Judged (o : Order) (facts : Type 0) : Verdict → Type 0 where
  passes : Passed o → facts → Judged o facts (Ok tt)
  refuses : {r : Refusal} → RefusedBy o r → Judged o facts (Err r)

-- a number where a test fails; 19
abbrev pub test : ℕ → Bool → Order
test number good = check number (At 0 (good ≡ true → ⊥)) ∷ []

abbrev pub place : ℕ → ℕ → Order
place n row = check 19 (no_such_row row n) ∷ []

-- by two tests, whatever they stand for
abbrev pub Judges : Bool → Bool → Order → Type 0 → Verdict → Type 0
Judges fits good rest facts r =
    Judged (order (fits ≡ true) (good ≡ true) rest) ((fits ≡ true) × (good ≡ true) × facts) r

pub record JudgesTrace (fits good : Bool) (states : List ℕ) (r : Verdict) : Type 0 where
  pub is : Judges fits good (codes states) (Codes states) r

pub record JudgesRow (fits good : Bool) (states : List ℕ) (n row : ℕ) (r : Verdict) : Type 0 where
  pub is : Judges fits good (codes_row states n row) (Codes states × (row < n)) r

pub record JudgesCorrection (fits good : Bool) (states new : List ℕ) (n row : ℕ) (r : Verdict) : Type 0 where
  pub is : Judges fits good (codes_correction states new n row) (Codes states × Codes new × (row < n)) r

-- of a tree and a trace
pub record ChecksRow (ρ : Rules) (names n : ℕ) (tree : List ℕ) (sort : Sort) (states : List ℕ) (row : ℕ) (r : Verdict)
    : Type 0 where
  pub is : Judged (row_order ρ names n tree sort states row)
      (Rows names n (length states) × Accepted ρ names sort tree × (Codes states × (row < n))) r

pub record ChecksRows (ρ : Rules) (names n : ℕ) (lent : Bool) (tree : List ℕ) (sort : Sort) (states : List ℕ)
    (r : Verdict) : Type 0 where
  pub is : Judged (rows_order ρ names n (lent ≡ true) tree sort states)
      (((lent ≡ true) × Rows names n (length states)) × Accepted ρ names sort tree × Codes states) r
