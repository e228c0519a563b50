-- Document 01, "Trace file": the variables that change at a row, the totals of a vector expression, a row's correction.
-- The bytes of a trace file are not defined here.
--   differ_at, changed, mask, change_mask, change_count     the changed variables of a row, as a set and how many
--   total, Totals                                        how many rows have an answer
--   corrected, last_rewritten   a trace with row r replaced; the last answer that is rewritten
use Rattle.std.specs.Prelude.{ℕ, zero, suc, ◌+◌, ◌-◌, ◌*◌, ◌^◌, min, ◌≡◌, Bool, false, not, List, ◌++◌, eqb, take, drop, if◌then◌else◌}
use Rattle.basics.specs.Words.{count}
use Rattle.alf.specs.Expressions.{Boolean, Vector}
use Rattle.alf.specs.Values.{row_of}
use Rattle.alf.specs.Windows.{row_answer}

-- For each row there is the set of changed variables, bit i for name i, and how many they are; row 0 has none.
abbrev pub differ_at : (ℕ → ℕ) → (ℕ → ℕ) → ℕ → Bool
differ_at old new = λ i. not (eqb (old i) (new i))

unfoldable pub changed : ℕ → List ℕ → ℕ → ℕ → Bool
changed names states zero = λ i. false
changed names states (suc r) = differ_at (row_of names states r) (row_of names states (suc r))

-- the number whose bit i says whether i is in the set, for i below n
unfoldable pub mask : ℕ → (ℕ → Bool) → ℕ
mask zero p = 0
mask (suc n) p = (if p n then 2 ^ n else 0) + mask n p

unfoldable pub change_mask : ℕ → List ℕ → ℕ → ℕ
change_mask names states r = mask names (changed names states r)

unfoldable pub change_count : ℕ → List ℕ → ℕ → ℕ
change_count names states r = count names (changed names states r)

-- Totals: how many of the n rows have an answer, by its number: 1 yes, 0 no, 2 unknown
unfoldable pub total : (Boolean → ℕ → ℕ) → Vector → ℕ → ℕ → ℕ
total st p n a = count n (λ i. eqb (row_answer st p i) a)

pub record Totals (st : Boolean → ℕ → ℕ) (p : Vector) (n yes no unknown : ℕ) : Type 0 where
  pub yeses : yes ≡ total st p n 1
  pub noes : no ≡ total st p n 0
  pub unknowns : unknown ≡ total st p n 2

-- A correction stores the new states as row r; other rows stay. It rewrites the answers r to min(r+K, n-1), no others.
unfoldable pub corrected : ℕ → List ℕ → ℕ → List ℕ → List ℕ
corrected names states r new = take (r * names) states ++ (new ++ drop (r * names + names) states)

unfoldable pub last_rewritten : ℕ → ℕ → ℕ → ℕ
last_rewritten k n r = min (r + k) (n - 1)
