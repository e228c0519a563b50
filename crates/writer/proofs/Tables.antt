-- The tables in the code, and the brackets that are needed.
--   code_table, level_table        an operator's token and level
--   bracket_none, bracket_some     a bracket is written exactly where it is needed
use Prim.Native.Nat.{ℕ, ◌+◌, ◌-◌, ◌<◌, ◌≤◌}
use native.Mathlib.Omega.{arith}
use mathlib.Core.Path.{◌≡◌, refl}
use mathlib.Core.Bool.{true}
use mathlib.Core.List.{List, [], ◌∷◌}
use lib.Dec.{eqb}
use lib.ListN.{get_or}
use borrow.Author.Tests.{eqb-true, le-leb, lt-leb}
use Rattle.grammar.specs.Tokens.{table, kind_in, kind}
use Rattle.basics.proofs.Ranges.{all_from, all_from_law}
use Rattle.writer.specs.Layout.{code_at, level_at, bracket}

-- the tables in the code
table_law : (xs : List ℕ) (f : ℕ → ℕ) (lo n b : ℕ)
    → all_from (λ c. eqb (get_or xs (c - lo) 0) (f c)) lo n ≡ true
    → lo ≤ b → b < lo + n → get_or xs (b - lo) 0 ≡ f b
table_law xs f lo n b t l u = eqb-true _ _ (all_from_law (λ c. eqb (get_or xs (c - lo) 0) (f c)) lo n b t l u)

abbrev codes : List ℕ
codes =
    40 ∷ 41 ∷ 42 ∷ 43 ∷ 44 ∷ 45 ∷ 46 ∷ 47 ∷ 48 ∷ 49 ∷ 50 ∷ 51 ∷ 52 ∷ 53 ∷ 40 ∷ 41 ∷
    40 ∷ 40 ∷ 40 ∷ 40 ∷ []

pub code_table : (b : ℕ) → 40 ≤ b → b < 60 → get_or codes (b - 40) 0 ≡ code_at b
unfolding code_at
code_table b l u = table_law codes code_at 40 20 b refl l (omega arith)

abbrev levels : List ℕ
levels =
    3 ∷ 5 ∷ 2 ∷ 2 ∷ 2 ∷ 2 ∷ 2 ∷ 2 ∷ 2 ∷ 2 ∷ 4 ∷ 4 ∷ 4 ∷ 4 ∷ 3 ∷ 5 ∷ 3 ∷ 3 ∷
    3 ∷ 3 ∷ []

pub level_table : (b : ℕ) → 40 ≤ b → b < 60 → get_or levels (b - 40) 0 ≡ level_at b
unfolding level_at code_at kind kind_in table
level_table b l u = table_law levels level_at 40 20 b refl l (omega arith)

-- a bracket that is not needed is not written
pub bracket_none : (b : ℕ) {l m : ℕ} → m ≤ l → bracket b l m ≡ []
unfolding bracket
bracket_none b {l} {m} h = rw (le-leb m l h)

pub bracket_some : (b : ℕ) {l m : ℕ} → l < m → bracket b l m ≡ b ∷ []
unfolding bracket
bracket_some b {l} {m} h = rw (lt-leb m l h)
