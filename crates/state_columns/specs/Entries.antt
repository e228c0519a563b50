-- Entries one after the other in a list, and what is made of them.
--   Over                               n entries from a place on are those of a rule; the others stay
--   Stated                             and they are states
--   States, NameRows, Two, Three       states from a place on; those of a name in a trace; two and three rows of states
--   name_rows, negated, operator_at, looked, operated, chosen_from     the rules
use Rattle.std.specs.Prelude.{ℕ, ◌+◌, ◌-◌, ◌*◌, ◌<◌, ◌≤◌, ◌/◌, ◌%◌, ◌≡◌, List, length, get_or}
use Rattle.std.proofs.lemmas.List.Edits.{sets}
use Rattle.basics.specs.Words.{listed}
use Rattle.alf.specs.declared.Rules.{Rules}
use Rattle.alf.specs.States.{not_of_lem}
use Rattle.alf.specs.Values.{operate, chosen}
use Rattle.alf.specs.Decoder.{binary_at}
use Rattle.evaluator.specs.Rows.{settled_by}

pub record Over (l : List ℕ) (at n : ℕ) (f : ℕ → ℕ) (l' : List ℕ) : Type 0 where
  pub is : l' ≡ sets l at (listed 0 n f)

pub record Stated (l : List ℕ) (at n : ℕ) (s : ℕ → ℕ) (l' : List ℕ) : Type 0 where
  pub over : Over l at n s l'
  pub codes : (i : ℕ) → i < n → s i < 8

-- n states from `at` on
pub record States (l : List ℕ) (at n : ℕ) : Type 0 where
  pub room : at + n ≤ length l
  pub codes : (i : ℕ) → i < n → get_or l (at + i) 0 < 8

-- the states of name b at n rows of a trace from lo on, to be written from o on
pub record NameRows (b : ℕ) (states : List ℕ) (names lo n : ℕ) (parts : List ℕ) (o : ℕ) : Type 0 where
  pub few : lo + n ≤ 65535
  pub there : (i : ℕ) → i < n → (lo + i) * names + b < length states
  pub codes : (i : ℕ) → i < n → get_or states ((lo + i) * names + b) 0 < 8
  pub room : o + n ≤ length parts

-- n states from o on, and behind them n from p on; and n from q on
pub record Two (l : List ℕ) (o p n : ℕ) : Type 0 where
  pub first : States l o n
  pub second : States l p n
  pub apart : o + n ≤ p

pub record Three (l : List ℕ) (o p q n : ℕ) : Type 0 where
  pub first : States l o n
  pub second : States l p n
  pub third : States l q n
  pub apart : o + n ≤ p
  pub behind : o + n ≤ q

-- of name b at rows of a trace; the negations of those from o on; by operator b, entry 8 x + y of its table
abbrev pub name_rows : ℕ → List ℕ → ℕ → ℕ → ℕ → ℕ
name_rows b states names lo = λ i. get_or states ((lo + i) * names + b) 0

abbrev pub negated : List ℕ → ℕ → ℕ → ℕ
negated l o = λ i. not_of_lem (get_or l (o + i) 0)

abbrev pub operator_at : ℕ → ℕ → ℕ
operator_at b = λ q. operate (binary_at (b - 40)) (q / 8) (q % 8)

-- what a table has for those from o on and from p on; what operator b makes of them; what a choice makes of three,
-- whose branches have the last bytes x and y
abbrev pub looked : List ℕ → List ℕ → ℕ → ℕ → ℕ → ℕ
looked table l o p = λ i. get_or table (8 * get_or l (o + i) 0 + get_or l (p + i) 0) 0

abbrev pub operated : ℕ → List ℕ → ℕ → ℕ → ℕ → ℕ
operated b l o p = λ i. operate (binary_at (b - 40)) (get_or l (o + i) 0) (get_or l (p + i) 0)

abbrev pub chosen_from : Rules → ℕ → ℕ → List ℕ → ℕ → ℕ → ℕ → ℕ → ℕ
chosen_from ρ x y l o p q =
    λ i. chosen ρ (get_or l (o + i) 0) (settled_by x (get_or l (p + i) 0)) (settled_by y (get_or l (q + i) 0))
