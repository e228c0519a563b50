-- The answers of alternatives at the rows of a block, from the columns of their tests.
--   Holding                             the columns hold the tests' answers on the events from some row on
--   StepAsked, StepMet                  the tests of a step, at m rows
--   AlternativeAsked, AlternativeMet    the steps of an alternative
--   TakeAsked, Taken                    one more alternative
--   Blank, BlockAsked, BlockMatched     all alternatives
-- What is promised holds for whatever tests the columns hold: the lists of a block do not say which.
use Rattle.std.specs.Prelude.{ℕ, ◌+◌, ◌*◌, ◌<◌, ◌≤◌, min, max, ◌≡◌, List, map, eqb, length, get_or, drop, if◌then◌else◌}
use Rattle.state_columns.specs.Entries.{Over}
use Rattle.columns.specs.Passes.{Counted}
use Rattle.alf.specs.Expressions.{Boolean}
use Rattle.alf.specs.Alternatives.{Test, test_at, step_at, at_row, best_of, tried}
use Rattle.alternatives.specs.InMemory.{cut, sum, step_in, alternative_in}

-- n events from row lo on: the answer of test t on event i is entry i of its column
pub record Holding (st : Boolean → ℕ → ℕ) (tests : List Test) (lo n : ℕ) (slots cols : List ℕ) : Type 0 where
  pub at : (t i : ℕ) (d : Test) → t < length tests → i < n
      → get_or cols (get_or slots t 0 * 1040 + i) 0 ≡ test_at st (lo + i) (get_or tests t d)

-- the q tests from t on, whose columns are there
pub record StepAsked (slots : List ℕ) (t q : ℕ) (cols : List ℕ) (d m : ℕ) (acc : List ℕ) : Type 0 where
  pub there : t + q ≤ length slots
  pub columns : (j : ℕ) → j < t + q → get_or slots j 0 * 1040 + 1040 ≤ length cols
  pub wide : d + m ≤ 1040
  pub room : m ≤ length acc
  pub small : (i : ℕ) → i < m → get_or acc i 0 ≤ 2

pub record StepMet (slots : List ℕ) (t q : ℕ) (cols : List ℕ) (d m : ℕ) (acc acc' : List ℕ) : Type 0 where
  pub long : length acc' ≡ length acc
  pub small : (i : ℕ) → i < m → get_or acc' i 0 ≤ 2
  pub is : (st : Boolean → ℕ → ℕ) (tests : List Test) (lo n : ℕ) → Holding st tests lo n slots cols
      → d + m ≤ n → t + q ≤ length tests → (i : ℕ) → i < m
      → get_or acc' i 0 ≡ min (get_or acc i 0) (step_at st (step_in tests t q) (lo + d + i))

-- the n steps from s on, whose tests start at t, at m rows, of which the first is 16 rows behind the first event
pub record AlternativeAsked (counts slots : List ℕ) (s n t : ℕ) (cols : List ℕ) (m : ℕ) (acc : List ℕ)
    : Type 0 where
  pub there : s + n ≤ length counts
  pub short : n ≤ 16
  pub tested : t + sum (drop s counts) ≤ length slots
  pub columns : (j : ℕ) → j < t + sum (drop s counts) → get_or slots j 0 * 1040 + 1040 ≤ length cols
  pub wide : m ≤ 1024
  pub room : m ≤ length acc

pub record AlternativeMet (counts slots : List ℕ) (s n t : ℕ) (cols : List ℕ) (m : ℕ) (acc acc' : List ℕ)
    : Type 0 where
  pub long : length acc' ≡ length acc
  pub small : (i : ℕ) → i < m → get_or acc' i 0 ≤ 2
  pub is : (st : Boolean → ℕ → ℕ) (tests : List Test) (lo w : ℕ) → Holding st tests lo w slots cols
      → m + 15 ≤ w → t + sum (drop s counts) ≤ length tests → (i : ℕ) → i < m
      → get_or acc' i 0 ≡ at_row st (lo + 16 + i) (alternative_in counts tests s t n)

-- one more alternative with the answers acc: where the best one so far is not yes it is tried
pub record TakeAsked (m : ℕ) (acc best tries : List ℕ) : Type 0 where
  pub room : m ≤ length acc
  pub counted : Counted tries m best

pub record Taken (m : ℕ) (acc best tries best' tries' : List ℕ) : Type 0 where
  pub best_is : Over best 0 m (λ i. max (get_or best i 0) (get_or acc i 0)) best'
  pub tries_is : Over tries 0 m (λ i. get_or tries i 0 + (if eqb (get_or best i 0) 2 then 0 else 1)) tries'

-- a list of zeros
pub record Blank (l : List ℕ) : Type 0 where
  pub at : (i : ℕ) → get_or l i 0 ≡ 0

-- all alternatives
pub record BlockAsked (steps counts slots cols : List ℕ) (m : ℕ) (acc best tries : List ℕ) : Type 0 where
  pub few : length steps ≤ 64
  pub short : (k : ℕ) → k < length steps → get_or steps k 0 ≤ 16
  pub enough_steps : sum steps ≤ length counts
  pub enough_tests : sum counts ≤ length slots
  pub columns : (j : ℕ) → j < sum counts → get_or slots j 0 * 1040 + 1040 ≤ length cols
  pub wide : m ≤ 1024
  pub acc_room : m ≤ length acc
  pub best_room : m ≤ length best
  pub tries_room : m ≤ length tries
  pub best_blank : Blank best
  pub tries_blank : Blank tries

pub record BlockMatched (steps counts slots cols : List ℕ) (m : ℕ) (best tries : List ℕ) : Type 0 where
  pub small : (i : ℕ) → i < m → get_or best i 0 ≤ 2
  pub few : (i : ℕ) → i < m → get_or tries i 0 ≤ 64
  pub best_is : (st : Boolean → ℕ → ℕ) (tests : List Test) (lo w : ℕ) → Holding st tests lo w slots cols
      → m + 15 ≤ w → sum counts ≤ length tests → (i : ℕ) → i < m
      → get_or best i 0 ≡ best_of st (cut steps (cut counts tests)) (lo + 16 + i)
  pub tries_is : (st : Boolean → ℕ → ℕ) (tests : List Test) (lo w : ℕ) → Holding st tests lo w slots cols
      → m + 15 ≤ w → sum counts ≤ length tests → (i : ℕ) → i < m
      → get_or tries i 0 ≡ tried (map (at_row st (lo + 16 + i)) (cut steps (cut counts tests)))
