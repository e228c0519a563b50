-- Where a match began, from the answer and the number tried: what the functions ask and promise. That it is the time of
-- document 02, [12] (alf/specs/Beginnings) is a law.
--   time_from, began_by              the time k rows before the row, k the steps of the alternative tried last
--   Took                           there is such an alternative, and there are as many rows
--   TimeAsked, BeganAsked, DateAsked, Dating     a row
--   began_of, MarksAsked, Marks     all rows, from the lists of answers and numbers tried
use Rattle.std.specs.Prelude.{None, Some}
use Rattle.std.specs.Prelude.{ℕ, ◌-◌, ◌<◌, ◌≤◌, ◌≡◌, Bool, true, List, eqb, length, get_or, if◌then◌else◌}
use Rattle.basics.specs.Words.{listed}
use Rattle.alf.specs.declared.Answer.{Answer}
use Rattle.alf.specs.Beginnings.{Began}
use Rattle.alf.specs.Answers.{number_of}
use Rattle.alf.specs.Beginnings.{is_given, time_of_lem}

abbrev pub time_from : List ℕ → List ℕ → ℕ → ℕ → ℕ
time_from times steps row tried = get_or times (row - get_or steps (tried - 1) 0) 0

unfoldable pub began_by : List ℕ → List ℕ → ℕ → Bool → ℕ → Began
began_by times steps row said tried = if said then Some (record { 0 = time_from times steps row tried }) else None

pub record Took (steps : List ℕ) (row tried : ℕ) : Type 0 where
  pub some : 0 < tried
  pub there : tried ≤ length steps
  pub room : get_or steps (tried - 1) 0 ≤ row

pub record TimeAsked (times steps : List ℕ) (row tried : ℕ) : Type 0 where
  pub there : row < length times
  pub some : 0 < tried
  pub alternative : tried ≤ length steps
  pub room : get_or steps (tried - 1) 0 ≤ row

pub record BeganAsked (times steps : List ℕ) (row : ℕ) (said : Bool) (tried : ℕ) : Type 0 where
  pub there : row < length times
  pub took : said ≡ true → Took steps row tried

pub record DateAsked (times steps : List ℕ) (row : ℕ) (answer : Answer) (tried : ℕ) : Type 0 where
  pub there : row < length times
  pub took : number_of answer ≡ 1 → Took steps row tried

pub record Dating (times steps : List ℕ) (row : ℕ) (answer : Answer) (tried : ℕ) (answer' : Answer) (tried' : ℕ)
    (began' : Began) : Type 0 where
  pub same : answer' ≡ answer
  pub count : tried' ≡ tried
  pub since : began' ≡ began_by times steps row (eqb (number_of answer) 1) tried

-- row r of all rows
abbrev pub began_of : List ℕ → List ℕ → List ℕ → List ℕ → ℕ → Began
began_of times steps answers tried r = began_by times steps r (eqb (get_or answers r 0) 1) (get_or tried r 0)

pub record MarksAsked (times steps : List ℕ) (n : ℕ) (answers tried given began : List ℕ) : Type 0 where
  pub few : n ≤ 65535
  pub times_all : n ≤ length times
  pub answers_all : n ≤ length answers
  pub tried_all : n ≤ length tried
  pub given_room : length given ≡ n
  pub began_room : length began ≡ n
  pub took : (r : ℕ) → r < n → get_or answers r 0 ≡ 1 → Took steps r (get_or tried r 0)

pub record Marks (times steps : List ℕ) (n : ℕ) (answers tried given' began' : List ℕ) : Type 0 where
  pub flags : given' ≡ listed 0 n (λ r. is_given (began_of times steps answers tried r))
  pub stamps : began' ≡ listed 0 n (λ r. time_of_lem (began_of times steps answers tried r))
