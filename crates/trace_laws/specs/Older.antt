-- The trace file of document 01 alone, as the release before `RL` read it: three marks, and every row as long as
-- another.
-- What a name is and holds, and which mark may stand where, has not changed, and is that of trace_format.
--   mark_of, word_at, place                           two bytes as a mark, four as a number, where a record starts
--   time_in, codes_in, times_of, states_of              what rows hold
--   size_of, contents, marked_order, record_order      the order of the checks of a record
--   Good, Before, Accepted, FileRefused             a good record, good ones before; what the pass over a file comes to
use Rattle.std.specs.Prelude.{ℕ, zero, suc, ◌+◌, ◌-◌, ◌*◌, ◌<◌, ◌≤◌, ◌&&◌, ◌≡◌, List, [], ◌∷◌, ◌++◌, eqb, length, get_or, take, drop, if◌then◌else◌}
use Rattle.alf.specs.Refusals.{Order, check, First, wrong_mark, bad_name, early_time, cut_short, wrong_count}
use Rattle.alf.specs.Refusals.{bytes_after, RefusedWith, Passed}
use Rattle.trace_format.specs.declared.Mark.{Mark}
use Rattle.trace_format.specs.declared.Mark.TheVariants.{Name, Row, End, Other}
use Rattle.trace_format.specs.Records.{name_end, Due, GoodName, CodeAbove}

unfoldable pub mark_of : ℕ → ℕ → Mark
mark_of a b =
    if eqb a 78 && eqb b 77 then Name else
    if eqb a 82 && eqb b 87 then Row 4 else
    if eqb a 69 && eqb b 78 then End else Other

unfoldable pub word_at : List ℕ → ℕ → ℕ
word_at file p =
    get_or file p 0 + 256 * get_or file (p + 1) 0 + 65536 * get_or file (p + 2) 0 + 16777216 * get_or file (p + 3) 0

unfoldable pub place : List ℕ → ℕ → ℕ → ℕ
place file k r = name_end file k + r * (6 + k)

abbrev pub mark_here : List ℕ → ℕ → ℕ → Mark
mark_here file k r = mark_of (get_or file (place file k r) 0) (get_or file (place file k r + 1) 0)

unfoldable pub time_in : List ℕ → ℕ → ℕ → ℕ
time_in file k r = word_at file (place file k r + 2)

unfoldable pub codes_in : List ℕ → ℕ → ℕ → List ℕ
codes_in file k r = take k (drop (place file k r + 6) file)

-- of the first r rows
unfoldable pub times_of : List ℕ → ℕ → ℕ → List ℕ
times_of file k zero = []
times_of file k (suc r) = times_of file k r ++ (time_in file k r ∷ [])

unfoldable pub states_of : List ℕ → ℕ → ℕ → List ℕ
states_of file k zero = []
states_of file k (suc r) = states_of file k r ++ codes_in file k r

unfoldable pub size_of : List ℕ → ℕ → ℕ → Mark → ℕ
size_of file k r Name = 3 + get_or file (place file k r + 2) 0
size_of file k r (Row w) = 6 + k
size_of file k r End = 6
size_of file k r Other = 2

unfoldable pub contents : List ℕ → ℕ → ℕ → Mark → Order
contents file k r Name = check 12 (bad_name (place file k r + 2) (GoodName file k)) ∷ []
contents file k r (Row w) =
    check 13 (early_time (place file k r + 2) ((1 ≤ r) × (time_in file k r ≤ time_in file k (r - 1))))
    ∷ check 15 (First (CodeAbove file (place file k r + 6) k))
    ∷ []
contents file k r End =
    check 16 (wrong_count (place file k r + 2) (word_at file (place file k r + 2)) r)
    ∷ check 17 (bytes_after (place file k r + 6) (length file))
    ∷ []
contents file k r Other = []

abbrev pub marked_order : List ℕ → ℕ → ℕ → Mark → Order
marked_order file k r m =
    check 14 (cut_short (length file) (length file < place file k r + 2))
    ∷ check 11 (wrong_mark (place file k r) (Due k r m))
    ∷ check 14 (cut_short (length file) (length file < place file k r + size_of file k r m))
    ∷ contents file k r m

abbrev pub record_order : List ℕ → ℕ → ℕ → Order
record_order file k r = marked_order file k r (mark_here file k r)

pub record Good (m : Mark) (file : List ℕ) (k r : ℕ) : Type 0 where
  pub mark : mark_here file k r ≡ m
  pub passed : Passed (record_order file k r)

pub record Before (file : List ℕ) (k r : ℕ) : Type 0 where
  pub names : (j : ℕ) → j < k → Good Name file j 0
  pub rows : (i : ℕ) → i < r → Good (Row 4) file k i

pub record Accepted (file : List ℕ) (k n : ℕ) : Type 0 where
  pub before : Before file k n
  pub ends : Good End file k n

pub record FileRefused (file : List ℕ) (number p : ℕ) : Type 0 where
  pub names : ℕ
  pub rows : ℕ
  pub before : Before file names rows
  pub refused : RefusedWith (record_order file names rows) number p
