-- Document 01, "Trace file", read from the bytes: the record behind k names and r rows, what it holds, and when it is
-- refused. "Record by record; mark (cut short it is 14), then 14, then contents in file order."
-- Document 02, "Longer times": `RL` may stand wherever `RW` may, and its time has eight bytes.
--   mark_of, mark_at_lem, number_at          a mark, the number of so many bytes
--   name_end, place, mark_here          where the names end, where a record starts, and its mark
--   name_in, width_in, time_in, codes_in  what the records hold
--   Due, size_of, GoodName, BadCode    what may stand there, how many bytes it has, what its contents must be
--   contents, marked_order, record_order     the order of the checks of a record
--   Good, GoodRow, Before             a good record; a file that begins with good ones
use Rattle.std.specs.Prelude.{ℕ, zero, suc, ◌+◌, ◌-◌, ◌*◌, ◌<◌, ◌≤◌, true, ◌≡◌, List, [], ◌∷◌, eqb, ◌&&◌, length, get_or, take, drop, if◌then◌else◌}
use Rattle.alf.specs.Names.{is_name}
use Rattle.alf.specs.Refusals.{Order, check, First, wrong_mark, bad_name, early_time, cut_short, wrong_count}
use Rattle.alf.specs.Refusals.{bytes_after, Passed}
use Rattle.trace_format.specs.declared.Mark.{Mark}
use Rattle.trace_format.specs.declared.Mark.TheVariants.{Name, Row, End, Other}

-- the mark at a place: of a row it tells how many bytes the time has, four behind `RW` and eight behind `RL`
unfoldable pub mark_of : ℕ → ℕ → Mark
mark_of a b =
    if eqb a 78 && eqb b 77 then Name else
    if eqb a 82 && eqb b 87 then Row 4 else
    if eqb a 82 && eqb b 76 then Row 8 else
    if eqb a 69 && eqb b 78 then End else Other

abbrev pub mark_at_lem : List ℕ → ℕ → Mark
mark_at_lem file p = mark_of (get_or file p 0) (get_or file (p + 1) 0)

unfoldable pub time_bytes : Mark → ℕ
time_bytes Name = 0
time_bytes (Row w) = w
time_bytes End = 0
time_bytes Other = 0

-- the number of so many bytes, low first
unfoldable pub number_at : ℕ → List ℕ → ℕ → ℕ
number_at zero file p = 0
number_at (suc w) file p = get_or file p 0 + 256 * number_at w file (p + 1)

-- where the first k names end, and where the record behind k names and r rows starts: a name has its mark, its length
-- byte and its bytes, a row its mark, its time and a code for each name
unfoldable pub name_end : List ℕ → ℕ → ℕ
name_end file zero = 0
name_end file (suc k) = name_end file k + 3 + get_or file (name_end file k + 2) 0

unfoldable pub place : List ℕ → ℕ → ℕ → ℕ
place file k zero = name_end file k
place file k (suc r) = place file k r + 2 + time_bytes (mark_at_lem file (place file k r)) + k

abbrev pub mark_here : List ℕ → ℕ → ℕ → Mark
mark_here file k r = mark_at_lem file (place file k r)

-- what the records hold: name k; time and codes of row r behind k names
unfoldable pub name_in : List ℕ → ℕ → List ℕ
name_in file k = take (get_or file (name_end file k + 2) 0) (drop (name_end file k + 3) file)

abbrev pub width_in : List ℕ → ℕ → ℕ → ℕ
width_in file k r = time_bytes (mark_here file k r)

unfoldable pub time_in : List ℕ → ℕ → ℕ → ℕ
time_in file k r = number_at (width_in file k r) file (place file k r + 2)

unfoldable pub codes_in : List ℕ → ℕ → ℕ → List ℕ
codes_in file k r = take k (drop (place file k r + 2 + width_in file k r) file)

-- One to 32 names, then one to 65,535 rows, then `EN`: what may stand behind k names and r rows
unfoldable pub Due : ℕ → ℕ → Mark → Type 0
Due k r Name = (r ≡ 0) × (k < 32)
Due k r (Row w) = (1 ≤ k) × (r < 65535)
Due k r End = 1 ≤ r
Due k r Other = ⊥

-- how many bytes the record has
unfoldable pub size_of : List ℕ → ℕ → ℕ → Mark → ℕ
size_of file k r Name = 3 + get_or file (place file k r + 2) 0
size_of file k r (Row w) = 2 + w + k
size_of file k r End = 6
size_of file k r Other = 2

-- a name, and no earlier one's
pub record GoodName (file : List ℕ) (k : ℕ) : Type 0 where
  pub named : is_name (name_in file k) ≡ true
  pub new : (j : ℕ) → j < k → name_in file j ≡ name_in file k → ⊥

-- a code above 7, of the k codes from a place on; of row r
pub record CodeAbove (file : List ℕ) (start k p : ℕ) : Type 0 where
  pub from : start ≤ p
  pub to : p < start + k
  pub above : 7 < get_or file p 0

abbrev pub BadCode : List ℕ → ℕ → ℕ → ℕ → Type 0
BadCode file k r = CodeAbove file (place file k r + 2 + width_in file k r) k

-- contents in file order: 12; 13 and 15; 16 and 17
unfoldable pub contents : List ℕ → ℕ → ℕ → Mark → Order
contents file k r Name = check 12 (bad_name (place file k r + 2) (GoodName file k)) ∷ []
contents file k r (Row w) =
    check 13 (early_time (place file k r + 2) ((1 ≤ r) × (time_in file k r ≤ time_in file k (r - 1))))
    ∷ check 15 (First (BadCode file k r))
    ∷ []
contents file k r End =
    check 16 (wrong_count (place file k r + 2) (number_at 4 file (place file k r + 2)) r)
    ∷ check 17 (bytes_after (place file k r + 6) (length file))
    ∷ []
contents file k r Other = []

-- a record of a known mark: 14 for a mark cut short, 11, 14, contents
abbrev pub marked_order : List ℕ → ℕ → ℕ → Mark → Order
marked_order file k r m =
    check 14 (cut_short (length file) (length file < place file k r + 2))
    ∷ check 11 (wrong_mark (place file k r) (Due k r m))
    ∷ check 14 (cut_short (length file) (length file < place file k r + size_of file k r m))
    ∷ contents file k r m

abbrev pub record_order : List ℕ → ℕ → ℕ → Order
record_order file k r = marked_order file k r (mark_here file k r)

-- the record behind k names and r rows is a good one of its kind
pub record Good (m : Mark) (file : List ℕ) (k r : ℕ) : Type 0 where
  pub mark : mark_here file k r ≡ m
  pub passed : Passed (record_order file k r)

-- a good row, of either kind
abbrev pub GoodRow : List ℕ → ℕ → ℕ → Type 0
GoodRow file k r = Good (Row (width_in file k r)) file k r

-- the file begins with k good names and r good rows
pub record Before (file : List ℕ) (k r : ℕ) : Type 0 where
  pub names : (j : ℕ) → j < k → Good Name file j 0
  pub rows : (i : ℕ) → i < r → GoodRow file k i
