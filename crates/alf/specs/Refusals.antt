-- Document 01, "Numbers for refused work": a definition for each row of the table, and the outcome of a call as the
-- first of its order. A row says, for each place, whether the refusal is given there. Where it speaks of tokens,
-- expressions or records, what these are is a parameter: the crate that reads texts or files says it.
--   Row, At, First, FirstOf              a row of the table, by its kind of place
--   too_long (1), no_token (2), too_deep (3), too_many_tokens (4), no_grammar (5), unknown_name (6), wrong_sort (7),
--   over_limits (8), no_room (9), cannot_be (10), wrong_mark (11), bad_name and bad_slot (12), early_time,
--   not_above and early_row (13), Rising, cut_short (14), bad_code (15), wrong_count (16), bytes_after (17),
--   NameCount, RowCount and
--   bad_lists (18), no_such_row (19)
--   Check, Order, check                  a call's order of rows
--   numbers_of                            the numbers of an order, as document 01 has them in one sentence
--   Never, RefusedWith, Bare, RefusedBy    refused by the first row that holds, and no bytes shown
--   Passed, Comes                        passed; the outcome of a call
use Rattle.std.specs.Prelude.{Err, Ok}
use Rattle.std.specs.Prelude.{ℕ, ◌-◌, ◌/◌, ◌<◌, ◌≤◌, true, ◌⊎◌, ◌≡◌, List, [], ◌∷◌, length, get_or}
use Rattle.basics.specs.declared.Refusal.{Refusal}
use Rattle.basics.specs.Refusing.{Outcome}
use Rattle.alf.specs.Names.{GoodSlot}
use Rattle.alf.specs.Alternatives.{Alternative, over_limit}

abbrev pub Row : Type 1
Row = ℕ → Type 0

-- at one place, if something is so
pub record At (place : ℕ) (so : Type 0) (p : ℕ) : Type 0 where
  pub given : so
  pub there : p ≡ place

-- at the first place where something is so
pub record First (so : ℕ → Type 0) (p : ℕ) : Type 0 where
  pub given : so p
  pub before : (i : ℕ) → i < p → so i → ⊥

-- at the place of the first of some things, in their order, of which something is so
pub record FirstOf (so : ℕ → Type 0) (place : ℕ → ℕ) (p : ℕ) : Type 0 where
  pub which : ℕ
  pub first : First so which
  pub there : p ≡ place which

-- 1: text over 4,096 bytes, read or to be written; 4,096. Filled in tokens/specs/Texts and writer/specs/Writing.
abbrev pub too_long : ℕ → Row
too_long bytes = At 4096 (4096 < bytes)

-- 2: bytes that form no token; byte. Filled in tokens/specs/Texts.
abbrev pub no_token : (ℕ → Type 0) → Row
no_token formsNone = First formsNone

-- 3: brackets open more than 32 deep; byte. `depth` is how many are open behind the token at a byte.
-- Filled in tokens/specs/Texts.
abbrev pub too_deep : (ℕ → ℕ) → Row
too_deep depth = First (λ p. 32 < depth p)

-- 4: more than 256 tokens, brackets and `:` not counted; byte. `counted` is how many there are up to a token's byte.
-- Filled in tokens/specs/Texts.
abbrev pub too_many_tokens : (ℕ → ℕ) → Row
too_many_tokens counted = First (λ p. 256 < counted p)

-- 5: grammar; the first token with which no expression goes on; byte, or text length. Filled in reader/specs/Reading by
-- the grammar of grammar/specs/Grammar.
abbrev pub no_grammar : (ℕ → Type 0) → Row
no_grammar stuck = First stuck

-- 6: name not in the list handed in; byte. Filled in reader/specs/Reading.
abbrev pub unknown_name : (ℕ → Type 0) → Row
unknown_name unknown = First unknown

-- 7: sort; byte. The first faulty operator, operands before operator, left before right: counted in that order.
-- Filled in reader/specs/Reading by the sorts of sorting/specs/Sorts.
abbrev pub wrong_sort : (ℕ → Type 0) → (ℕ → ℕ) → Row
wrong_sort faulty byte = FirstOf faulty byte

-- 8: over 64 alternatives, 16 steps, or 64 tests in one alternative; 0. Filled in reader/specs/Reading.
abbrev pub over_limits : List Alternative → Row
over_limits xs = At 0 (over_limit xs ≡ true)

-- 9: output longer than the lent buffer; length needed. Of several outputs, the first short one.
-- Filled by each call that is lent a list to write to: writer/specs/Writing, trace_reader/specs/Reading,
-- trace_writer/specs/Writing, rewriting_calls/specs/Calls, contradictions/specs/Calls; for texts figures/specs/
-- Delivering.
abbrev pub no_room : ℕ → ℕ → Row
no_room needed room = At needed (room < needed)

-- 10: handed-in tree that no text gives, alternatives or a queue that cannot be; 0. A tree: acceptance/specs/Accepted;
-- alternatives: listed_acceptance/specs; a queue: queue_calls/specs/Pushing. Filled in judging/specs/Orders,
-- writer/specs/Writing and rewriting_calls/specs/Calls.
abbrev pub cannot_be : Type 0 → Row
cannot_be bad = At 0 bad

-- 11: wrong mark at this place, 33rd name, or 65,536th row; byte. `due` is that the mark there may stand there.
-- 11, 14, 16, 17, and 12, 13, 15 of a file, are filled in trace_format/specs/Records.
abbrev pub wrong_mark : ℕ → Type 0 → Row
wrong_mark byte due = At byte (due → ⊥)

-- 12: name empty, over 32, not a name, or a repeat; byte (of a file's name record), or index (of the first bad slot). A
-- slot of a list: filled in names/specs/Check.
abbrev pub bad_name : ℕ → Type 0 → Row
bad_name byte good = At byte (good → ⊥)

abbrev pub bad_slot : List ℕ → Row
bad_slot names = First (λ k. (k < length names / 32) × (GoodSlot names k → ⊥))

-- 13: time not above the last row's; byte (of a file's row record), or index r of a list of times. A
-- list: filled in trace_writer/specs/Writing.
abbrev pub early_time : ℕ → Type 0 → Row
early_time byte early = At byte early

abbrev pub not_above : List ℕ → ℕ → Row
not_above times r = At r ((0 < r) × (get_or times r 0 ≤ get_or times (r - 1) 0))

-- 13 of a trace that is handed in with its times (document 02, [12]): the first row that is so. Filled in
-- judging/specs/TimedOrders. Times that rise have none.
abbrev pub early_row : List ℕ → Row
early_row times = First (λ r. (r < length times) × ((0 < r) × (get_or times r 0 ≤ get_or times (r - 1) 0)))

abbrev pub Rising : List ℕ → Type 0
Rising times = (r : ℕ) → 0 < r → r < length times → get_or times (r - 1) 0 < get_or times r 0

-- 14: file ends inside a record or before `EN`; file length
abbrev pub cut_short : ℕ → Type 0 → Row
cut_short bytes ends = At bytes ends

-- 15: state code above 7; byte, or index: the first entry of a list that is so. A list: filled in judging/specs/Orders
-- and changes/specs/Call, row by row in trace_writer/specs/Writing.
abbrev pub bad_code : List ℕ → Row
bad_code states = First (λ i. (i < length states) × (7 < get_or states i 0))

-- 16: `EN` count wrong; byte
abbrev pub wrong_count : ℕ → ℕ → ℕ → Row
wrong_count byte counted rows = At byte (counted ≡ rows → ⊥)

-- 17: bytes after `EN`; byte
abbrev pub bytes_after : ℕ → ℕ → Row
bytes_after byte bytes = At byte (byte < bytes)

-- 18: not 1 to 32 names, or, where rows or answers are lent, lists not of exactly n entries, n from 1 to 65,535; 0.
-- Filled by each call: names/specs/Check for a list of names, judging/specs/Orders where rows are lent.
abbrev pub NameCount : ℕ → Type 0
NameCount k = (1 ≤ k) × (k ≤ 32)

abbrev pub RowCount : ℕ → Type 0
RowCount n = (1 ≤ n) × (n ≤ 65535)

abbrev pub bad_lists : Type 0 → Row
bad_lists good = At 0 (good → ⊥)

-- 19: row number not below n; 0. Filled in judging/specs/Orders and changes/specs/Call.
abbrev pub no_such_row : ℕ → ℕ → Row
no_such_row row n = At 0 (n ≤ row)

-- A call's order: its rows with their numbers, one after the other.
pub record Check : Type 1 where
  pub number : ℕ
  pub row : Row

abbrev pub Order : Type 1
Order = List Check

abbrev pub check : ℕ → Row → Check
check n r = record { number = n; row = r }

-- its numbers
unfoldable pub numbers_of : Order → List ℕ
numbers_of [] = []
numbers_of (c ∷ cs) = c.number ∷ numbers_of cs

-- nothing of the row holds anywhere
abbrev pub Never : Check → Type 0
Never c = (p : ℕ) → c.row p → ⊥

-- refused with number n at place p: the row of that number holds there, and no earlier row of the order holds anywhere
unfoldable pub RefusedWith : Order → ℕ → ℕ → Type 0
RefusedWith [] n p = ⊥
RefusedWith (c ∷ cs) n p = ((n ≡ c.number) × c.row p) ⊎ (Never c × RefusedWith cs n p)

-- it shows no bytes. This holds for every call but those that read a text: what these show is in tokens/specs/Extents.
abbrev pub Bare : Refusal → Type 0
Bare r = r.extent ≡ 0

-- a refusal of a call: its number and its place are these
pub record RefusedBy (order : Order) (r : Refusal) : Type 0 where
  pub by : RefusedWith order r.number r.place
  pub bare : Bare r

-- not refused
unfoldable pub Passed : Order → Type 0
Passed [] = Unit {0}
Passed (c ∷ cs) = Never c × Passed cs

-- the outcome of a call: done where no row of its order holds, with the count that is made; else refused
unfoldable pub Comes : Order → (ℕ → Type 0) → Outcome → Type 0
Comes order made (Ok k) = Passed order × made k
Comes order made (Err r) = RefusedBy order r
