-- Document 01, "Trace writing: 18, 12, then 13 and 15 row by row, 9", and what writing leaves in memory.
--   AllLists, BadState      what 18 and 15 look at
--   lent_order, rows_order    the order of the lists as they are lent, and of some of the rows
--   lists_order              the order of a trace in lists, whatever is made of it
--   ChecksLists, ChecksTrace   what the checks of the lists, and of a trace in lists, come to
--   write_order              the order of the whole call
--   Writes                  what the call comes to, and the buffer afterwards
use Rattle.std.specs.Prelude.{ℕ, zero, suc, ◌+◌, ◌*◌, ◌<◌, ◌≤◌, ◌≡◌, List, [], ◌∷◌, ◌++◌, length, get_or}
use Rattle.alf.specs.Names.{names_in}
use Rattle.basics.specs.Refusing.{Outcome}
use Rattle.alf.specs.Refusals.{Order, check, First, bad_lists, bad_slot, not_above, no_room, Comes}
use Rattle.names.specs.Check.{Slots}
use Rattle.trace_format.specs.Format.{Lists, file_of}
use Rattle.basics.specs.Memory.{after, front}

-- 1 to 32 slots, and lists of exactly n entries
pub record AllLists (names times states : List ℕ) (n : ℕ) : Type 0 where
  pub slots : Slots names
  pub lists : Lists names times states n

-- state i, of row r, is above 7
pub record BadState (k : ℕ) (states : List ℕ) (r i : ℕ) : Type 0 where
  pub from : r * k ≤ i
  pub to : i < r * k + k
  pub above : 7 < get_or states i 0

-- 18, 12
abbrev pub lent_order : List ℕ → List ℕ → List ℕ → ℕ → Order
lent_order names times states n =
    check 18 (bad_lists (AllLists names times states n)) ∷ check 12 (bad_slot names) ∷ []

-- 13 and 15 row by row, of r rows from row `first` on
unfoldable pub rows_order : ℕ → List ℕ → List ℕ → ℕ → ℕ → Order
rows_order k times states first zero = []
rows_order k times states first (suc r) =
    rows_order k times states first r
    ++ (check 13 (not_above times (first + r)) ∷ check 15 (First (BadState k states (first + r))) ∷ [])

-- 18, 12, then 13 and 15 row by row: what every call asks first that is handed a trace in lists
abbrev pub lists_order : List ℕ → List ℕ → List ℕ → ℕ → Order
lists_order names times states n =
    lent_order names times states n ++ rows_order (names_in names) times states 0 n

-- what the checks of the lists, and of a trace in lists, come to: how many names
abbrev pub ChecksLists : List ℕ → List ℕ → List ℕ → ℕ → Outcome → Type 0
ChecksLists names times states n = Comes (lent_order names times states n) (λ k. k ≡ names_in names)

abbrev pub ChecksTrace : List ℕ → List ℕ → List ℕ → ℕ → Outcome → Type 0
ChecksTrace names times states n = Comes (lists_order names times states n) (λ k. k ≡ names_in names)

-- then 9
abbrev pub write_order : List ℕ → List ℕ → List ℕ → ℕ → ℕ → Order
write_order names times states n room =
    lists_order names times states n ++ (check 9 (no_room (length (file_of names times states n)) room) ∷ [])

pub record Writes (names times states : List ℕ) (n : ℕ) (out out' : List ℕ) (r : Outcome) : Type 0 where
  pub outcome :
      Comes (write_order names times states n (length out)) (λ m. m ≡ length (file_of names times states n)) r
  pub memory : out' ≡ after (front (file_of names times states n) out) out r
