-- Document 01, refusals 18 and 12 of a list of names: what a call that is handed one checks first, in this order.
-- What a name and a good slot are stands in alf's Names; the rows of the table stand in alf's Refusals.
--   Slots, names_order          slots of 32 bytes, and the order of the checks
--   ChecksNames                what the call comes to
--   NameLength, Zeros, New     what the functions below it tell of a slot
use Rattle.std.specs.Prelude.{ℕ, ◌%◌, ◌/◌, ◌<◌, ◌≤◌, ◌≡◌, List, [], ◌∷◌, length, take, replicate}
use Rattle.alf.specs.Names.{until_zero, name_at}
use Rattle.basics.specs.Refusing.{Outcome}
use Rattle.alf.specs.Refusals.{Order, check, bad_lists, bad_slot, Comes}

-- slots of 32 bytes, 1 to 32 of them
pub record Slots (names : List ℕ) : Type 0 where
  pub whole : length names % 32 ≡ 0
  pub some : 1 ≤ length names / 32
  pub few : length names / 32 ≤ 32

-- 18, then 12
abbrev pub names_order : List ℕ → Order
names_order names = check 18 (bad_lists (Slots names)) ∷ check 12 (bad_slot names) ∷ []

-- the call: how many names there are
abbrev pub ChecksNames : List ℕ → Outcome → Type 0
ChecksNames names = Comes (names_order names) (λ k. k ≡ length names / 32)

-- n bytes stand before the first zero of a slot
pub record NameLength (slot : List ℕ) (n : ℕ) : Type 0 where
  pub name : take n slot ≡ until_zero slot
  pub within : n ≤ length slot

-- nothing but zeros
abbrev pub Zeros : List ℕ → Type 0
Zeros s = s ≡ replicate (length s) 0

-- no earlier slot holds the name of slot k
abbrev pub New : List ℕ → ℕ → Type 0
New names k = (j : ℕ) → j < k → name_at names j ≡ name_at names k → ⊥
