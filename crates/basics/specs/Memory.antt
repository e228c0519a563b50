-- What lent memory is afterwards.
--   front        what is made stands at the front, and behind it the list is as before
--   after        what a call has made of a list where it is done; where it is refused, the list as before
--   placed       what is made stands from a place on, and before and behind it the list is as before
--   Room, Roomy  from a place on there is room for a list
--   Put          a list is written from a place on, and the place behind it is told
--   Holds        the first entries of a list are these
use Rattle.std.specs.Prelude.{Err, Ok}
use Rattle.std.specs.Prelude.{ℕ, ◌+◌, ◌≤◌, ◌≡◌, List, ◌++◌, length, take, drop}
use Rattle.std.proofs.lemmas.List.Edits.{sets}
use Rattle.basics.specs.Refusing.{Outcome}

-- what is made stands at the front of a lent list, and behind it the list is as before
abbrev pub front : List ℕ → List ℕ → List ℕ
front made before = made ++ drop (length made) before

-- a lent list after a call: done, what was made of it; refused, it is as before
unfoldable pub after : List ℕ → List ℕ → Outcome → List ℕ
after made before (Ok k) = made
after made before (Err r) = before

-- w stands from place `at` of d on; what is before and behind it stays
unfoldable pub placed : List ℕ → ℕ → List ℕ → List ℕ
placed d at w = take at d ++ (w ++ drop (at + length w) d)

-- there is room for it
abbrev pub Room : List ℕ → ℕ → List ℕ → Type 0
Room out at w = at + length w ≤ length out

pub record Roomy (out : List ℕ) (at : ℕ) (w : List ℕ) : Type 0 where
  pub room : Room out at w

-- w is written from `at` on, and r is behind it; the others stay
pub record Put (out : List ℕ) (at : ℕ) (w out' : List ℕ) (r : ℕ) : Type 0 where
  pub bytes : out' ≡ sets out at w
  pub next : r ≡ at + length w

-- the first r entries of a list are these
pub record Holds (list : List ℕ) (r : ℕ) (w : List ℕ) : Type 0 where
  pub front : take r list ≡ w
  pub size : r ≡ length w
