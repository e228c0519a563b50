-- What the functions inside ask of their callers, and what they give.
--   Naming, Halving, Pairing, Marking   a name, a half, two halves, any other sign is to be written, and has room
--   Spellable, Wording                  a sign that can be written; it is to be written
--   Lining, Lined                       the text of some signs is to be written; it is written
use Rattle.std.specs.Prelude.{ℕ, ◌+◌, ◌*◌, ◌≤◌, ◌<◌, List, length, get_or, take}
use Rattle.alf.specs.Names.{name_at}
use Rattle.basics.specs.Memory.{Put, Room}
use Rattle.spelling.specs.Spelled.{sign_spelled}
use Rattle.spelling.specs.Signs.{word, line_from}

-- a name of the list is to be written
pub record Naming (names : List ℕ) (i : ℕ) (out : List ℕ) (at : ℕ) : Type 0 where
  pub there : i * 32 + 32 ≤ length names
  pub room : Room out at (name_at names i)

-- a half, or two, of a literal or an edge
pub record Halving (h : ℕ) (out : List ℕ) (at : ℕ) (w : List ℕ) : Type 0 where
  pub known : h < 9
  pub room : Room out at w

pub record Pairing (f t : ℕ) (out : List ℕ) (at : ℕ) (w : List ℕ) : Type 0 where
  pub first : f < 9
  pub second : t < 9
  pub room : Room out at w

-- a sign that can be written: a name of the list, or a code of a token
pub record Spellable (names : List ℕ) (s : ℕ) : Type 0 where
  pub named : s < 32 → s * 32 + 32 ≤ length names
  pub known : s < 148
  pub apart : 54 ≤ s → 60 ≤ s

pub record Wording (names : List ℕ) (s : ℕ) (out : List ℕ) (at : ℕ) : Type 0 where
  pub sign : Spellable names s
  pub room : Room out at (word names s)

-- a code from 40 on, of a token that is no edge of two halves
pub record Marking (c : ℕ) (out : List ℕ) (at : ℕ) : Type 0 where
  pub low : 40 ≤ c
  pub known : c < 148
  pub apart : 54 ≤ c → 60 ≤ c
  pub unpaired : 64 ≤ c → 145 ≤ c
  pub room : Room out at (sign_spelled c)

-- the text of some signs is to be written
pub record Lining (names list : List ℕ) (count : ℕ) (out : List ℕ) : Type 0 where
  pub there : count ≤ length list
  pub signs : (i : ℕ) → i < count → Spellable names (get_or list i 0)
  pub room : Room out 0 (line_from names 0 (take count list))

abbrev pub Lined : List ℕ → List ℕ → ℕ → List ℕ → List ℕ → ℕ → Type 0
Lined names list count out out' r = Put out 0 (line_from names 0 (take count list)) out' r
