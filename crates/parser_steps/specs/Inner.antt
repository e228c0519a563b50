-- What the parser's single steps ask of the state s, and what they say of the state r that they return. They go over
-- codes cs and write numbers of tokens ns; ns' are the numbers behind the call, of which the first `len` are the nodes.
-- What is said of nodes is said for every list of places ps as long as cs.
--   token_at, picked          the token of a number; the tokens of some
--   view                     a state as what is left and what was written
--   next, counts, used       what comes next; how many codes are counted, and how many of those passed
--   Fine, Lent, Here, Moved  states over cs, at a token, and from one to another
--   Ranked, Stepped, Room, Emitted, Halted, Eats, Ate     a single step each
use Rattle.std.specs.Prelude.{ℕ, ◌+◌, ◌≤◌, ◌<◌, ◌≡◌, true, false, List, [], ◌∷◌, map, length, get_or, take, drop, set, if◌then◌else◌}
use Rattle.grammar.specs.declared.Token.{Token}
use Rattle.grammar.specs.Tokens.{Kind, other, kind, weight, tokens}
use Rattle.grammar.specs.Stops.{rank}
use Rattle.grammar.specs.Views.{View, going, stopped, eaten}
use Rattle.parser_steps.specs.declared.State.{State}

abbrev pub token_at : List ℕ → List ℕ → ℕ → Token
token_at cs ps k = record { code = get_or cs k 0; place = get_or ps k 0 }

abbrev pub picked : List ℕ → List ℕ → List ℕ → List Token
picked cs ps ns = map (token_at cs ps) ns

unfoldable pub view : List ℕ → List ℕ → State → List ℕ → View
view cs ps s ns =
    if s.ok then going (drop s.at (tokens cs ps)) (picked cs ps (take s.len ns))
    else stopped (drop s.at (tokens cs ps))

-- what comes next; other at the end and after a stop
abbrev pub first : List ℕ → Kind
first [] = other
first (c ∷ cs) = kind c

unfoldable pub next : List ℕ → State → Kind
next cs s = if s.ok then first (drop s.at cs) else other

-- the counted tokens, and those that were passed
unfoldable pub counts : List ℕ → ℕ
counts [] = 0
counts (c ∷ cs) = weight (kind c) + counts cs

unfoldable pub used : List ℕ → State → ℕ
used cs s = counts (take s.at cs)

-- a state over cs: there are at most as many nodes as counted tokens passed
pub record Fine (cs : List ℕ) (s : State) : Type 0 where
  pub inside : s.at ≤ length cs
  pub room : s.len ≤ used cs s
  pub small : counts cs ≤ 256

-- what a function is handed that may write nodes: such a state, and a list of 256 entries
pub record Lent (cs : List ℕ) (s : State) (ns : List ℕ) : Type 0 where
  pub fine : Fine cs s
  pub whole : length ns ≡ 256

-- s is at a token
pub record Here (cs : List ℕ) (s : State) : Type 0 where
  pub goes : s.ok ≡ true
  pub left : s.at < length cs

-- from s to r: further on, with at most as many nodes more as counted tokens
pub record Moved (cs : List ℕ) (s r : State) : Type 0 where
  pub fine : Fine cs r
  pub on : s.at ≤ r.at
  pub grown : r.len + used cs s ≤ s.len + used cs r

-- rank_at: the next token's rank
pub record Ranked (cs : List ℕ) (s : State) (k : ℕ) : Type 0 where
  pub is : k ≡ rank (next cs s)
  pub here : k < 99 → Here cs s

-- step: past one token
pub record Stepped (s r : State) : Type 0 where
  pub on : r.at ≡ s.at + 1
  pub same : r.len ≡ s.len
  pub goes : r.ok ≡ s.ok

-- emit: one node more
pub record Room (s : State) (ns : List ℕ) : Type 0 where
  pub below : s.len < 256
  pub whole : length ns ≡ 256

pub record Emitted (number : ℕ) (s : State) (ns : List ℕ) (r : State) (ns' : List ℕ) : Type 0 where
  pub on : r.at ≡ s.at
  pub grown : r.len ≡ s.len + 1
  pub goes : r.ok ≡ s.ok
  pub nodes : ns' ≡ set ns s.len number

-- stop: stopped here
pub record Halted (s r : State) : Type 0 where
  pub on : r.at ≡ s.at
  pub same : r.len ≡ s.len
  pub off : r.ok ≡ false

-- eat: past a token of rank k, or stopped
pub record Eats (cs : List ℕ) (s : State) (k : ℕ) : Type 0 where
  pub fine : Fine cs s
  pub known : k < 99

pub record Ate (cs : List ℕ) (k : ℕ) (s r : State) : Type 0 where
  pub moved : Moved cs s r
  pub is : (ps : List ℕ) → length ps ≡ length cs → (ns : List ℕ) → view cs ps r ns ≡ eaten k (view cs ps s ns)
