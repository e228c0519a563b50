-- For the functions inside: the sort pass as a run over the nodes of a tree with a stack of expressions. That a run
-- over a tree's nodes comes to `sorted` is a law.
--   Run, settled, takes_one, takes_two, takes_three, applied, stepped, run     the run, node by node
--   is_node, is_vector, sorts_of, stack_bytes       the codes of nodes; the sorts and the bytes of a stack
--   Shows, Fine, Moved                          what the code has at hand shows a run
--   pair_byte, sort_at, leaf_byte, leaf_in          bytes and sorts that the code computes
--   Deep, Room, Put, Ready, Took, Asked, Stepped, Halted, Started     a single step each
--   Named, Listed, Handed, Shown                the lookup of a name, some tokens, the nodes of a tree, the whole pass
use Rattle.std.specs.Prelude.{ℕ, ◌-◌, ◌+◌, ◌≤◌, ◌<◌, ◌≡◌, Bool, true, false, ◌||◌, List, [], ◌∷◌, ◌++◌, eqb, ltb, length, take, get_or, if◌then◌else◌}
use Rattle.alf.specs.Names.{names_in, between}
use Rattle.alf.specs.Expressions.{Expression, boolean, vector}
use Rattle.alf.specs.Bytes.{bytes_of}
use Rattle.grammar.specs.declared.Token.{Token}
use Rattle.grammar.specs.Answers.{padded, handed}
use Rattle.sorting.specs.declared.sorts.Sorting.{Sorting}
use Rattle.sorting.specs.Lookup.{number_at}
use Rattle.sorting.specs.Sorts.{Sorted, is, faulty, atom, of_one, of_two, of_three}

-- a run goes on with some expressions, the last made first; or it stopped at a place
pub data Run : Type 0 where
  going : List Expression → Run
  stopped : ℕ → Run

-- what an operator made
unfoldable pub settled : Sorted → List Expression → Run
settled (is x) xs = going (x ∷ xs)
settled (faulty p) xs = stopped p

unfoldable pub takes_one : Token → List Expression → Run
takes_one t [] = stopped t.place
takes_one t (x ∷ xs) = settled (of_one t x) xs

unfoldable pub takes_two : Token → List Expression → Run
takes_two t [] = stopped t.place
takes_two t (y ∷ []) = stopped t.place
takes_two t (y ∷ x ∷ xs) = settled (of_two t x y) xs

unfoldable pub takes_three : Token → List Expression → Run
takes_three t [] = stopped t.place
takes_three t (y ∷ []) = stopped t.place
takes_three t (y ∷ x ∷ []) = stopped t.place
takes_three t (y ∷ x ∷ z ∷ xs) = settled (of_three t z x y) xs

-- by its code a node takes no operand, two, three or one
unfoldable pub applied : (ℕ → ℕ) → Token → List Expression → Run
applied number t xs =
    if ltb t.code 40 then going (boolean (atom number t) ∷ xs)
    else if ltb t.code 60 then takes_two t xs
    else if ltb t.code 64 then takes_three t xs
    else takes_one t xs

unfoldable pub stepped : (ℕ → ℕ) → Token → Run → Run
stepped number t (going xs) = applied number t xs
stepped number t (stopped p) = stopped p

unfoldable pub run : (ℕ → ℕ) → List Token → Run → Run
run number [] v = v
run number (t ∷ ts) v = run number ts (stepped number t v)

-- the codes of nodes
unfoldable pub is_node : ℕ → Bool
is_node c = eqb c 0 || (between 32 53 c || (eqb c 60 || between 64 147 c))

-- whether an expression is a vector
unfoldable pub is_vector : Expression → Bool
is_vector (boolean c) = false
is_vector (vector p) = true

-- the sorts and the bytes of the expressions of a stack, the last made last
unfoldable pub sorts_of : List Expression → List Bool
sorts_of [] = []
sorts_of (x ∷ xs) = sorts_of xs ++ (is_vector x ∷ [])

unfoldable pub stack_bytes : List Expression → List ℕ
stack_bytes [] = []
stack_bytes (x ∷ xs) = stack_bytes xs ++ bytes_of x

-- what the code has at hand shows a run
pub data Shows (s : Sorting) : Run → Type 0 where
  goes :
      {xs : List Expression} →
      s.ok ≡ true →
      s.depth ≡ length xs →
      take s.depth s.sorts ≡ sorts_of xs →
      s.len ≡ length (stack_bytes xs) →
      s.tree ≡ padded (stack_bytes xs) →
      Shows s (going xs)
  stops : s.ok ≡ false → Shows s (stopped s.place)

-- arrays of 256 entries, and at most as many expressions as bytes
pub record Fine (s : Sorting) : Type 0 where
  pub sorts_whole : length s.sorts ≡ 256
  pub tree_whole : length s.tree ≡ 256
  pub deep : s.depth ≤ s.len
  pub small : s.len ≤ 256

-- from s to r: one byte more at most
pub record Moved (s r : Sorting) : Type 0 where
  pub fine : Fine r
  pub grown : r.len ≤ s.len + 1

-- the byte of an operator of two by the sorts of its operands; 255 where it does not take them
unfoldable pub pair_byte : ℕ → Bool → Bool → ℕ
pair_byte c false false = if ltb c 50 then c else 255
pair_byte c true true = if eqb c 40 then 54 else if eqb c 41 then 55 else if ltb c 50 then 255 else c
pair_byte c true false = if eqb c 40 then 56 else 255
pair_byte c false true = if eqb c 40 then 57 else 255

-- the sort k places below the last made
unfoldable pub sort_at : Sorting → ℕ → Bool
sort_at s k = get_or s.sorts (s.depth - 1 - k) false

pub record Deep (s : Sorting) (k : ℕ) : Type 0 where
  pub fine : Fine s
  pub there : k < s.depth

-- put: `down` expressions go, and one comes, with one byte more
pub record Room (s : Sorting) (down : ℕ) : Type 0 where
  pub fine : Fine s
  pub there : down ≤ s.depth
  pub spare : s.len < 256
  pub goes : s.ok ≡ true

pub record Put (s : Sorting) (down : ℕ) (v : Bool) (b : ℕ) (r : Sorting) : Type 0 where
  pub moved : Moved s r
  pub puts :
      (ys xs : List Expression) (z : Expression) →
      length ys ≡ down →
      Shows s (going (ys ++ xs)) →
      is_vector z ≡ v →
      bytes_of z ≡ stack_bytes ys ++ (b ∷ []) →
      Shows r (going (z ∷ xs))

-- an operator whose code is in a range: asked with room for a byte, in a run that goes on
pub record Ready (s : Sorting) (c lo hi : ℕ) : Type 0 where
  pub fine : Fine s
  pub spare : s.len < 256
  pub goes : s.ok ≡ true
  pub known : is_node c ≡ true
  pub low : lo ≤ c
  pub high : c < hi

pub record Took (takes : List Expression → Run) (s r : Sorting) : Type 0 where
  pub moved : Moved s r
  pub does : (xs : List Expression) → Shows s (going xs) → Shows r (takes xs)

-- a node: the byte of a name is its number
unfoldable pub leaf_byte : (ℕ → ℕ) → Token → ℕ
leaf_byte number t = if eqb t.code 0 then number t.place else t.code

abbrev pub leaf_in : List ℕ → List ℕ → Token → ℕ
leaf_in names text t = leaf_byte (number_at names text) t

pub record Asked (s : Sorting) (c : ℕ) : Type 0 where
  pub fine : Fine s
  pub spare : s.len < 256
  pub known : is_node c ≡ true

pub record Stepped (t : Token) (b : ℕ) (s r : Sorting) : Type 0 where
  pub moved : Moved s r
  pub does : (number : ℕ → ℕ) → b ≡ leaf_byte number t → (v : Run) → Shows s v
      → Shows r (stepped number t v)

pub record Halted (place : ℕ) (s r : Sorting) : Type 0 where
  pub moved : Moved s r
  pub stopped_is : r.ok ≡ false
  pub place_is : r.place ≡ place

-- the lookup of a name at a place: inside the text, and with numbers that are bytes
pub record Named (names text : List ℕ) (place : ℕ) : Type 0 where
  pub few : names_in names ≤ 32
  pub inside : place ≤ length text

-- some tokens of a text
pub record Listed (text codes places : List ℕ) (count : ℕ) : Type 0 where
  pub codes_hold : count ≤ length codes
  pub places_hold : count ≤ length places
  pub inside : (i : ℕ) → i < count → get_or places i 0 ≤ length text

-- the nodes of a tree of a text
pub record Handed (names text codes places : List ℕ) (len : ℕ) : Type 0 where
  pub few : names_in names ≤ 32
  pub short : len ≤ 256
  pub listed : Listed text codes places len
  pub known : (i : ℕ) → i < len → is_node (get_or codes i 0) ≡ true

pub record Started (r : Sorting) : Type 0 where
  pub fine : Fine r
  pub none : r.len ≡ 0
  pub shows : Shows r (going [])

pub record Shown (names text codes places : List ℕ) (len : ℕ) (r : Sorting) : Type 0 where
  pub fine : Fine r
  pub shows : Shows r (run (number_at names text) (handed codes places len) (going []))
