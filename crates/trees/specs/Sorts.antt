-- Document 01, "Sorts", for trees: the kind of expression that the bytes before a place end with, and what a tree is.
-- A kind is a sort, or none.
--   kind_of, whole_kind, tree_kind          the kind of what is on top of a stack, of a whole stack, of a tree
--   boolean_sort, vector_sort, given        tests of a sort; a kind by a test
--   leaf_kind, one_kind, pair_kind, three_kind   the kind that a byte makes of its operands' sorts
--   made_sort, made, Operator             what an operator makes
--   Ending                                what the bytes before a place end with, and where that starts
--   Holds                                which expressions something holds of, by the kind
use Rattle.std.specs.Prelude.{ℕ, ◌-◌, ◌≡◌, ◌<◌, ◌≤◌, Bool, true, false, ◌&&◌, Option, Some, None, List, eqb, ltb, length}
use Rattle.std.specs.Prelude.{get_or, if◌then◌else◌}
use Rattle.alf.specs.declared.Sort.{Sort}
use Rattle.alf.specs.declared.Sort.TheVariants as sort
use Rattle.alf.specs.Expressions.{Expression, boolean, vector}
use Rattle.alf.specs.Expressions as expressions
use Rattle.alf.specs.Decoder.{Stack, empty, broken, push, stack_at}
use Rattle.trees.specs.declared.sorts.Part.{Part}
use Rattle.trees.specs.Parts.{Start}

-- the sort of what is on top; none where that is no whole expression
unfoldable pub kind_of : Stack → Option Sort
kind_of empty = None
kind_of broken = None
kind_of (push (boolean c) s) = Some sort.Boolean
kind_of (push (vector p) s) = Some sort.Vector

unfoldable pub boolean_sort : Sort → Bool
boolean_sort sort.Boolean = true
boolean_sort sort.Vector = false

unfoldable pub vector_sort : Sort → Bool
vector_sort sort.Boolean = false
vector_sort sort.Vector = true

-- a kind that is given by its operands
unfoldable pub given : Bool → Sort → Option Sort
given so kind = if so then Some kind else None

-- names and literals are boolean
unfoldable pub leaf_kind : ℕ → ℕ → Option Sort
leaf_kind names b = if ltb b 32 then (if ltb b names then Some sort.Boolean else None) else Some sort.Boolean

-- an edge takes a boolean and gives a vector; `!` takes a boolean
unfoldable pub one_kind : ℕ → Sort → Option Sort
one_kind b right =
    if ltb b 147 then given (boolean_sort right) sort.Vector
    else if eqb b 147 then given (boolean_sort right) sort.Boolean else None

-- boolean operators take two booleans; level 4 takes two vectors, `|` and `&` two of one sort; a condition is boolean
unfoldable pub pair_kind : ℕ → Sort → Sort → Option Sort
pair_kind b left right =
    if ltb b 50 then given (boolean_sort right && boolean_sort left) sort.Boolean
    else if ltb b 56 then given (vector_sort right && vector_sort left) sort.Vector
    else if eqb b 56 then given (boolean_sort right && vector_sort left) sort.Vector
    else if eqb b 57 then given (vector_sort right && boolean_sort left) sort.Vector else None

-- the ternary takes booleans
unfoldable pub three_kind : ℕ → Sort → Sort → Sort → Option Sort
three_kind b first left right =
    if eqb b 60 then given (boolean_sort right && (boolean_sort left && boolean_sort first)) sort.Boolean else None

-- an operator makes one sort, whatever its operands are: joins and edges make vectors
unfoldable pub made_sort : ℕ → Sort
made_sort b =
    if ltb b 50 then sort.Boolean
    else if eqb b 60 then sort.Boolean else if eqb b 147 then sort.Boolean else sort.Vector

-- what an operator makes, from where it starts
abbrev pub made : ℕ → Option ℕ → Option Part
made b None = None
made b (Some start) = Some (record { sort = made_sort b; start = start })

-- the last byte before `end` is an operator
pub record Operator (tree : List ℕ) (end : ℕ) : Type 0 where
  pub some : 0 < end
  pub within : end ≤ length tree
  pub takes : 40 ≤ get_or tree (end - 1) 0

-- what the bytes before `end` end with, and where it starts
pub data Ending (tree : List ℕ) (names end : ℕ) : Option Part → Type 0 where
  nothing : kind_of (stack_at tree names end) ≡ None → Ending tree names end None
  part : {p : Part} → Some p.sort ≡ kind_of (stack_at tree names end) → Start tree names end p.start
      → Ending tree names end (Some p)

-- what a tree is: one expression and nothing else
unfoldable pub whole_kind : Stack → Option Sort
whole_kind empty = None
whole_kind broken = None
whole_kind (push e (push f s)) = None
whole_kind (push e broken) = None
whole_kind (push (boolean c) empty) = Some sort.Boolean
whole_kind (push (vector p) empty) = Some sort.Vector

unfoldable pub tree_kind : List ℕ → ℕ → Option Sort
tree_kind tree names = whole_kind (stack_at tree names (length tree))

-- the kind says which expressions something holds of: of a boolean one, of a vector one, of none
unfoldable pub Holds : Option Sort → (Expression → Type 0) → Type 0
Holds (Some sort.Boolean) P = (c : expressions.Boolean) × P (boolean c)
Holds (Some sort.Vector) P = (p : expressions.Vector) × P (vector p)
Holds None P = (e : Expression) → P e → ⊥
