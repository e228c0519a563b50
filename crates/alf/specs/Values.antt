-- Document 01, "States and values": the value and the state of a boolean expression at a row of a trace.
-- A row is the function from a name's number to its recorded state. `ρ` is the rules of evaluation (document 02, [9]):
-- only `chosen` looks at them, and all others hand them on whole.
--   old_rules_lem, new_rules           document 01's rules; those with the branches' value where it is the same
--   operate, unresolved, chosen  an operator on two states; a ternary of an unknown choice; the ternary
--   value, recorded_or, state     the value of an expression at a row; for a name the recorded state; its state
--   row_of, value_at, state_at      a row of a trace; value and state there
use Rattle.std.specs.Prelude.{ℕ, ◌+◌, ◌*◌, true, false, ◌&&◌, List, eqb, get_or, if◌then◌else◌}
use Rattle.alf.specs.declared.Rules.{Rules}
use Rattle.alf.specs.States.{X, reduce, not_of_lem, and_of, or_of, xor_of, xnor_of, relations, at_least, at_most}
use Rattle.alf.specs.Expressions.{Boolean, name, literal, negated, binary, choice}
use Rattle.alf.specs.Expressions.{Binary, and, or, xor, xnor, equals, differs, above, below, is_at_least, is_at_most}

-- an operator on two states
unfoldable pub operate : Binary → ℕ → ℕ → ℕ
operate and x y = and_of x y
operate or x y = or_of x y
operate xor x y = xor_of x y
operate xnor x y = xnor_of x y
operate equals x y = (relations x y).equal
operate differs x y = (relations x y).unequal
operate above x y = (relations x y).greater
operate below x y = (relations x y).less
operate is_at_least x y = at_least x y
operate is_at_most x y = at_most x y

-- document 01's rules, and those of document 02, [9]
abbrev pub old_rules_lem : Rules
old_rules_lem = record { equal_branches = false; steady_pins = false }

abbrev pub new_rules : Rules
new_rules = record { equal_branches = true; steady_pins = false }

-- `c ? a : b` where c reduces to X: X; by document 02, [9], "if both branches have the same value, that value is the
-- result"
unfoldable pub unresolved : Rules → ℕ → ℕ → ℕ
unresolved ρ x y = if eqb x y && ρ.equal_branches then x else X

-- `c ? a : b` gives the value of a or b, where c does not reduce to X
unfoldable pub chosen : Rules → ℕ → ℕ → ℕ → ℕ
chosen ρ c x y = if eqb (reduce c) X then unresolved ρ x y else if eqb (reduce c) 1 then x else y

-- Each boolean expression has a value: a name gives its reduced state; a literal gives itself; `c ? a : b` gives the
-- value of a or b, and X where c reduces to X; every other operator gives 0, 1 or X. It also has a state: for a name
-- the recorded state, else its value. An operator of two works on states; `& | ^ ~^` reduce them.
unfoldable pub recorded_or : (ℕ → ℕ) → Boolean → ℕ → ℕ
recorded_or row (name i) v = row i
recorded_or row (literal l) v = v
recorded_or row (negated a) v = v
recorded_or row (binary o a b) v = v
recorded_or row (choice c a b) v = v

unfoldable pub value : Rules → (ℕ → ℕ) → Boolean → ℕ
value ρ row (name i) = reduce (row i)
value ρ row (literal l) = l
value ρ row (negated a) = not_of_lem (value ρ row a)
value ρ row (binary o a b) = operate o (recorded_or row a (value ρ row a)) (recorded_or row b (value ρ row b))
value ρ row (choice c a b) = chosen ρ (value ρ row c) (value ρ row a) (value ρ row b)

unfoldable pub state : Rules → (ℕ → ℕ) → Boolean → ℕ
state ρ row e = recorded_or row e (value ρ row e)

-- row i of a trace of some names, whose states are one list, row by row
abbrev pub row_of : ℕ → List ℕ → ℕ → ℕ → ℕ
row_of names states i = λ n. get_or states (i * names + n) 0

-- the value, and the state, of an expression at row i of a trace
abbrev pub value_at : Rules → ℕ → List ℕ → Boolean → ℕ → ℕ
value_at ρ names states = λ e i. value ρ (row_of names states i) e

abbrev pub state_at : Rules → ℕ → List ℕ → Boolean → ℕ → ℕ
state_at ρ names states = λ e i. state ρ (row_of names states i) e
