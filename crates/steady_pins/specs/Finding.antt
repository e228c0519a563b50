-- How the steady pins of a tree are found: of the operands beside a part of a chain only two things matter, where the
-- row of steps next to the part has an edge on each name, and whether all of those steps change. That the pins so
-- found are those of document 02, [2] (alf/specs/Steady) is a law.
--   named, own                the place of an operand that is a plain name; the places of a step's plain names
--   alone, stepped            what is beside a part: nothing; a step, and then what is beside it
--   front, back               the row of steps that an expression's operands begin with, and end with
--   pin_entry, pin_row, step_marked    the pins of a step, between what is before it and what is after it
--   marked, pins_of            the pins of an expression, over others; those of a tree
--   Tree, StepAt              what is asked
use Rattle.std.specs.Prelude.{ℕ, ◌-◌, ◌*◌, ◌≤◌, ◌≡◌, true, ◌&&◌, List, eqb, length, get_or, set, replicate, if◌then◌else◌}
use Rattle.std.proofs.lemmas.List.Edits.{sets}
use Rattle.basics.specs.Words.{listed}
use Rattle.alf.specs.declared.Rules.{Rules}
use Rattle.alf.specs.Expressions.{Boolean, name, literal, negated, binary, choice}
use Rattle.alf.specs.Expressions.{Vector, edge, join, while, on_right, on_left}
use Rattle.alf.specs.Bytes.{boolean_bytes, vector_bytes}
use Rattle.alf.specs.Steady.{is_then, is_step_lem, moves}
use Rattle.trees.specs.Parts.{EndsVector, vector_at}
use Rattle.steady_pins.specs.declared.finding.Beside.{Beside}

-- for each name the place of an operand that is this name, 0 for none: an operand that ends at `place` over others
unfoldable pub named : ℕ → Boolean → List ℕ → List ℕ
named place (name n) l = set l n place
named place (literal s) l = l
named place (negated a) l = l
named place (binary o a b) l = l
named place (choice c a b) l = l

-- the plain names of a step that ends at `end`, the first edge on a name over others
unfoldable pub own : ℕ → Vector → List ℕ → List ℕ
own end (edge e c) l = named (end - 1) c l
own end (join j p q) l = own (end - 1 - length (vector_bytes q)) p (own (end - 1) q l)
own end (while s p c) l = l

abbrev pub alone : Beside
alone = record { places = replicate 32 0; changing = true }

abbrev pub stepped : ℕ → Vector → Beside → Beside
stepped end p r = record { places = own end p r.places; changing = moves p && r.changing }

unfoldable pub front : ℕ → Vector → Beside → Beside
front end (edge e c) r = stepped end (edge e c) r
front end (join j p q) r =
    if is_then j then front (end - 1 - length (vector_bytes q)) p (front (end - 1) q r)
    else if is_step_lem (join j p q) then stepped end (join j p q) r else alone
front end (while s p c) r = alone

unfoldable pub back : ℕ → Vector → Beside → Beside
back end (edge e c) r = stepped end (edge e c) r
back end (join j p q) r =
    if is_then j then back (end - 1) q (back (end - 1 - length (vector_bytes q)) p r)
    else if is_step_lem (join j p q) then stepped end (join j p q) r else alone
back end (while s p c) r = alone

-- one entry: none where the step has an edge on the name, else a place before the step or after it
unfoldable pub pin_entry : ℕ → ℕ → ℕ → ℕ
pin_entry before mine after = if eqb mine 0 then (if eqb before 0 then after else before) else 0

unfoldable pub pin_row : Beside → ℕ → Vector → Beside → List ℕ
pin_row before end p after =
    listed 0 32 (λ n.
    pin_entry (get_or before.places n 0) (get_or (own end p (replicate 32 0)) n 0) (get_or after.places n 0))

-- the pins of the step p that ends at `end`, over others: none if a step of its run does not change
unfoldable pub step_marked : Beside → ℕ → Vector → Beside → List ℕ → List ℕ
step_marked before end p after l =
    if before.changing && (moves p && after.changing) then sets l ((end - 1) * 32) (pin_row before end p after) else l

-- the pins of the expression that ends at `end`, over others
unfoldable pub marked : ℕ → Vector → Beside → Beside → List ℕ → List ℕ
marked end (edge e c) before after l = step_marked before end (edge e c) after l
marked end (join j p q) before after l =
    if is_then j
    then marked (end - 1) q (back (end - 1 - length (vector_bytes q)) p before) after
    (marked (end - 1 - length (vector_bytes q)) p before (front (end - 1) q after) l)
    else if is_step_lem (join j p q) then step_marked before end (join j p q) after l
    else marked (end - 1) q alone alone (marked (end - 1 - length (vector_bytes q)) p alone alone l)
marked end (while on_right p c) before after l = marked (end - 1 - length (boolean_bytes c)) p alone alone l
marked end (while on_left p c) before after l = marked (end - 1) p alone alone l

-- none where the rules have no steady pins
unfoldable pub pins_of : Rules → List ℕ → ℕ → ℕ → List ℕ
pins_of ρ tree names end =
    if ρ.steady_pins then marked end (vector_at tree names end) alone alone (replicate 8192 0) else replicate 8192 0

-- what is asked: a vector expression of at most 256 bytes; that it is a step
pub record Tree (tree : List ℕ) (names end : ℕ) : Type 0 where
  pub ends : EndsVector tree names end
  pub few : end ≤ 256

pub record StepAt (tree : List ℕ) (names end : ℕ) : Type 0 where
  pub is : Tree tree names end
  pub step : is_step_lem (vector_at tree names end) ≡ true
