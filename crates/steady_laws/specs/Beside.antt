-- Document 02, [2], as code computes it: of the operands beside a part of a chain only two things matter, the names
-- with an edge in the row of steps next to it, and whether all of those steps change.
--   Beside, alone, stepped       these two things; where there is no step; a step, and then what is beside it
--   front, back                  the row that begins with a part of a chain, read forwards and backwards
--   held                         the names that get `?-` at a step
--   filled_beside                 a part of a chain, filled
-- That this is `filled` of alf/specs/Steady.antt is shown in proofs/Besides.antt.
use Rattle.std.specs.Prelude.{ℕ, Bool, true, false, not, ◌&&◌, ◌||◌, if◌then◌else◌}
use Rattle.alf.specs.Expressions.{Vector, edge, join, while}
use Rattle.alf.specs.Steady.{is_then, is_step_lem, moves, has_edge_on, kept}

pub record Beside : Type 0 where
  -- whether name n has an edge there
  pub names : ℕ → Bool
  -- whether every step there holds a changing edge
  pub changing : Bool

-- no step is beside
abbrev pub alone : Beside
alone = record { names = λ n. false; changing = true }

-- step p, and then what is beside it
abbrev pub stepped : Vector → Beside → Beside
stepped p r = record { names = λ n. has_edge_on n p || r.names n; changing = moves p && r.changing }

-- the row of steps that begins with the operands of p and goes on with what is beside p
unfoldable pub front : Vector → Beside → Beside
front (edge e c) r = stepped (edge e c) r
front (join j p q) r =
    if is_then j then front p (front q r) else if is_step_lem (join j p q) then stepped (join j p q) r else alone
front (while s p c) r = alone

-- the same, from the last operand of p backwards
unfoldable pub back : Vector → Beside → Beside
back (edge e c) r = stepped (edge e c) r
back (join j p q) r =
    if is_then j then back q (back p r) else if is_step_lem (join j p q) then stepped (join j p q) r else alone
back (while s p c) r = alone

-- the names that get `?-` at step p, between what is before it and what is after it
unfoldable pub held : Beside → Vector → Beside → ℕ → Bool
held before p after n =
    before.changing && (moves p && after.changing)
    && ((before.names n || (has_edge_on n p || after.names n)) && not (has_edge_on n p))

-- the part p of a chain, between what is before it and what is after it
unfoldable pub filled_beside : Beside → Beside → Vector → Vector
filled_beside before after (edge e c) = kept 32 (held before (edge e c) after) (edge e c)
filled_beside before after (join j p q) =
    if is_then j then join j (filled_beside before (front q after) p) (filled_beside (back p before) after q)
    else if is_step_lem (join j p q) then kept 32 (held before (join j p q) after) (join j p q)
    else join j (filled_beside alone alone p) (filled_beside alone alone q)
filled_beside before after (while s p c) = while s (filled_beside alone alone p) c
