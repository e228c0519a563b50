-- `put_line` meets its contract. The invariant: of the line the words of the first i signs are written.
use mathlib.Core.List.{[], ◌∷◌}
use Prim.Native.Nat.{◌≤◌}
use lib.ListN.{take, drop}
use Rattle.spelling.specs.Signs.{line_from}
use Rattle.basics.proofs.PartByPart.{Going}
use Rattle.spelling.proofs.spells.put_line.Given as goal

abbrev pub invariant-loop-i : goal.invariant-loop-i
invariant-loop-i l =
    (l.i ≤ l.count) ×
    Going l.initial.out 0 (line_from l.names 0 (take l.count l.list)) (line_from l.names l.i (drop l.i (take l.count l.list)) ∷ []) l.out l.at
