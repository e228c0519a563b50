-- `spelling::spell_rows` meets its contract. The loop's invariant: the states so far are written.
use Prim.Native.Nat.{◌*◌}
use Rattle.state_columns.specs.Spelt.{states_from}
use Rattle.state_columns.proofs.Stating.{Stating}
use Rattle.state_columns.proofs.spelling.spell_rows.Given as goal

abbrev pub invariant-loop-i : goal.invariant-loop-i
invariant-loop-i l =
    Stating (states_from l.rules l.tree l.names l.states l.end l.lo) l.n l.initial.parts (l.d * 1041) l.parts l.i
