-- `times::mark` meets its contract. The loop's invariant is Marking: the rows before r have their flags and times.
use Prim.Native.Nat.{◌-◌}
use Rattle.beginnings.proofs.Marking.{Marking}
use Rattle.beginnings.proofs.times.mark.Given as goal

abbrev pub invariant-loop-r : goal.invariant-loop-r
invariant-loop-r l =
    Marking l.times l.steps l.n l.answers l.tried l.initial.given l.initial.began l.given l.began l.r
