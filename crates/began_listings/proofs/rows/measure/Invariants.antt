-- `measure` meets its contract: the lines of the rows before i are measured.
use Prim.Native.Nat.{◌≤◌}
use lib.ListN.{length}
use Rattle.began_listings.specs.Inner.{Measured}
use Rattle.matcher.specs.Scenes.{state_on, alternatives_on}
use Rattle.began_listings.proofs.rows.measure.Given as goal

abbrev pub invariant-loop-i : goal.invariant-loop-i
invariant-loop-i l =
    (l.i ≤ length l.times) ×
    Measured (state_on l.scene) l.times (alternatives_on l.scene l.lists) l.m l.i
