-- `scan` reads a text token by token. The invariant: what was read so far, and that the text comes to what its rest
-- comes to (Scanned); the measure is what is left of the text.
use Prim.Native.Nat.{◌-◌}
use lib.ListN.{length}
use Rattle.tokens.proofs.Scanning.{Scanned}
use Rattle.tokens.proofs.scan.Given as goal

abbrev pub invariant-loop-at : goal.invariant-loop-at
invariant-loop-at l = Scanned l.text l.at l.count l.codes l.places

abbrev pub decreases-loop-at : goal.decreases-loop-at
decreases-loop-at l = length l.text - l.at
