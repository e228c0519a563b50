-- `width_of` meets its contract: the digits passed, and those of what is left, are the number's.
use Prim.Native.Nat.{◌+◌, ◌≤◌}
use mathlib.Core.Path.{◌≡◌}
use Rattle.figures.specs.Numbers.{width}
use Rattle.figures.proofs.numbers.width_of.Given as goal

abbrev pub invariant-loop-m : goal.invariant-loop-m
invariant-loop-m l = (1 ≤ l.w) × (l.m ≤ l.n) × (l.w + width l.m ≡ width l.n + 1)

abbrev pub decreases-loop-m : goal.decreases-loop-m
decreases-loop-m l = l.m
