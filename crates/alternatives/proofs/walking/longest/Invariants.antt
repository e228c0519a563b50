-- `walking::longest` meets its contract. The loop's invariant: with the entries still to be seen, `most` comes to the
-- greatest.
use mathlib.Core.Path.{◌≡◌}
use Prim.Native.Nat.{max}
use lib.ListN.{drop}
use Rattle.basics.specs.Words.{greatest_of}
use Rattle.alternatives.proofs.walking.longest.Given as goal

abbrev pub invariant-loop-many : goal.invariant-loop-many
invariant-loop-many l = max l.most (greatest_of (λ n. n) (drop l.many-index l.steps)) ≡ greatest_of (λ n. n) l.steps
