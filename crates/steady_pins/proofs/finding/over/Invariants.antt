-- `finding::over` meets its contract. The loop's invariant: the entries so far are written.
use Prim.Native.Nat.{◌≤◌}
use lib.ListN.{get_or, replicate}
use Rattle.basics.specs.Words.{listed}
use Rattle.basics.proofs.Stores.{Writing}
use Rattle.steady_pins.specs.Walking.{over}
use Rattle.steady_pins.proofs.finding.over.Given as goal

abbrev pub invariant-loop-n : goal.invariant-loop-n
invariant-loop-n l =
    (l.n ≤ 32) × Writing (replicate 32 0) 0 (listed 0 32 (λ k. over (get_or l.places k 0) (get_or l.others k 0))) l.r l.n
