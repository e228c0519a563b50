-- `settling::put_row` meets its contract. The loop's invariant: the entries so far are written.
use Prim.Native.Nat.{◌≤◌}
use lib.ListN.{get_or}
use Rattle.basics.specs.Words.{listed}
use Rattle.basics.proofs.Stores.{Writing}
use Rattle.steady_pins.specs.Finding.{pin_entry}
use Rattle.steady_pins.proofs.settling.put_row.Given as goal

abbrev pub invariant-loop-n : goal.invariant-loop-n
invariant-loop-n l =
    (l.n ≤ 32) × Writing l.initial.pins l.base (listed 0 32 (λ k. pin_entry (get_or l.before k 0) (get_or l.mine k 0) 0)) l.pins l.n
