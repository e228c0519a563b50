-- `notes::start_by` meets its contract. The loop's invariant: from `end` back to `at`, the parts not yet passed are
-- still to be passed.
use Prim.Native.Nat.{◌-◌}
use Rattle.acceptance.proofs.Noting.{Passing}
use Rattle.acceptance.proofs.notes.start_by.Given as goal

abbrev pub invariant-loop : goal.invariant-loop
invariant-loop l = Passing l.tree l.names l.end l.at (l.need - l.counter)
