-- `check_states` meets its contract.
use Prim.Native.Nat.{◌+◌, ◌≤◌}
use Rattle.alf.specs.Refusals.{Passed}
use Rattle.trace_texts.specs.Texts.{states_order}
use Rattle.trace_texts.specs.Finding.{from, Finds}
use Rattle.text_checks.proofs.states.check_states.Given as goal

abbrev pub invariant-loop-i : goal.invariant-loop-i
invariant-loop-i l =
    (l.i ≤ l.k) × Finds l.text l.p (l.i + 1) l.word.start l.word.end
    × Passed (states_order (from l.text l.p).first l.i)
