-- `sort_nodes` meets its contract: what it has at hand shows the run over the nodes passed.
use mathlib.Core.List.{List, []}
use Prim.Native.Nat.{ℕ, ◌≤◌}
use Rattle.grammar.specs.Answers.{handed}
use Rattle.sorting.specs.declared.sorts.Sorting.{Sorting}
use Rattle.sorting.specs.Lookup.{number_at}
use Rattle.sorting.specs.Passes.{Fine, Shows, going, run}
use Rattle.sorting.proofs.sorts.sort_nodes.Given as goal

pub record Along (names text codes places : List ℕ) (len : ℕ) (s : Sorting) (i : ℕ) : Type 0 where
  pub far : i ≤ len
  pub room : s.len ≤ i
  pub fine : Fine s
  pub shows : Shows s (run (number_at names text) (handed codes places i) (going []))

abbrev pub invariant-loop-i : goal.invariant-loop-i
invariant-loop-i l = Along l.names l.text l.codes l.places l.len l.s l.i
