-- `find` gives the first of the spellings that stands at a place. The invariant: those passed do not, so the search in
-- the rest is the search in all.
use mathlib.Core.Path.{◌≡◌}
use Prim.Native.Nat.{◌≤◌}
use lib.ListN.{drop}
use Rattle.token_steps.specs.Spelling.{spellings}
use Rattle.token_steps.specs.Steps.{first_of}
use Rattle.token_steps.proofs.spellings.find.Given as goal

abbrev pub invariant-loop-i : goal.invariant-loop-i
invariant-loop-i l =
    (l.i ≤ 26) × (first_of (drop l.i spellings) (drop l.at l.text) ≡ first_of spellings (drop l.at l.text))
