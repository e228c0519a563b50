-- `first_over` gives the first token that goes over the limit. The invariant: those passed do not, and the search in
-- the rest is the search in all.
use mathlib.Core.Path.{◌≡◌}
use Prim.Native.Nat.{◌≤◌, ◌+◌}
use lib.ListN.{take, drop}
use Rattle.tokens.specs.Inner.{changed, over_at}
use Rattle.tokens.proofs.limits.first_over.Given as goal

abbrev pub invariant-loop-i : goal.invariant-loop-i
invariant-loop-i l =
    (l.i ≤ l.count) × (l.n ≤ l.limit) ×
    (l.i + over_at (changed l.brackets) l.limit l.n (drop l.i (take l.count l.codes)) ≡
    over_at (changed l.brackets) l.limit 0 (take l.count l.codes))
