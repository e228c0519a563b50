-- Two checks in turn, as one verdict: what the calls tell of `a?; b`, and the law of it.
--   next_of        the first verdict, and where that is good the second
--   judged_next    their orders are appended
use Rattle.std.specs.Prelude.{Err, Ok}
use mathlib.Core.Path.{refl}
use mathlib.Core.List.{◌++◌}
use Rattle.alf.specs.Refusals.{Order}
use Rattle.judging.specs.Orders.{Verdict, Judged}
use Rattle.judging.proofs.Verdicts.{judged_stop, judged_go}

unfoldable pub next_of : Verdict → Verdict → Verdict
next_of (Ok x) w = w
next_of (Err r) w = Err r

pub judged_next : {o o' : Order} {F G : Type 0} {v w : Verdict} → Judged o F v → Judged o' G w
    → Judged (o ++ o') (F × G) (next_of v w)
unfolding next_of
judged_next {o} {o'} {v = Ok x} j k = judged_go j refl k
judged_next {o} {o'} {v = Err r} j k = judged_stop o' j refl
