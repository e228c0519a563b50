-- `put_gap` meets its contract: no blank before the first word, one before the others.
use Rattle.spelling.proofs.Steps.{gap_none, gap_some}
use native.Mathlib.Omega.{arith}
use mathlib.Core.Path.{refl, ap}
use lib.ListN.{length}
use Rattle.spelling.proofs.spells.put_gap.Goals as goal

pub returns-then-i-eq0 : goal.returns-then-i-eq0
returns-then-i-eq0 c = rw (gap_none _ c.if-i-eq0.true) (record { bytes = refl; next = omega arith })

pub push-requires : goal.push-requires
push-requires c = omega (arith, ap length (gap_some _ c.if-i-eq0.false))

pub returns : goal.returns
returns c = rw (gap_some _ c.if-i-eq0.false) c.push.ensures
