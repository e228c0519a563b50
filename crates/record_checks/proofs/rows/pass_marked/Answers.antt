use native.Mathlib.Omega.{arith}
use Rattle.record_checks.proofs.ManyRows.{onward_none, onward_next}
use Rattle.record_checks.proofs.rows.pass_marked.Goals as goal

pub loop-s-init : goal.loop-s-init
loop-s-init c = onward_none c.requires

pub is_row-requires : goal.is_row-requires
is_row-requires c = c.loop-s.invariant.stands

pub pass_row-s-requires : goal.pass_row-s-requires
pass_row-s-requires c = c.is_row.ensures.good c.loop-s-test.true

pub loop-s-smaller : goal.loop-s-smaller
loop-s-smaller c = omega (arith, c.pass_row-s.ensures.further, c.pass_row-s.ensures.stands.within)

pub loop-s-preserved : goal.loop-s-preserved
loop-s-preserved c = onward_next c.loop-s.invariant c.pass_row-s.ensures

pub returns : goal.returns
returns c = c.loop-s.invariant
