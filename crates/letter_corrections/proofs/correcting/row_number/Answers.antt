use Rattle.letter_corrections.proofs.Decimals.{going_first, going_next, going_end, none_number}
use Rattle.letter_corrections.proofs.correcting.row_number.Goals as goal

pub returns-then-text-eq0 : goal.returns-then-text-eq0
returns-then-text-eq0 c = none_number _ c.if-text-eq0.true

pub loop-i-init : goal.loop-i-init
loop-i-init c = going_first

pub go_on-n-requires : goal.go_on-n-requires
go_on-n-requires c = c.loop-i.invariant.small

pub loop-i-preserved : goal.loop-i-preserved
loop-i-preserved c = going_next c.loop-i.invariant c.loop-i-test.true c.go_on-n.ensures

pub returns : goal.returns
returns c = going_end c.loop-i.invariant c.loop-i-test.false c.if-text-eq0.false
