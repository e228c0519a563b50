-- `finding::pass` meets its contract.
use Rattle.steady_pins.proofs.StepEntries.{passed_moving, passed_still}
use Rattle.steady_pins.proofs.finding.pass.Goals as goal

pub returns-then-mine : goal.returns-then-mine
returns-then-mine c = passed_moving c.args.mine c.args.before c.over-places.ensures c.if-mine.true

pub returns : goal.returns
returns c = passed_still c.args.mine c.args.before c.over-places.ensures c.if-mine.false
