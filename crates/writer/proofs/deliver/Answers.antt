-- `deliver` meets its contract: 1, 9, or the text at the front.
use Rattle.writer.proofs.Calls.{delivered_long, delivered_short, delivered}
use Rattle.writer.proofs.deliver.Goals as goal

pub returns-then-size-gt4096 : goal.returns-then-size-gt4096
returns-then-size-gt4096 c = rw c.refuse.ensures (delivered_long c.if-size-gt4096.true)

pub returns-then-out-size : goal.returns-then-out-size
returns-then-out-size c =
    rw c.refuse-then-out-size.ensures (delivered_short c.if-size-gt4096.false c.if-out-size.true)

pub returns : goal.returns
returns c = delivered c.if-size-gt4096.false c.if-out-size.false c.put.ensures
