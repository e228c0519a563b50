-- `settling::settle_name` meets its contract.
use Rattle.steady_pins.proofs.SettledRows.{named_still, named_held, named_missing, named_new}
use Rattle.steady_pins.proofs.settling.settle_name.Goals as goal

pub returns-then-not-changing : goal.returns-then-not-changing
returns-then-not-changing c = named_still c.if-not-changing.true c.put_name.ensures

pub returns-then-before-ne0 : goal.returns-then-before-ne0
returns-then-before-ne0 c = named_held c.if-not-changing.false c.if-before-ne0.true

pub returns-then-after-eq0 : goal.returns-then-after-eq0
returns-then-after-eq0 c =
    named_missing c.if-not-changing.false c.if-before-ne0.false c.if-after-eq0.true

pub returns : goal.returns
returns c =
    named_new c.if-not-changing.false c.if-before-ne0.false c.if-after-eq0.false c.put_name-2.ensures
