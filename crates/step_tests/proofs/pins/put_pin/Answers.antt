-- `pins::put_pin` meets its contract.
use borrow.Author.Rules.{rules}
use Rattle.step_tests.proofs.PinPuts.{no_pin, pin_fits, a_pin}
use Rattle.step_tests.proofs.pins.put_pin.Goals as goal

pub returns-then-pin-eq0 : goal.returns-then-pin-eq0
returns-then-pin-eq0 c = no_pin c.if-pin-eq0.true

pub put_test-requires : goal.put_test-requires
put_test-requires c = pin_fits c.if-pin-eq0.false (search rules) c.requires

pub returns : goal.returns
returns c = a_pin c.if-pin-eq0.false c.put_test.ensures
