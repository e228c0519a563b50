-- `pins::put_noted` meets its contract.
use Rattle.step_tests.proofs.Puts.{put_lengths}
use Rattle.step_tests.proofs.PinPuts.{no_tests}
use Rattle.step_tests.proofs.pins.put_noted.Goals as goal

pub pins_at-many-requires : goal.pins_at-many-requires
pins_at-many-requires c = (c.requires.1, c.requires.0.entries.some)

pub returns-then-many-eq0 : goal.returns-then-many-eq0
returns-then-many-eq0 c = no_tests c.pins_at-many.ensures c.if-many-eq0.true c.requires.0.upto

pub put_pins-requires : goal.put_pins-requires
put_pins-requires c = c.requires.0

pub shape_of-edges : goal.shape_of-edges
shape_of-edges c = (put_lengths c.put_pins.ensures).0

pub shape_of-operands : goal.shape_of-operands
shape_of-operands c = (put_lengths c.put_pins.ensures).1

pub returns : goal.returns
returns c = c.put_pins.ensures
