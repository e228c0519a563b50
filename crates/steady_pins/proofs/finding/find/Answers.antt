-- `finding::find` meets its contract.
use Rattle.steady_pins.proofs.MarkedPins.{found_on, found_off}
use Rattle.steady_pins.proofs.ApartParts.{first_walk}
use Rattle.steady_pins.proofs.finding.find.Goals as goal

pub mark_apart-requires : goal.mark_apart-requires
mark_apart-requires c = first_walk c.requires c.no_rows-rows.ensures c.blank-pins.ensures

pub returns-then-rules : goal.returns-then-rules
returns-then-rules c = found_on _ _ _ _ c.if-rules.true c.blank-pins.ensures c.mark_apart.ensures.pins

pub returns-else-rules : goal.returns-else-rules
returns-else-rules c = found_off _ _ _ _ c.if-rules.false c.blank-pins.ensures
