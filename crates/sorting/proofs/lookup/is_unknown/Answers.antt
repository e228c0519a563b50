-- `is_unknown` meets its contract.
use Rattle.sorting.proofs.SlotNumbers.{unknown_other, unknown_name}
use Rattle.sorting.proofs.lookup.is_unknown.Goals as goal

pub returns-then-code-ne0 : goal.returns-then-code-ne0
returns-then-code-ne0 c = unknown_other _ _ _ _ c.if-code-ne0.true

pub returns : goal.returns
returns c = unknown_name _ _ _ _ c.if-code-ne0.false c.slot_of.ensures
