-- `sizes::measure` meets its contract.
use Rattle.acceptance.proofs.MeasuredPins.{tree_pinned, measured_meant}
use Rattle.acceptance.proofs.sizes.measure.Goals as goal

pub find-pins-requires : goal.find-pins-requires
find-pins-requires c = c.requires

pub note-notes-requires : goal.note-notes-requires
note-notes-requires c = tree_pinned _ c.requires c.find-pins.ensures

pub measure_pinned-requires : goal.measure_pinned-requires
measure_pinned-requires c = (tree_pinned _ c.requires c.find-pins.ensures, c.note-notes.ensures)

pub returns : goal.returns
returns c = measured_meant _ c.requires c.find-pins.ensures c.measure_pinned.ensures
