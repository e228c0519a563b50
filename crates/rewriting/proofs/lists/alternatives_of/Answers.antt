-- `rewriting::lists::alternatives_of` meets its contract.
use Rattle.acceptance.proofs.Acceptance.{accepted_tree}
use Rattle.rewriting.proofs.Bounds.{ready_pinned}
use Rattle.rewriting.proofs.Holding.{found_ready, holds}
use Rattle.rewriting.proofs.lists.alternatives_of.Goals as goal

pub find-pins-requires : goal.find-pins-requires
find-pins-requires c = accepted_tree _ _ c.requires

pub note-notes-requires : goal.note-notes-requires
note-notes-requires c = ready_pinned _ _ _ (found_ready c.requires c.find-pins.ensures)

pub lengths_of-lengths-requires : goal.lengths_of-lengths-requires
lengths_of-lengths-requires c = (found_ready c.requires c.find-pins.ensures, c.note-notes.ensures)

pub fill_arrays-requires : goal.fill_arrays-requires
fill_arrays-requires c = (found_ready c.requires c.find-pins.ensures, c.note-notes.ensures)

pub returns : goal.returns
returns c =
    let long = rw c.find-pins.ensures at c.lengths_of-lengths.ensures in
    let filled = rw c.find-pins.ensures at c.fill_arrays.ensures in
    holds _ _ _ c.requires _ long filled
