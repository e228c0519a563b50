-- `rewrite` meets its contract.
use Rattle.basics.proofs.Deciding.{not_told, told}
use Rattle.acceptance.proofs.Acceptance.{accepted_tree}
use Rattle.rewriting.proofs.Bounds.{ready_pinned}
use Rattle.rewriting.proofs.Holding.{found_ready}
use Rattle.rewriting_calls.proofs.Calls.{refused_18, refused_10, passed_on}
use Rattle.rewriting_calls.proofs.rewrite.Goals as goal

pub returns-then-not-names_fit : goal.returns-then-not-names_fit
returns-then-not-names_fit c =
    refused_18 _ _ _ _ _ _ _ (not_told _ c.names_fit.ensures c.if-not-names_fit.true)
    c.refuse.ensures

pub returns-then-not-accepts : goal.returns-then-not-accepts
returns-then-not-accepts c =
    refused_10 _ _ _ _ _ _ _ (told _ c.names_fit.ensures c.if-not-names_fit.false)
    (not_told _ c.accepts.ensures c.if-not-accepts.true) c.refuse-then-not-accepts.ensures

pub find-pins-requires : goal.find-pins-requires
find-pins-requires c = accepted_tree _ _ (told _ c.accepts.ensures c.if-not-accepts.false)

pub note-notes-requires : goal.note-notes-requires
note-notes-requires c =
    ready_pinned _ _ _
    (found_ready (told _ c.accepts.ensures c.if-not-accepts.false) c.find-pins.ensures)

pub deliver-requires : goal.deliver-requires
deliver-requires c = (
  found_ready (told _ c.accepts.ensures c.if-not-accepts.false) c.find-pins.ensures,
  c.note-notes.ensures,
)

pub returns : goal.returns
returns c =
    passed_on _ _ _ _ _ _ _ (told _ c.names_fit.ensures c.if-not-names_fit.false)
    (told _ c.accepts.ensures c.if-not-accepts.false) (rw c.find-pins.ensures at
    c.deliver.ensures)
