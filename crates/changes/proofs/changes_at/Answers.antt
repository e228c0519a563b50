-- `changes_at` meets its contract: one law for each return.
use Rattle.basics.proofs.Deciding.{told, not_told}
use Rattle.changes.proofs.Returns.{inside, refused_18, refused_15, refused_19, changed_row}
use Rattle.changes.proofs.changes_at.Goals as goal

pub returns-then-not-lists_fit : goal.returns-then-not-lists_fit
returns-then-not-lists_fit c =
    refused_18 _ _ _ _ (not_told _ c.lists_fit.ensures c.if-not-lists_fit.true)
    c.refuse.ensures

pub returns-then-bad-states : goal.returns-then-bad-states
returns-then-bad-states c =
    refused_15 _ _ _ _ (told _ c.lists_fit.ensures c.if-not-lists_fit.false)
    c.first_bad_code-bad.ensures c.if-bad-states.true c.refuse-then-bad-states.ensures

pub returns-then-n-at : goal.returns-then-n-at
returns-then-n-at c =
    refused_19 _ _ _ _ (told _ c.lists_fit.ensures c.if-not-lists_fit.false)
    c.first_bad_code-bad.ensures
    c.if-bad-states.false c.if-n-at.true c.refuse-then-n-at.ensures

pub of_row-requires : goal.of_row-requires
of_row-requires c =
    inside _ _ _ _ (told _ c.lists_fit.ensures c.if-not-lists_fit.false)
    c.if-n-at.false

pub returns : goal.returns
returns c =
    changed_row _ _ _ _ (told _ c.lists_fit.ensures c.if-not-lists_fit.false)
    c.first_bad_code-bad.ensures _
    c.if-bad-states.false c.if-n-at.false c.of_row.ensures
