-- `check_lists` meets its contract.
use Rattle.basics.proofs.Deciding.{told}
use Rattle.trace_writer.proofs.TraceChecks.{checked_18, checked_12}
use Rattle.trace_writer.proofs.checks.check_lists.Goals as goal

pub returns-then-not-lists_fit : goal.returns-then-not-lists_fit
returns-then-not-lists_fit c =
    checked_18 _ _ _ _ _ c.lists_fit.ensures c.if-not-lists_fit.true
    c.refuse.ensures

pub returns : goal.returns
returns c =
    checked_12 (told _ c.lists_fit.ensures c.if-not-lists_fit.false)
    c.check_names.result c.check_names.ensures
