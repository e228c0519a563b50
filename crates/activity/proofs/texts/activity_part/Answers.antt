-- `activity_part` meets its contract.
use Rattle.std.proofs.lemmas.Result.{err_from_is_err_and}
use Rattle.trace_writer.proofs.TraceChecks.{names_good}
use Rattle.activity.proofs.WholeText.{lists_refused, lists_passed}
use Rattle.activity.proofs.texts.activity_part.Goals as goal

pub tell_part-requires : goal.tell_part-requires
tell_part-requires c = names_good c.check_lists.ensures c.in_ok-k.was

pub returns-in_err-k : goal.returns-in_err-k
returns-in_err-k c =
    let p = err_from_is_err_and c.from_residual.result c.from_residual.ensures.1 in
    rw (p.1, p.2) (lists_refused _ c.check_lists.ensures c.in_err-k.was)

pub returns : goal.returns
returns c =
    lists_passed (names_good c.check_lists.ensures c.in_ok-k.was)
    c.tell_part.ensures
