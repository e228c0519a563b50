-- `tell_part` meets its contract.
use Rattle.std.proofs.lemmas.Result.{err_from_is_err_and}
use native.Mathlib.Omega.{arith}
use Rattle.trace_writer.proofs.TraceChecks.{some_rows}
use Rattle.activity.specs.Activity.{PartOf}
use Rattle.activity.proofs.WholeText.{no_part, rows_refused, checked_good, part_delivered}
use Rattle.activity.proofs.texts.tell_part.Goals as goal
use Rattle.activity.proofs.texts.tell_part.Goals.{Else-n-to}

inside : (c : Else-n-to) → PartOf c.args.n c.args.from c.args.to
inside c = record { some = c.if-to-from.false; within = c.if-n-to.false }

pub returns-then-to-from : goal.returns-then-to-from
returns-then-to-from c = no_part (λ p. omega (arith, p.some, c.if-to-from.true)) c.refuse.ensures

pub returns-then-n-to : goal.returns-then-n-to
returns-then-n-to c = no_part (λ p. omega (arith, p.within, c.if-n-to.true)) c.refuse-then-n-to.ensures

pub check_rows-requires : goal.check_rows-requires
check_rows-requires c = some_rows c.requires _ _ (omega (arith, c.if-to-from.false, c.if-n-to.false))

pub overflow_sub-many : goal.overflow_sub-many
overflow_sub-many c = omega (arith, c.if-to-from.false)

pub write_part-requires : goal.write_part-requires
write_part-requires c =
    checked_good c.requires (inside (goal.at.write_part-requires c).Else-n-to) c.check_rows.ensures
    c.in_ok-check_rows.was

pub returns-in_err-check_rows : goal.returns-in_err-check_rows
returns-in_err-check_rows c =
    let p = err_from_is_err_and c.from_residual.result c.from_residual.ensures.1 in
    rw (p.1, p.2)
    (rows_refused (inside (goal.at.returns-in_err-check_rows c).Else-n-to) _ c.check_rows.ensures
    c.in_err-check_rows.was)

pub returns : goal.returns
returns c =
    part_delivered (inside (goal.at.returns c).Else-n-to) c.check_rows.ensures c.in_ok-check_rows.was
    c.write_part.ensures
