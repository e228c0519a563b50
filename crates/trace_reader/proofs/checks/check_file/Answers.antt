-- `check_file` meets its contract.
use native.Mathlib.Omega.{arith}
use Rattle.std.proofs.lemmas.Result.{err_from_is_err_and}
use Rattle.trace_format.specs.Records.{Before}
use Rattle.record_checks.proofs.CursorSteps.{start_stands, start_before}
use Rattle.trace_reader.proofs.FileChecks.{goes_on, file_refused, file_accepted}
use Rattle.trace_reader.proofs.checks.check_file.Goals as goal
use Rattle.trace_reader.proofs.checks.check_file.Goals.{After-pass_rows-s}

-- where the turn stands behind the rows that it passed
passed : (c : After-pass_rows-s)
    → Before c.args.file.now c.pass_rows-s.result.names c.pass_rows-s.result.rows
passed c = c.pass_rows-s.ensures.before c.loop-s.invariant.1

pub loop-s-init : goal.loop-s-init
loop-s-init c = (start_stands _, start_before _)

pub pass_rows-s-requires : goal.pass_rows-s-requires
pass_rows-s-requires c = c.loop-s.invariant.0

pub returns-in_err-check_record : goal.returns-in_err-check_record
returns-in_err-check_record c =
    let p = err_from_is_err_and c.from_residual.result c.from_residual.ensures.1 in
    rw (p.1, p.2)
    (file_refused c.pass_rows-s.result
    (passed (goal.at.returns-in_err-check_record c).After-pass_rows-s) _ c.in_err-check_record.ensures)

pub pass_name-s-requires : goal.pass_name-s-requires
pass_name-s-requires c =
    goes_on _ c.pass_rows-s.ensures.stands _ (rw c.in-Name.is at c.in_ok-check_record.ensures)

pub pass_row-s-requires : goal.pass_row-s-requires
pass_row-s-requires c =
    goes_on _ c.pass_rows-s.ensures.stands _ (rw c.in-Row.is at c.in_ok-check_record.ensures)

pub returns-in-End : goal.returns-in-End
returns-in-End c =
    file_accepted c.pass_rows-s.result
    (passed (goal.at.returns-in-End c).After-pass_rows-s) (rw c.in-End.is at c.in_ok-check_record.ensures)

pub loop-s-smaller-in-Name : goal.loop-s-smaller-in-Name
loop-s-smaller-in-Name c =
    omega
    (arith, c.pass_rows-s.ensures.further, c.pass_name-s.ensures.further, c.pass_name-s.ensures.stands.within)

pub loop-s-preserved-in-Name : goal.loop-s-preserved-in-Name
loop-s-preserved-in-Name c = (
  c.pass_name-s.ensures.stands,
  c.pass_name-s.ensures.before (passed (goal.at.loop-s-preserved-in-Name c).After-pass_rows-s),
)

pub loop-s-smaller : goal.loop-s-smaller
loop-s-smaller c =
    omega
    (arith, c.pass_rows-s.ensures.further, c.pass_row-s.ensures.further, c.pass_row-s.ensures.stands.within)

pub loop-s-preserved : goal.loop-s-preserved
loop-s-preserved c = (
  c.pass_row-s.ensures.stands,
  c.pass_row-s.ensures.before (passed (goal.at.loop-s-preserved c).After-pass_rows-s),
)
