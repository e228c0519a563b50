-- `contradictions` meets its contract.
use Rattle.basics.proofs.Deciding.{not_told, told}
use Rattle.contradictions.proofs.Reporting.{report_18, report_10, report_on}
use Rattle.contradictions.proofs.reports.contradictions.Goals as goal

pub returns-then-not-names_fit : goal.returns-then-not-names_fit
returns-then-not-names_fit c =
    report_18 _ _ _ _ (not_told _ c.names_fit.ensures c.if-not-names_fit.true)
    c.refuse.ensures

pub returns-then-not-accepts : goal.returns-then-not-accepts
returns-then-not-accepts c =
    report_10 _ _ _ _ (told _ c.names_fit.ensures c.if-not-names_fit.false)
    (not_told _ c.accepts.ensures c.if-not-accepts.true) c.refuse-then-not-accepts.ensures

pub report-requires : goal.report-requires
report-requires c = (
  told _ c.accepts.ensures c.if-not-accepts.false,
  told _ c.names_fit.ensures c.if-not-names_fit.false,
)

pub returns : goal.returns
returns c =
    report_on _ _ _ _ (told _ c.names_fit.ensures c.if-not-names_fit.false)
    (told _ c.accepts.ensures c.if-not-accepts.false) c.report.ensures
