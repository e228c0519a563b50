-- `is_marked` meets its contract.
use borrow.Author.Tests.{eqb-true}
use mathlib.Core.Path.{sym, ap, ◌∙◌}
use Rattle.basics.proofs.Bools.{never}
use Rattle.trace_format.specs.declared.Mark.TheVariants.{Row}
use Rattle.record_checks.proofs.rows.is_marked.Goals as goal

pub returns-in-Row : goal.returns-in-Row
returns-in-Row c =
    record {
      marked = λ e. sym c.in-Row.ensures ∙ ap Row (eqb-true _ _ e);
    }

pub returns-in-Name : goal.returns-in-Name
returns-in-Name c = record { marked = never }

pub returns-in-End : goal.returns-in-End
returns-in-End c = record { marked = never }

pub returns-in-Other : goal.returns-in-Other
returns-in-Other c = record { marked = never }
