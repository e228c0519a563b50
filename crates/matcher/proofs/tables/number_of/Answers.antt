-- `matcher::tables::number_of` meets its contract.
use mathlib.Core.Path.{ap, sym}
use Rattle.alf.specs.Answers.{number_of}
use Rattle.matcher.proofs.tables.number_of.Goals as goal

pub returns-in-No : goal.returns-in-No
unfolding number_of
returns-in-No c = ap number_of (sym c.in-No.is)

pub returns-in-Yes : goal.returns-in-Yes
unfolding number_of
returns-in-Yes c = ap number_of (sym c.in-Yes.is)

pub returns-in-Unknown : goal.returns-in-Unknown
unfolding number_of
returns-in-Unknown c = ap number_of (sym c.in-Unknown.is)

pub returns-in-NoEvent : goal.returns-in-NoEvent
unfolding number_of
returns-in-NoEvent c = ap number_of (sym c.in-NoEvent.is)
