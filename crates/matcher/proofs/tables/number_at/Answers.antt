-- `matcher::tables::number_at` meets its contract.
use mathlib.Core.Path.{◌∙◌}
use Rattle.matcher.proofs.tables.number_at.Goals as goal

pub returns : goal.returns
returns c = c.number_of.ensures ∙ c.match_row-m.ensures.is
