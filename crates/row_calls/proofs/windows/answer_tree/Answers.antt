-- `windows::answer_tree` meets its contract.
use mathlib.Core.Path.{ap, ◌∙◌}
use Rattle.alf.specs.Windows.{numbered}
use Rattle.row_calls.proofs.windows.answer_tree.Goals as goal

pub answer-rank-requires : goal.answer-rank-requires
answer-rank-requires c = record { pattern = c.requires.ends; within = c.requires.there }

pub returns : goal.returns
returns c = c.name_of.ensures ∙ ap numbered c.answer-rank.ensures
