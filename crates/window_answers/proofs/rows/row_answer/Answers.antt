-- `rows::row_answer` meets its contract.
use Rattle.alf.specs.Answers.{number_of}
use Rattle.window_answers.proofs.RowAnswers.{row_first, row_later}
use Rattle.window_answers.proofs.rows.row_answer.Goals as goal

pub returns-then-row-eq0 : goal.returns-then-row-eq0
unfolding number_of
returns-then-row-eq0 c = row_first _ _ _ c.if-row-eq0.true

pub best_at-requires : goal.best_at-requires
unfolding number_of
best_at-requires c = c.requires

pub name_of-requires : goal.name_of-requires
unfolding number_of
name_of-requires c = tt

pub returns : goal.returns
unfolding number_of
returns c = row_later _ _ _ c.if-row-eq0.false c.best_at.ensures c.name_of.ensures
