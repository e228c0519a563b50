-- `code_size` meets its contract.
use Rattle.listing.proofs.ColumnWords.{answer_known, answer_sized, value_sized}
use Rattle.listing.proofs.lines.code_size.Goals as goal

pub word_size-requires : goal.word_size-requires
word_size-requires c = answer_known _ c.in-Answers.is c.requires

pub returns-in-Answers : goal.returns-in-Answers
returns-in-Answers c = answer_sized _ c.in-Answers.is c.word_size.ensures

pub returns-in-Values : goal.returns-in-Values
returns-in-Values c = value_sized _ c.in-Values.is
