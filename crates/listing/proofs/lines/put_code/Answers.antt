-- `put_code` meets its contract.
use Rattle.listing.proofs.ColumnWords.{answer_wording, answer_put, value_known, value_room, value_put}
use Rattle.listing.proofs.lines.put_code.Goals as goal

pub put_word-requires : goal.put_word-requires
put_word-requires c = answer_wording _ c.in-Answers.is c.requires

pub letter_of-requires : goal.letter_of-requires
letter_of-requires c = value_known _ c.in-Values.is c.requires

pub push-requires : goal.push-requires
push-requires c = value_room _ c.in-Values.is c.requires

pub returns-in-Answers : goal.returns-in-Answers
returns-in-Answers c = answer_put _ c.in-Answers.is c.put_word.ensures

pub returns-in-Values : goal.returns-in-Values
returns-in-Values c = value_put _ c.in-Values.is c.letter_of.ensures c.push.ensures
