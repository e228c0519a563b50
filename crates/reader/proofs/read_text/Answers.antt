-- `read_text` meets its contract.
use Rattle.reader.proofs.Openings.{text_refused, tokened}
use Rattle.reader.proofs.read_text.Goals as goal

pub read_tokened-requires : goal.read_tokened-requires
read_tokened-requires c = tokened c.requires (rw c.in-Ok.is at c.read_tokens.ensures)

pub returns-in-Err : goal.returns-in-Err
returns-in-Err c = text_refused _ c.requires (rw c.in-Err.is at c.read_tokens.ensures)
