-- `word_at` meets its contract.
use Rattle.trace_format.proofs.Numbers.{word_is}
use Rattle.trace_format.proofs.parts.word_at.Goals as goal

pub returns : goal.returns
returns c =
    word_is _ _ c.byte_at-a.ensures c.byte_at-b.ensures
    c.byte_at-c.ensures c.byte_at-d.ensures
