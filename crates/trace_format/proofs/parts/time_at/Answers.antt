-- `time_at` meets its contract: eight bytes are four and four.
use Rattle.trace_format.proofs.Numbers.{time_front, time_short, time_whole, time_long}
use Rattle.trace_format.proofs.parts.time_at.Goals as goal

pub word_at-low-requires : goal.word_at-low-requires
word_at-low-requires c = time_front _ _ c.requires

pub returns-then-w-eq4 : goal.returns-then-w-eq4
returns-then-w-eq4 c = time_short _ _ c.requires c.word_at-low.ensures c.if-w-eq4.true

pub word_at-requires : goal.word_at-requires
word_at-requires c = time_whole _ _ c.requires c.word_at-low.ensures c.if-w-eq4.false

pub returns : goal.returns
returns c = time_long _ _ c.requires c.word_at-low.ensures c.if-w-eq4.false c.word_at.ensures
