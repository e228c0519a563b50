-- `put_literal` meets its contract: a digit by itself, a letter based.
use Rattle.spelling.proofs.Tables.{literal_half, literal_base, literal_plain, literal_based}
use Rattle.spelling.proofs.halves.put_literal.Goals as goal

pub put_half-requires : goal.put_half-requires
put_half-requires c = literal_half c.requires c.if-h-lt3.true

pub returns-then-h-lt3 : goal.returns-then-h-lt3
returns-then-h-lt3 c = rw (literal_plain _ c.if-h-lt3.true) c.put_half.ensures

pub put_based-requires : goal.put_based-requires
put_based-requires c = literal_base c.requires c.if-h-lt3.false

pub returns : goal.returns
returns c = rw (literal_based _ c.if-h-lt3.false) c.put_based.ensures
