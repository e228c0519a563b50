-- `rows::prepare` meets its contract.
use borrow.Author.Rules.{rules}
use Rattle.blocks.proofs.Preparing.{tables_asked, prepared_done, prepared_none}
use Rattle.blocks.proofs.rows.prepare.Goals as goal

pub number-many-requires : goal.number-many-requires
number-many-requires c = c.requires.asked

pub put_tables-requires : goal.put_tables-requires
put_tables-requires c = tables_asked c.requires (search rules) c.if-many-lt65.true

pub returns-then-many-lt65 : goal.returns-then-many-lt65
returns-then-many-lt65 c = prepared_done c.number-many.ensures c.put_tables.ensures

pub returns-else-many-lt65 : goal.returns-else-many-lt65
returns-else-many-lt65 c = prepared_none c.if-many-lt65.false
