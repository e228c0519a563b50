-- `plain_of` meets its contract.
use mathlib.Core.Path.{refl}
use borrow.Author.Tests.{lt-ltb, le-ltb}
use Rattle.table_lines.specs.Table.{plain}
use Rattle.table_lines.proofs.lines.plain_of.Goals as goal

pub returns-then-b-lt32 : goal.returns-then-b-lt32
unfolding plain
returns-then-b-lt32 c = rw (lt-ltb _ _ c.if-b-lt32.true) refl

pub returns : goal.returns
unfolding plain
returns c = rw (le-ltb _ _ c.if-b-lt32.false) refl
