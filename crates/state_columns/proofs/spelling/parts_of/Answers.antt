-- `spelling::parts_of` meets its contract.
use mathlib.Core.Path.{refl}
use borrow.Author.Tests.{lt-ltb, le-ltb}
use Rattle.state_columns.proofs.spelling.parts_of.Goals as goal

pub returns-then-b-lt60 : goal.returns-then-b-lt60
returns-then-b-lt60 c = record { is = rw (lt-ltb _ _ c.if-b-lt60.true) refl }

pub returns-else-b-lt60 : goal.returns-else-b-lt60
returns-else-b-lt60 c = record { is = rw (le-ltb _ _ c.if-b-lt60.false) refl }
